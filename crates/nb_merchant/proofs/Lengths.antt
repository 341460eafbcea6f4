-- How long an order is that is in its grammar, whatever stands in it; and the limits of an endorsement.
use Rattle.std.proofs.Common.{◌≡◌, ℕ, ◌+◌, ◌<◌, ◌≤◌, ◌^◌, Bool, true, false, cond, ltb, List, ◌++◌, length, drop, take, codes, Result, Ok, Err, refl, subst, arith}
use Rattle.std.proofs.lemmas.Bool.{ltb-false}
use Rattle.std.proofs.lemmas.List.{length-take}
use Rattle.nb_units.specs.declared.cut.CutFault.{CutFault}
use Rattle.nb_units.specs.declared.cut.CutFault.TheVariants.{Short, Long, Extra}
use Rattle.nb_units.specs.declared.epoid.Epoid.{Epoid}
use Rattle.nb_units.specs.declared.limits.TheConstants.{MAX_HIDDEN, MAX_ORDER}
use Rattle.nb_units.specs.Fields.{be4, u32_at, u64_at, raw_at, bytes_at, behind_length, done_at, or_place}
use Rattle.nb_seal.proofs.Opening.{length-hmac_of}
use Rattle.nb_epo.specs.declared.order.Order.{Order}
use Rattle.nb_epo.specs.Reading.{order_of}
use Rattle.nb_endorse.specs.Spelling.{IsEndorsement}
use Rattle.nb_stall.specs.declared.stall.Stall.{Stall}
use Rattle.nb_stall.specs.Messages.{endorsement_for}
use Rattle.nb_merchant.proofs.Following.{inside}

-- a test for a fault that was passed
passed : {A : Type 0} (test : Bool) (fault : CutFault) (r : Result A CutFault) (x : A) → or_place (cond test (Err fault) r) ≡ Ok x → (test ≡ false) × (or_place r ≡ Ok x)
passed true fault r x e = absurd cc
passed false fault r x e = (refl, e)

text_is : (x y : List ℕ) → (let r : Result (List ℕ) ℕ = Ok x in r ≡ Ok y) → x ≡ y
text_is x y e = cc

text_within : (max : ℕ) (bytes : List ℕ) (place : ℕ) (x : List ℕ) → or_place (bytes_at max bytes place) ≡ Ok x → length x ≤ max
unfolding bytes_at
text_within max bytes place x e = by (u32_at bytes place) e
  where
    by : (n : Result ℕ CutFault) → or_place (behind_length max (drop 4 (drop place bytes)) place n) ≡ Ok x → length x ≤ max
    by (Err fault) e = absurd cc
    by (Ok n) e =
        let behind = drop 4 (drop place bytes) in
        let small = passed (ltb max n) (Long place n max) _ x e in
        let there = passed (ltb (length behind) n) (Short place) (Ok (take n behind)) x small.1 in
        subst (λ (text : List ℕ). length text ≤ max) (text_is (take n behind) x there.1) (omega (arith, length-take n behind, ltb-false max n small.0))

end_within : (bytes : List ℕ) (place : ℕ) (end : Unit {0}) → or_place (done_at bytes place) ≡ Ok end → length bytes ≤ place
unfolding done_at
end_within bytes place end e = ltb-false place (length bytes) (passed (ltb place (length bytes)) (Extra place) (Ok tt) end e).0

order_within : (hidden long : ℕ) → hidden ≤ MAX_HIDDEN → long ≤ 136 + hidden + 32 → long ≤ MAX_ORDER
order_within hidden long small within = omega arith

pub read_is_short : (order : List ℕ) (o : Order) → order_of order ≡ Ok o → length order ≤ MAX_ORDER
unfolding order_of
read_is_short order o is =
    let consumer = inside (or_place (u32_at order 0)) _ o is in
    let merchant = inside (or_place (u32_at order 4)) _ o consumer.2 in
    let product = inside (or_place (u32_at order 8)) _ o merchant.2 in
    let price = inside (or_place (u64_at order 12)) _ o product.2 in
    let epoid = inside (or_place (raw_at 16 order 20)) _ o price.2 in
    let checksum = inside (or_place (raw_at 32 order 36)) _ o epoid.2 in
    let request = inside (or_place (raw_at 32 order 68)) _ o checksum.2 in
    let account = inside (or_place (raw_at 32 order 100)) _ o request.2 in
    let hidden = inside (or_place (bytes_at MAX_HIDDEN order 132)) _ o account.2 in
    let tag = inside (or_place (raw_at 32 order (136 + length hidden.0))) _ o hidden.2 in
    let end = inside (or_place (done_at order (136 + length hidden.0 + 32))) _ o tag.2 in
    order_within (length hidden.0) (length order) (text_within MAX_HIDDEN order 132 hidden.0 hidden.1) (end_within order (136 + length hidden.0 + 32) end.0 end.1)

pub endorsement_within : (stall : Stall) (epoid : Epoid) (order : List ℕ) → length order ≤ MAX_ORDER → stall.acct.0 < 2 ^ 32 → IsEndorsement (endorsement_for stall epoid order)
endorsement_within stall epoid order short account =
    record { order = short; macct = account; memo = omega arith; key = length-hmac_of stall.master (codes "goods" ++ (be4 stall.id.0 ++ be4 epoid.serial)) }

-- The checksum at its place.
use Rattle.std.proofs.Common.{◌≡◌, ℕ, ◌+◌, Bool, true, false, List, ◌++◌, length, take, drop, Result, Ok, Err, refl, sym, ap, ◌∙◌, append_assoc}
use Rattle.std.proofs.lemmas.List.{take_at}
use Rattle.std.specs.Prelude.{nat_lt, if◌then◌else◌}
use Rattle.nb_units.specs.declared.cut.CutFault.TheVariants.{Short}
use Rattle.nb_units.specs.declared.limits.TheConstants.{MAX_HIDDEN}
use Rattle.nb_units.specs.Epoid.{epoid_bytes}
use Rattle.nb_units.specs.Fields.{◌>>=◌, u32_at, u64_at, raw_at, bytes_at, done_at, or_place, sized}
use Rattle.nb_epo.specs.declared.order.Order.{Order}
use Rattle.nb_epo.specs.Spelling.{untagged_bytes}
use Rattle.nb_epo.specs.Reading.{order_of}
use Rattle.nb_epo.specs.Places.{ChecksumIsRead, ChecksumIsSpelled}

-- what a reading that led to a value went through
inside : {A B E : Type 0} (r : Result A E) (f : A → Result B E) (b : B) → (r >>= f) ≡ Ok b → (x : A) × (r ≡ Ok x) × (f x ≡ Ok b)
inside (Ok x) f b is = (x, refl, is)
inside (Err e) f b is = absurd cc

raw_is : (n : ℕ) (bytes : List ℕ) (place : ℕ) (x : List ℕ) → or_place (raw_at n bytes place) ≡ Ok x → x ≡ take n (drop place bytes)
unfolding raw_at
raw_is n bytes place x is = cases (nat_lt (length (drop place bytes)) n) is
  where
    cases : (b : Bool) → or_place (if b then Err (Short place) else Ok (take n (drop place bytes))) ≡ Ok x → x ≡ take n (drop place bytes)
    cases true is = absurd cc
    cases false is = cc

pub checksum_is_read : ChecksumIsRead
unfolding order_of
checksum_is_read bytes o is =
    let consumer = inside (or_place (u32_at bytes 0)) _ o is in
    let merchant = inside (or_place (u32_at bytes 4)) _ o consumer.2 in
    let product = inside (or_place (u32_at bytes 8)) _ o merchant.2 in
    let price = inside (or_place (u64_at bytes 12)) _ o product.2 in
    let epoid = inside (or_place (raw_at 16 bytes 20)) _ o price.2 in
    let checksum = inside (or_place (raw_at 32 bytes 36)) _ o epoid.2 in
    let request = inside (or_place (raw_at 32 bytes 68)) _ o checksum.2 in
    let account = inside (or_place (raw_at 32 bytes 100)) _ o request.2 in
    let hidden = inside (or_place (bytes_at MAX_HIDDEN bytes 132)) _ o account.2 in
    let tag = inside (or_place (raw_at 32 bytes (136 + length hidden.0))) _ o hidden.2 in
    let end = inside (or_place (done_at bytes (136 + length hidden.0 + 32))) _ o tag.2 in
    let same = ok_same _ o end.2 in
    sym (ap (λ (x : Order). x.checksum) same) ∙ raw_is 32 bytes 36 checksum.0 checksum.1
  where
    ok_same : (x y : Order) → ◌≡◌ {A = Result Order ℕ} (Ok x) (Ok y) → x ≡ y
    ok_same x y e = cc

pub checksum_is_spelled : ChecksumIsSpelled
unfolding untagged_bytes epoid_bytes
checksum_is_spelled o long =
    let behind : ((((o.checksum ++ o.request) ++ o.account) ++ sized o.hidden) ++ o.tag) ≡ o.checksum ++ (o.request ++ (o.account ++ (sized o.hidden ++ o.tag))) =
    append_assoc ((o.checksum ++ o.request) ++ o.account) (sized o.hidden) o.tag
    ∙ append_assoc (o.checksum ++ o.request) o.account (sized o.hidden ++ o.tag)
    ∙ append_assoc o.checksum o.request (o.account ++ (sized o.hidden ++ o.tag)) in
    ap (take 32) behind ∙ take_at o.checksum (o.request ++ (o.account ++ (sized o.hidden ++ o.tag))) 32 long

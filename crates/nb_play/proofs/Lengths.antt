-- How long a drill's frames are.
use Rattle.std.proofs.Common.{◌≡◌, ℕ, ◌+◌, ◌-◌, ◌/◌, ◌≤◌, ◌<◌, List, [], ◌∷◌, ◌++◌, length, length-append, codes, take, refl, sym, subst, ap, arith, inl, inr}
use Rattle.std.proofs.lemmas.Bool.{cases_lt}
use Rattle.sha2.proofs.Facts256.{length-sha256}
use Rattle.nb_units.specs.Fields.{be4, be8, sized}
use Rattle.nb_units.specs.Epoid.{epoid_bytes}
use Rattle.nb_units.specs.Frames.{IsFrame}
use Rattle.nb_seal.specs.Seal.{seal_of}
use Rattle.nb_seal.proofs.Opening.{length-seal_of, length-hmac_of}
use Rattle.nb_body.specs.Spelling.{enrolment_bytes, funding_bytes, endorsed_bytes}
use Rattle.nb_body.specs.declared.endorsed.EndorsedOrder.{EndorsedOrder}
use Rattle.nb_body.specs.declared.enrolment.Enrolment.{Enrolment}
use Rattle.nb_body.specs.declared.funding.Funding.{Funding}
use Rattle.nb_epo.specs.Spelling.{order_bytes, untagged_bytes, hidden_bytes}
use Rattle.nb_epo.specs.declared.order.Order.{Order}
use Rattle.nb_epo.specs.declared.hidden.Hidden.{Hidden}
use Rattle.nb_endorse.specs.Spelling.{endorsement_bytes}
use Rattle.nb_endorse.specs.declared.endorsement.Endorsement.{Endorsement}
use Rattle.nb_play.specs.declared.frames.TheConstants.{OPERATOR_NAME}
use Rattle.nb_play.specs.Drill.{frame_at, party, account, key_of, party_of, money_of, enrolment, funding, consumer_of, merchant_of, terms_of, order_of, endorsement_of, order_frame}
use Rattle.nb_play.specs.Feed.{AreFrames}
use Rattle.nb_play.proofs.Framing.{parties_at, funds_at, orders}

enrolment_long : (n : Enrolment) → length n.key ≡ 32 → length n.tag ≡ 32 → length (enrolment_bytes n) ≡ 81
unfolding enrolment_bytes
enrolment_long n key tag =
    let front : List ℕ = be4 n.id.0 ++ (n.role ∷ []) ++ be4 n.acct.0 ++ be8 n.nonce in
    let long : length front ≡ 17 = refl in
    omega (arith, length-append (front ++ n.key) n.tag, length-append front n.key, long, key, tag)

funding_long : (f : Funding) → length f.reference ≡ 16 → length f.tag ≡ 32 → length (funding_bytes f) ≡ 60
unfolding funding_bytes
funding_long f reference tag =
    let front : List ℕ = be4 f.acct.0 ++ be8 f.amount in
    let long : length front ≡ 12 = refl in
    omega (arith, length-append (front ++ f.reference) f.tag, length-append front f.reference, long, reference, tag)

hidden_long : (h : Hidden) → h.memo ≡ [] → length (hidden_bytes h) ≡ 16
unfolding hidden_bytes
hidden_long h none =
    let front : List ℕ = be4 h.acct.0 ++ be8 h.nonce ++ be4 (length h.memo) in
    let long : length front ≡ 16 = refl in
    omega (arith, length-append (be4 h.acct.0 ++ be8 h.nonce) (sized h.memo), length-append (be4 (length h.memo)) h.memo, ap length none)

untagged_long : (o : Order) → length o.checksum ≡ 32 → length o.request ≡ 32 → length o.account ≡ 32 → length (untagged_bytes o) ≡ 136 + length o.hidden
unfolding untagged_bytes epoid_bytes
untagged_long o checksum request account =
    let front : List ℕ = be4 o.consumer.0 ++ be4 o.merchant.0 ++ be4 o.product ++ be8 o.price.0 ++ epoid_bytes o.epoid in
    let long : length front ≡ 36 = refl in
    omega (
      arith,
      long,
      checksum,
      request,
      account,
      length-append (front ++ o.checksum ++ o.request ++ o.account) (sized o.hidden),
      length-append (be4 (length o.hidden)) o.hidden,
      length-append (front ++ o.checksum ++ o.request) o.account,
      length-append (front ++ o.checksum) o.request,
      length-append front o.checksum,
    )

endorsement_long : (e : Endorsement) → e.memo ≡ [] → length e.key ≡ 32 → length (endorsement_bytes e) ≡ 44 + length e.order
unfolding endorsement_bytes
endorsement_long e none key =
    let behind : List ℕ = be4 e.macct.0 in
    omega (
      arith,
      key,
      ap length none,
      length-append (sized e.order ++ behind ++ sized e.memo) e.key,
      length-append (sized e.order ++ behind) (sized e.memo),
      length-append (be4 (length e.memo)) e.memo,
      length-append (sized e.order) behind,
      length-append (be4 (length e.order)) e.order,
    )

endorsed_long : (o : EndorsedOrder) → length (endorsed_bytes o) ≡ 8 + length o.sealed
unfolding endorsed_bytes
endorsed_long o = omega (arith, length-append (be4 o.merchant.0) (sized o.sealed), length-append (be4 (length o.sealed)) o.sealed)

order_long : (seed i consumer merchant : ℕ) → length (order_bytes (order_of seed i consumer merchant)) ≡ 216
order_long seed i consumer merchant =
    let terms = terms_of seed i consumer merchant in
    let note : Hidden = record { acct = account consumer; nonce = consumer; memo = [] } in
    let hidden : length terms.hidden ≡ 32 + length (hidden_bytes note) = length-seal_of (key_of seed consumer) (codes "hide") (hidden_bytes note) in
    let order = order_of seed i consumer merchant in
    let tag : length order.tag ≡ 32 = length-hmac_of (key_of seed consumer) (codes "ordr" ++ untagged_bytes terms) in
    omega (arith, tag, hidden, hidden_long note refl, untagged_long order refl refl refl, length-append (untagged_bytes order) order.tag)

order_frame_long : (seed i : ℕ) → length (order_frame seed i).body ≡ 300
order_frame_long seed i =
    let consumer = consumer_of seed i in
    let merchant = merchant_of seed i in
    let e = endorsement_of seed i consumer merchant in
    let key : length e.key ≡ 32 = length-hmac_of (key_of seed merchant) (codes "goods" ++ (be4 merchant ++ be4 i)) in
    let sealed : List ℕ = seal_of (key_of seed merchant) (codes "endo") (endorsement_bytes e) in
    omega (
      arith,
      endorsed_long (record { merchant = party merchant; sealed = sealed }),
      length-seal_of (key_of seed merchant) (codes "endo") (endorsement_bytes e),
      endorsement_long e refl key,
      order_long seed i consumer merchant,
    )

enrolments : (seed i : ℕ) → i < 16 → IsFrame (frame_at seed i)
enrolments seed i within =
    let e = enrolment seed (i + 1) in
    let key : length e.key ≡ 32 = length-sha256 (be8 seed ++ be4 (i + 1)) in
    let tag : length e.tag ≡ 32 = length-hmac_of (key_of seed OPERATOR_NAME) (codes "enro" ++ take (length (enrolment_bytes (party_of seed (i + 1))) - 32) (enrolment_bytes (party_of seed (i + 1)))) in
    subst IsFrame (sym (parties_at seed i within)) (omega arith, omega arith, omega (arith, enrolment_long e key tag))

fundings : (seed i : ℕ) → 16 ≤ i → i < 24 → IsFrame (frame_at seed i)
fundings seed i behind within =
    let f = funding seed (i + 1 - 16) in
    let tag : length f.tag ≡ 32 = length-hmac_of (key_of seed OPERATOR_NAME) (codes "fund" ++ take (length (funding_bytes (money_of (i + 1 - 16))) - 32) (funding_bytes (money_of (i + 1 - 16)))) in
    subst IsFrame (sym (funds_at seed i behind within)) (omega arith, omega arith, omega (arith, funding_long f refl tag))

order_frames : (seed i : ℕ) → 24 ≤ i → IsFrame (frame_at seed i)
order_frames seed i behind =
    subst IsFrame (sym (orders seed i behind)) (omega arith, omega arith, omega (arith, order_frame_long seed ((i - 24) / 2)))

pub are_frames : AreFrames
are_frames seed place =
    elim (cases_lt place 16) [
      | inl first ↦ enrolments seed place first
      | inr behind ↦ elim (cases_lt place 24) [
        | inl second ↦ fundings seed place behind second
        | inr last ↦ order_frames seed place last
      ]
    ]

-- What each test says where it fails, and that it holds where what it asks for is so.
use Rattle.std.proofs.Common.{◌≡◌, ◌≢◌, ◌⊎◌, inl, inr, ℕ, ◌<◌, Bool, true, false, nat_lt, List, length, Option, None, Some, IsNone, Result, Ok, Err, refl, sym, ap, ◌∙◌, eq-eqb}
use Rattle.std.proofs.lemmas.Bool.{eqb-false, lt-ltb, ltb-false}
use Rattle.std.proofs.lemmas.Option.{same_Some}
use Rattle.std.proofs.lemmas.Slice.Eq.{bytes_eq-Decides}
use Rattle.std.specs.Prelude.{◌==◌}
use Rattle.std.specs.Option.{option_map}
use Rattle.std.specs.Str.{bytes_eq}
use Rattle.nb_units.specs.declared.ids.PartyId.{PartyId}
use Rattle.nb_units.specs.Fields.{◌>>=◌}
use Rattle.nb_seal.specs.Seal.{text_in}
use Rattle.nb_seal.proofs.Opening.{text_in_opens, text_in_no_seal}
use Rattle.nb_entry.specs.declared.entry.Entry.{Entry}
use Rattle.nb_book.specs.declared.party.Party.{Party}
use Rattle.nb_book.specs.Searches.{party_in}
use Rattle.nb_epo.specs.declared.order.Order.{Order}
use Rattle.nb_endorse.specs.declared.refusal.TheConstants.{NOT_ENROLLED, OTHER_MERCHANT, IDENTIFIER_USED}
use Rattle.nb_endorse.specs.declared.refusal.Refusal.{Refusal}
use Rattle.nb_endorse.specs.Refusals.{refusal, refusal_with}
use Rattle.nb_seal.specs.Seal.{OpensAs}
use Rattle.nb_body.specs.declared.endorsed.EndorsedOrder.{EndorsedOrder}
use Rattle.nb_escrow.specs.Checks.{unless, well_formed, if_found, enrolled, enrolled_as, if_text, unsealed, right_tag, room_left}
use Rattle.nb_escrow.specs.Orders.{names_endorser, same_merchant, same_digest}
use Rattle.nb_escrow.specs.Claims.{IsMalformed, IsNotInRole, IsNotSealed, IsSealedBadly, IsOtherTag, IsFull, NamesOther}
use Rattle.nb_escrow.proofs.Recording.{formed, held_so, names_so}
use Rattle.nb_escrow.proofs.Unsealing.{tested}

-- ---- one test behind another

-- what comes of a test and of what follows it
pub behind : {A B : Type 0} (P : Result B Refusal → Type 0) (r : Result A Refusal) (f : A → Result B Refusal)
    → ((why : Refusal) → r ≡ Err why → P (Err why)) → ((x : A) → r ≡ Ok x → P (f x)) → P (r >>= f)
behind P (Ok x) f fails holds = holds x refl
behind P (Err why) f fails holds = fails why refl

-- a test that holds goes on
pub step : {A B E : Type 0} (r : Result A E) (f : A → Result B E) (x : A) → r ≡ Ok x → (r >>= f) ≡ f x
step r f x is = rw is refl

pub same_why : {A : Type 0} (a b : Refusal) → (let r : Result A Refusal = Err a in r) ≡ Err b → a ≡ b
same_why a b is = cc

-- ---- what a test says where it fails

pub fails_so : (b : Bool) (r why : Refusal) → unless b r ≡ Err why → (b ≡ false) × (why ≡ r)
fails_so true r why is = absurd cc
fails_so false r why is = (refl, sym (same_why r why is))

pub malformed : {A : Type 0} (part : ℕ) (r : Result A ℕ) (why : Refusal) → well_formed part r ≡ Err why → IsMalformed part r why
malformed part (Ok x) why is = absurd cc
malformed part (Err place) why is = (place, refl, sym (same_why _ why is))

pub not_in_role : (H : List Entry) (role : ℕ) (id : PartyId) (why : Refusal) → enrolled_as H role id ≡ Err why → IsNotInRole H role id why
unfolding enrolled_as enrolled
not_in_role H role id why is = part (party_in H id) is
  where
    tested_so : (q : Party) (b : Bool) → (unless b (refusal NOT_ENROLLED id.0 0) >>= (λ u. let r : Result Party Refusal = Ok q in r)) ≡ Err why → (b ≡ false) × (why ≡ refusal NOT_ENROLLED id.0 0)
    tested_so q true is = absurd cc
    tested_so q false is = (refl, sym (same_why _ why is))

    part : (o : Option Party) → (if_found id o >>= (λ (q : Party). unless (q.role == role) (refusal NOT_ENROLLED id.0 0) >>= (λ u. Ok q))) ≡ Err why
        → (option_map (λ (q : Party). q.role) o ≢ Some role) × (why ≡ refusal NOT_ENROLLED id.0 0)
    part None is = (λ e. absurd cc, sym (same_why _ why is))
    part (Some q) is =
        let so = tested_so q (q.role == role) is in
        (λ e. eqb-false q.role role so.0 (same_Some q.role role e), so.1)

pub not_enrolled : (H : List Entry) (id : PartyId) (why : Refusal) → enrolled H id ≡ Err why → IsNone (party_in H id) × (why ≡ refusal NOT_ENROLLED id.0 0)
unfolding enrolled
not_enrolled H id why is = part (party_in H id) is
  where
    part : (o : Option Party) → if_found id o ≡ Err why → IsNone o × (why ≡ refusal NOT_ENROLLED id.0 0)
    part None is = (refl, sym (same_why _ why is))
    part (Some q) is = absurd cc

pub party_found : (H : List Entry) (id : PartyId) (party : Party) → enrolled H id ≡ Ok party → party_in H id ≡ Some party
unfolding enrolled
party_found H id party is = part (party_in H id) is
  where
    same : (q : Party) → (let r : Result Party Refusal = Ok q in r) ≡ Ok party → q ≡ party
    same q is = cc

    part : (o : Option Party) → if_found id o ≡ Ok party → o ≡ Some party
    part None is = absurd cc
    part (Some q) is = ap (λ (x : Party). let o : Option Party = Some x in o) (same q is)

pub opened_so : {A : Type 0} (reading : List ℕ → Result A ℕ) (part : ℕ) (key label bytes : List ℕ) (x : A) → tested reading part key label bytes ≡ Ok x → OpensAs reading key label bytes (Ok x)
unfolding unsealed
opened_so {A} reading part key label bytes x is = cases (text_in key label bytes) refl is
  where
    cases : (o : Option (List ℕ)) → text_in key label bytes ≡ o → (if_text bytes o >>= (λ plain. well_formed part (reading plain))) ≡ Ok x → OpensAs reading key label bytes (Ok x)
    cases None found is = absurd cc
    cases (Some plain) found is = (plain, (text_in_opens key label bytes plain).0 found, formed part (reading plain) x is)

pub unopened_so : {A : Type 0} (reading : List ℕ → Result A ℕ) (part : ℕ) (key label bytes : List ℕ) (why : Refusal) → tested reading part key label bytes ≡ Err why
    → IsNotSealed key label bytes why ⊎ IsSealedBadly part reading key label bytes why
unfolding unsealed
unopened_so {A} reading part key label bytes why is = cases (text_in key label bytes) refl is
  where
    cases : (o : Option (List ℕ)) → text_in key label bytes ≡ o → (if_text bytes o >>= (λ plain. well_formed part (reading plain))) ≡ Err why
        → IsNotSealed key label bytes why ⊎ IsSealedBadly part reading key label bytes why
    cases None found is = inl ((text_in_no_seal key label bytes).0 found, sym (same_why _ why is))
    cases (Some plain) found is =
        let bad = malformed part (reading plain) why is in
        inr (bad.0, (plain, (text_in_opens key label bytes plain).0 found, bad.1), bad.2)

apart_bytes : (xs ys : List ℕ) → bytes_eq xs ys ≡ false → xs ≢ ys
apart_bytes xs ys no_match same = apart (sym ((bytes_eq-Decides xs ys).1 same) ∙ no_match)
  where
    apart : true ≡ false → ⊥
    apart e = cc

pub other_tag : (given right : List ℕ) (why : Refusal) → right_tag given right ≡ Err why → IsOtherTag given right why
unfolding right_tag
other_tag given right why is =
    let so = fails_so (bytes_eq given right) _ why is in
    (apart_bytes given right so.0, so.1)

pub right_so : (given right : List ℕ) (u : Unit {0}) → right_tag given right ≡ Ok u → given ≡ right
unfolding right_tag
right_so given right u is = (bytes_eq-Decides given right).0 (held_so (bytes_eq given right) _ u is)

pub used_so : (kept digest : List ℕ) (why : Refusal) → same_digest kept digest ≡ Err why → (kept ≢ digest) × (why ≡ refusal_with IDENTIFIER_USED kept)
unfolding same_digest
used_so kept digest why is =
    let so = fails_so (bytes_eq kept digest) _ why is in
    (apart_bytes kept digest so.0, so.1)

pub digest_so : (kept digest : List ℕ) (u : Unit {0}) → same_digest kept digest ≡ Ok u → kept ≡ digest
unfolding same_digest
digest_so kept digest u is = (bytes_eq-Decides kept digest).0 (held_so (bytes_eq kept digest) _ u is)

pub full_so : (H : List Entry) (cap : ℕ) (why : Refusal) → room_left H cap ≡ Err why → IsFull H cap why
unfolding room_left
full_so H cap why is =
    let so = fails_so (nat_lt (length H) cap) _ why is in
    (ltb-false (length H) cap so.0, so.1)

other_id : (named endorser : PartyId) (why : Refusal) → names_endorser endorser named ≡ Err why → (named ≢ endorser) × (why ≡ refusal OTHER_MERCHANT endorser.0 named.0)
other_id named endorser why is =
    let so = fails_so (named.0 == endorser.0) _ why is in
    (λ same. eqb-false named.0 endorser.0 so.0 (ap (λ (id : PartyId). id.0) same), so.1)

pub other_so : (request : EndorsedOrder) (order : Order) (why : Refusal) → same_merchant request.merchant order ≡ Err why → NamesOther request order why
unfolding same_merchant
other_so request order why is =
    behind (λ (r : Result (Unit {0}) Refusal). r ≡ Err why → NamesOther request order why) (names_endorser request.merchant order.merchant) _
    (λ w first is. let other = other_id order.merchant request.merchant w first in inl (other.0, sym (same_why w why is) ∙ other.1))
    (λ u first is. let other = other_id order.epoid.merchant request.merchant why is in inr (names_so request.merchant order.merchant u first, other.0, other.1))
    is

-- ---- a test holds where what it asks for is so

pub holds_so : {R : Type 0} (b : Bool) (why : R) → b ≡ true → unless b why ≡ Ok tt
holds_so b why is = rw is refl

pub in_role : (H : List Entry) (role : ℕ) (id : PartyId) (party : Party) → party_in H id ≡ Some party → party.role ≡ role → enrolled_as H role id ≡ Ok party
unfolding enrolled_as enrolled
in_role H role id party found same = rw found (rw (eq-eqb party.role role same) refl)

pub sealed_so : {A : Type 0} (reading : List ℕ → Result A ℕ) (part : ℕ) (key label bytes : List ℕ) (x : A) → OpensAs reading key label bytes (Ok x) → tested reading part key label bytes ≡ Ok x
unfolding unsealed
sealed_so reading part key label bytes x seals = rw ((text_in_opens key label bytes seals.0).1 seals.1) (rw seals.2 refl)

pub same_merchants : (endorser : PartyId) (order : Order) → order.merchant ≡ endorser → order.epoid.merchant ≡ endorser → same_merchant endorser order ≡ Ok tt
unfolding same_merchant
same_merchants endorser order first second = rw (first, second, eq-eqb endorser.0 endorser.0 refl) refl

pub tag_so : (given right : List ℕ) → given ≡ right → right_tag given right ≡ Ok tt
unfolding right_tag
tag_so given right same = rw ((bytes_eq-Decides given right).1 same) refl

pub room_for : (H : List Entry) (cap : ℕ) → length H < cap → room_left H cap ≡ Ok tt
unfolding room_left
room_for H cap room = rw (lt-ltb (length H) cap room) refl

pub same_digests : (kept digest : List ℕ) → kept ≡ digest → same_digest kept digest ≡ Ok tt
unfolding same_digest
same_digests kept digest same = rw ((bytes_eq-Decides kept digest).1 same) refl

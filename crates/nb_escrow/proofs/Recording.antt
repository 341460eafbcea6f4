-- What a verdict records is legal after the entries that it was taken over, and there is room for it.
use Rattle.std.proofs.Common.{◌≡◌, ◌≢◌, ◌⊎◌, inl, inr, ℕ, ◌+◌, ◌<◌, ◌≤◌, ◌++◌, Bool, true, false, not, ◌&&◌, ◌||◌, nat_lt, nat_le, is_some, List, length, codes, Option, None, Some, IsSome, IsNone, Result, Ok, Err, arith, refl, sym, ap, subst, ◌∙◌, eq-eqb}
use Rattle.std.proofs.lemmas.Bool.{eqb-true, ltb-true, leb-true}
use Rattle.std.proofs.lemmas.Option.{none-some}
use Rattle.std.specs.Prelude.{◌==◌, if◌then◌else◌}
use Rattle.nb_units.specs.declared.frames.TheConstants.{ORDER_REQUEST, STATUS_REQUEST, TICKET_REQUEST, ENROL_REQUEST, FUND_REQUEST}
use Rattle.nb_units.specs.declared.ids.AcctId.{AcctId}
use Rattle.nb_units.specs.declared.ids.PartyId.{PartyId}
use Rattle.nb_units.specs.declared.epoid.Epoid.{Epoid}
use Rattle.nb_units.specs.Fields.{◌>>=◌, or_place, allowed, u8_at, u32_at, u64_at, raw_at, done_at}
use Rattle.nb_seal.specs.Hmac.{hmac_of}
use Rattle.nb_entry.specs.declared.entry.Entry.{Entry}
use Rattle.nb_entry.specs.declared.entry.TheConstants.{CONSUMER, MERCHANT}
use Rattle.nb_book.specs.declared.funded.Funded.{Funded}
use Rattle.nb_book.specs.declared.limits.TheConstants.{MAX_TOTAL}
use Rattle.nb_book.specs.declared.party.Party.{Party}
use Rattle.nb_book.specs.Searches.{party_in, holder_in, funded_in, order_in}
use Rattle.nb_book.specs.Money.{total}
use Rattle.nb_book.specs.Legal.{NextUnder}
use Rattle.nb_epo.specs.declared.order.Order.{Order}
use Rattle.nb_epo.specs.Reading.{order_of}
use Rattle.nb_epo.specs.Tags.{order_tag}
use Rattle.nb_endorse.specs.declared.refusal.TheConstants.{IN_BODY, IN_ORDER, NOT_ENROLLED}
use Rattle.nb_endorse.specs.declared.refusal.Refusal.{Refusal}
use Rattle.nb_endorse.specs.Refusals.{refusal}
use Rattle.nb_escrow.specs.declared.decision.Decision.{Decision}
use Rattle.nb_body.specs.declared.enrolment.Enrolment.{Enrolment}
use Rattle.nb_body.specs.declared.funding.Funding.{Funding}
use Rattle.nb_escrow.specs.declared.head.Head.{Head}
use Rattle.nb_escrow.specs.declared.order.Presented.{Presented}
use Rattle.nb_escrow.specs.declared.settlement.Settlement.{Settlement}
use Rattle.nb_escrow.specs.Checks.{signed_part, unless, well_formed, if_found, enrolled, enrolled_as, right_tag, room_left}
use Rattle.nb_escrow.specs.Head.{IsRuling}
use Rattle.nb_escrow.specs.Held.{place_in}
use Rattle.nb_body.specs.Reading.{enrolment_of, funding_of, endorsed_of}
use Rattle.nb_escrow.specs.Enrolments.{enrol_entry, if_unheld, numbers_free, again_or_enrol, enrol_steps}
use Rattle.nb_escrow.specs.Fundings.{fund_entry, if_unfunded, reference_new, account_held, total_within, again_or_fund, fund_steps}
use Rattle.nb_escrow.specs.Orders.{presented_of, IsPresented, endorsement_in, hidden_in, names_endorser, same_merchant, same_digest, again_or_settle, order_steps}
use Rattle.nb_escrow.specs.Settlements.{settlement_in}
use Rattle.nb_escrow.specs.Payments.{payment_steps, outcome_of}
use Rattle.nb_escrow.specs.Laws.{RecordsLegal}
use Rattle.nb_escrow.specs.Verdict.{steps, told}
use Rattle.nb_escrow.proofs.Paying.{settled_legal}
use Rattle.nb_escrow.proofs.Telling.{none_settled, status_records_none, ticket_records_none}

-- ---- a test that goes before

-- it gave what the next one goes on with
pub inside : {A B E : Type 0} (r : Result A E) (f : A → Result B E) (b : B) → (r >>= f) ≡ Ok b → (x : A) × (r ≡ Ok x) × (f x ≡ Ok b)
inside (Ok x) f b is = (x, refl, is)
inside (Err fault) f b is = absurd cc

-- a part that was well formed was read
pub formed : {A : Type 0} (part : ℕ) (r : Result A ℕ) (x : A) → well_formed part r ≡ Ok x → r ≡ Ok x
formed {A} part (Ok y) x is = same y x is
  where
    same : (y x : A) → (let r : Result A Refusal = Ok y in r) ≡ Ok x → (let r : Result A ℕ = Ok y in r) ≡ Ok x
    same y x is = ap (λ (z : A). let r : Result A ℕ = Ok z in r) cc
formed part (Err place) x is = absurd cc

-- what is asked for held
pub held_so : {R : Type 0} (b : Bool) (why : R) (u : Unit {0}) → unless b why ≡ Ok u → b ≡ true
held_so true why u is = refl
held_so false why u is = absurd cc

-- ---- what is recorded, as what a decision that passed all tests records

abbrev Fits : List Entry → Head → ℕ → Entry → Type 0
Fits H head cap e = NextUnder head.version head.rate H e × (length H < cap)

-- the entry of a decision fits, if there is one
abbrev Recorded : List Entry → Head → ℕ → Option Entry → Type 0
Recorded H head cap None = Unit {0}
Recorded H head cap (Some e) = Fits H head cap e

abbrev RecordedIn : List Entry → Head → ℕ → Result Decision Refusal → Type 0
RecordedIn H head cap r = (d : Decision) → r ≡ Ok d → Recorded H head cap d.entry

pub same_decision : (d d' : Decision) → (let r : Result Decision Refusal = Ok d in r) ≡ Ok d' → d ≡ d'
same_decision d d' is = cc

pub room_so : (H : List Entry) (cap : ℕ) (u : Unit {0}) → room_left H cap ≡ Ok u → length H < cap
unfolding room_left
room_so H cap u is = ltb-true (length H) cap (held_so (nat_lt (length H) cap) _ u is)

-- ---- enrolments

allowed_so : (b : Bool) (place : ℕ) (u : Unit {0}) → allowed b place ≡ Ok u → b ≡ true
allowed_so true place u is = refl
allowed_so false place u is = absurd cc

pub role_so : (body : List ℕ) (asked : Enrolment) → enrolment_of body ≡ Ok asked → (asked.role ≡ CONSUMER) ⊎ (asked.role ≡ MERCHANT)
unfolding enrolment_of
role_so body asked is =
    let id = inside (or_place (u32_at body 0)) _ asked is in
    let role = inside (or_place (u8_at body 4)) _ asked id.2 in
    let known = inside (allowed (role.0 == CONSUMER || role.0 == MERCHANT) 4) _ asked role.2 in
    let acct = inside (or_place (u32_at body 5)) _ asked known.2 in
    let nonce = inside (or_place (u64_at body 9)) _ asked acct.2 in
    let key = inside (or_place (raw_at 32 body 17)) _ asked nonce.2 in
    let tag = inside (or_place (raw_at 32 body 49)) _ asked key.2 in
    let end = inside (or_place (done_at body 81)) _ asked tag.2 in
    either asked.role role.0 (same_role _ asked end.2) (allowed_so (role.0 == CONSUMER || role.0 == MERCHANT) 4 known.0 known.1)
  where
    same_role : (a b : Enrolment) → (let r : Result Enrolment ℕ = Ok a in r) ≡ Ok b → b.role ≡ a.role
    same_role a b is = cc

    either : (mine role : ℕ) → mine ≡ role → (role == CONSUMER || role == MERCHANT) ≡ true → (mine ≡ CONSUMER) ⊎ (mine ≡ MERCHANT)
    either mine role same known = grind (arith, eqb-true)

pub free_so : (H : List Entry) (id : PartyId) (acct : AcctId) (u : Unit {0}) → numbers_free H id acct ≡ Ok u → (id.0 ≢ 0) × (acct.0 ≢ 0) × IsNone (party_in H id) × IsNone (holder_in H acct)
unfolding numbers_free
free_so H id acct u is = part (party_in H id) (holder_in H acct) is
  where
    neither_zero : (not (id.0 == 0) && not (acct.0 == 0)) ≡ true → (id.0 ≢ 0) × (acct.0 ≢ 0)
    neither_zero both = (λ zero. absurd (no (id.0 == 0) (acct.0 == 0) both (inl (eq-eqb id.0 0 zero))), λ zero. absurd (no (id.0 == 0) (acct.0 == 0) both (inr (eq-eqb acct.0 0 zero))))
      where
        no : (a b : Bool) → (not a && not b) ≡ true → (a ≡ true) ⊎ (b ≡ true) → ⊥
        no true b both either = cc
        no false true both either = cc
        no false false both (inl e) = cc
        no false false both (inr e) = cc

    part : (o : Option Party) (h : Option PartyId) → if_unheld id acct o h ≡ Ok u → (id.0 ≢ 0) × (acct.0 ≢ 0) × IsNone o × IsNone h
    part (Some party) h is = absurd cc
    part None (Some holder) is = absurd cc
    part None None is =
        let apart = neither_zero (held_so (not (id.0 == 0) && not (acct.0 == 0)) _ u is) in
        (apart.0, apart.1, refl, refl)

enrol_recorded : (H : List Entry) (head : Head) (cap : ℕ) (asked : Enrolment) → (asked.role ≡ CONSUMER) ⊎ (asked.role ≡ MERCHANT) → (o : Option ℕ) → RecordedIn H head cap (again_or_enrol H cap asked o)
enrol_recorded H head cap asked role (Some at) d is = rw (sym (ap (λ (x : Decision). x.entry) (same_decision _ d is))) tt
enrol_recorded H head cap asked role None d is =
    let free = inside (numbers_free H asked.id asked.acct) _ d is in
    let room = inside (room_left H cap) _ d free.2 in
    let numbers = free_so H asked.id asked.acct free.0 free.1 in
    rw (sym (ap (λ (x : Decision). x.entry) (same_decision _ d room.2))) (((numbers.0, numbers.1, role, numbers.2, numbers.3), tt), room_so H cap room.0 room.1)

enrol_steps_recorded : (H : List Entry) (head : Head) (cap : ℕ) (body : List ℕ) → RecordedIn H head cap (enrol_steps H head cap body)
unfolding enrol_steps
enrol_steps_recorded H head cap body d is =
    let asked = inside (well_formed IN_BODY (enrolment_of body)) _ d is in
    let signed = inside (right_tag asked.0.tag (hmac_of head.operator (codes "enro" ++ signed_part body))) _ d asked.2 in
    enrol_recorded H head cap asked.0 (role_so body asked.0 (formed IN_BODY (enrolment_of body) asked.0 asked.1)) (place_in H (enrol_entry asked.0)) d signed.2

-- ---- funds

pub amount_so : (body : List ℕ) (asked : Funding) → funding_of body ≡ Ok asked → (1 ≤ asked.amount) × (asked.amount ≤ MAX_TOTAL)
unfolding funding_of
amount_so body asked is =
    let acct = inside (or_place (u32_at body 0)) _ asked is in
    let amount = inside (or_place (u64_at body 4)) _ asked acct.2 in
    let known = inside (allowed (nat_le 1 amount.0 && nat_le amount.0 MAX_TOTAL) 4) _ asked amount.2 in
    let reference = inside (or_place (raw_at 16 body 12)) _ asked known.2 in
    let tag = inside (or_place (raw_at 32 body 28)) _ asked reference.2 in
    let end = inside (or_place (done_at body 60)) _ asked tag.2 in
    both asked.amount amount.0 (same_amount _ asked end.2) (allowed_so (nat_le 1 amount.0 && nat_le amount.0 MAX_TOTAL) 4 known.0 known.1)
  where
    same_amount : (a b : Funding) → (let r : Result Funding ℕ = Ok a in r) ≡ Ok b → b.amount ≡ a.amount
    same_amount a b is = cc

    both : (mine amount : ℕ) → mine ≡ amount → (nat_le 1 amount && nat_le amount MAX_TOTAL) ≡ true → (1 ≤ mine) × (mine ≤ MAX_TOTAL)
    both mine amount same known = grind (arith, leb-true)

pub new_so : (H : List Entry) (reference : List ℕ) (u : Unit {0}) → reference_new H reference ≡ Ok u → IsNone (funded_in H reference)
unfolding reference_new
new_so H reference u is = part (funded_in H reference) is
  where
    part : (o : Option Funded) → if_unfunded o ≡ Ok u → IsNone o
    part None is = refl
    part (Some kept) is = absurd cc

pub account_so : (H : List Entry) (acct : AcctId) (u : Unit {0}) → account_held H acct ≡ Ok u → IsSome (holder_in H acct)
unfolding account_held
account_so H acct u is = part (holder_in H acct) (held_so (is_some (holder_in H acct)) _ u is)
  where
    part : (o : Option PartyId) → is_some o ≡ true → IsSome o
    part None is = absurd cc
    part (Some who) is = refl

pub total_so : (H : List Entry) (amount : ℕ) (u : Unit {0}) → total_within H amount ≡ Ok u → total H + amount ≤ MAX_TOTAL
unfolding total_within
total_so H amount u is = leb-true (total H + amount) MAX_TOTAL (held_so (nat_le (total H + amount) MAX_TOTAL) _ u is)

fund_recorded : (H : List Entry) (head : Head) (cap : ℕ) (asked : Funding) → (1 ≤ asked.amount) × (asked.amount ≤ MAX_TOTAL) → (o : Option ℕ) → RecordedIn H head cap (again_or_fund H cap asked o)
fund_recorded H head cap asked amount (Some at) d is = rw (sym (ap (λ (x : Decision). x.entry) (same_decision _ d is))) tt
fund_recorded H head cap asked amount None d is =
    let fresh = inside (reference_new H asked.reference) _ d is in
    let held = inside (account_held H asked.acct) _ d fresh.2 in
    let within = inside (total_within H asked.amount) _ d held.2 in
    let room = inside (room_left H cap) _ d within.2 in
    rw (sym (ap (λ (x : Decision). x.entry) (same_decision _ d room.2)))
    (((account_so H asked.acct held.0 held.1, amount.0, amount.1, new_so H asked.reference fresh.0 fresh.1, total_so H asked.amount within.0 within.1), tt), room_so H cap room.0 room.1)

fund_steps_recorded : (H : List Entry) (head : Head) (cap : ℕ) (body : List ℕ) → RecordedIn H head cap (fund_steps H head cap body)
unfolding fund_steps
fund_steps_recorded H head cap body d is =
    let asked = inside (well_formed IN_BODY (funding_of body)) _ d is in
    let signed = inside (right_tag asked.0.tag (hmac_of head.operator (codes "fund" ++ signed_part body))) _ d asked.2 in
    fund_recorded H head cap asked.0 (amount_so body asked.0 (formed IN_BODY (funding_of body) asked.0 asked.1)) (place_in H (fund_entry asked.0)) d signed.2

-- ---- orders

-- a party that was looked for in a role was found in it
pub role_found : (H : List Entry) (role : ℕ) (id : PartyId) (party : Party) → enrolled_as H role id ≡ Ok party → (party_in H id ≡ Some party) × (party.role ≡ role)
unfolding enrolled_as enrolled
role_found H role id party is = part (party_in H id) is
  where
    same : (q : Party) → (let r : Result Party Refusal = Ok q in r) ≡ Ok party → q ≡ party
    same q is = cc

    part : (o : Option Party) → (if_found id o >>= (λ (q : Party). unless (q.role == role) (refusal NOT_ENROLLED id.0 0) >>= (λ u. Ok q))) ≡ Ok party → (o ≡ Some party) × (party.role ≡ role)
    part None is = absurd cc
    part (Some q) is =
        let has = inside (unless (q.role == role) (refusal NOT_ENROLLED id.0 0)) _ party is in
        let mine : q ≡ party = same q has.2 in
        (ap (λ (x : Party). let o : Option Party = Some x in o) mine, sym (ap (λ (x : Party). x.role) mine) ∙ eqb-true q.role role (held_so (q.role == role) _ has.0 has.1))

pub names_so : (endorser named : PartyId) (u : Unit {0}) → names_endorser endorser named ≡ Ok u → named ≡ endorser
names_so endorser named u is = ap (λ (n : ℕ). let id : PartyId = record { 0 = n } in id) (eqb-true named.0 endorser.0 (held_so (named.0 == endorser.0) _ u is))

pub merchant_so : (endorser : PartyId) (order : Order) (u : Unit {0}) → same_merchant endorser order ≡ Ok u → (order.merchant ≡ endorser) × (order.epoid.merchant ≡ endorser)
unfolding same_merchant
merchant_so endorser order u is =
    let first = inside (names_endorser endorser order.merchant) _ u is in
    (names_so endorser order.merchant first.0 first.1, names_so endorser order.epoid.merchant u first.2)

pub none_so : (H : List Entry) (p : Epoid) → settlement_in H p ≡ None → IsNone (order_in H p)
none_so H p none = rw (none_settled H p none) refl

order_recorded : (H : List Entry) (head : Head) (cap : ℕ) (p : Presented) (moment : ℕ) → IsRuling head → IsPresented H p → (o : Option Settlement) → settlement_in H p.order.epoid ≡ o
    → RecordedIn H head cap (again_or_settle H head cap p moment o)
order_recorded H head cap p moment ruling presented (Some kept) held d is =
    let same = inside (same_digest kept.digest p.digest) _ d is in
    rw (sym (ap (λ (x : Decision). x.entry) (same_decision _ d same.2))) tt
order_recorded H head cap p moment ruling presented None none d is =
    let room = inside (room_left H cap) _ d is in
    rw (sym (ap (λ (x : Decision). x.entry) (same_decision _ d room.2)))
    (settled_legal H head p moment ruling presented (none_so H p.order.epoid none) (length H) (outcome_of head p (payment_steps H p moment)) refl, room_so H cap room.0 room.1)

order_steps_recorded : (H : List Entry) (head : Head) (cap : ℕ) (body : List ℕ) (moment : ℕ) → IsRuling head → RecordedIn H head cap (order_steps H head cap body moment)
unfolding order_steps
order_steps_recorded H head cap body moment ruling d is =
    let asked = inside (well_formed IN_BODY (endorsed_of body)) _ d is in
    let merchant = inside (enrolled_as H MERCHANT asked.0.merchant) _ d asked.2 in
    let endorsement = inside (endorsement_in merchant.0.key asked.0.sealed) _ d merchant.2 in
    let order = inside (well_formed IN_ORDER (order_of endorsement.0.order)) _ d endorsement.2 in
    let consumer = inside (enrolled_as H CONSUMER order.0.consumer) _ d order.2 in
    let named = inside (same_merchant asked.0.merchant order.0) _ d consumer.2 in
    let signed = inside (right_tag order.0.tag (order_tag consumer.0.key order.0)) _ d named.2 in
    let hidden = inside (hidden_in consumer.0.key order.0.hidden) _ d signed.2 in
    let buyer = role_found H CONSUMER order.0.consumer consumer.0 consumer.1 in
    let seller = role_found H MERCHANT asked.0.merchant merchant.0 merchant.1 in
    let names = merchant_so asked.0.merchant order.0 named.0 named.1 in
    let p : Presented = presented_of merchant.0 consumer.0 endorsement.0 order.0 hidden.0 in
    let presented : IsPresented H p = record {
      consumer = buyer.0;
      buys = buyer.1;
      merchant = rw names.0 seller.0;
      sells = seller.1;
      named = names.1 ∙ sym names.0;
      digested = refl;
    } in
    order_recorded H head cap p moment ruling presented (settlement_in H order.0.epoid) refl d hidden.2

-- ---- the kinds

chosen : (H : List Entry) (head : Head) (cap : ℕ) (b : Bool) (f g : Result Decision Refusal) → RecordedIn H head cap f → RecordedIn H head cap g → RecordedIn H head cap (if b then f else g)
chosen H head cap true f g one other = one
chosen H head cap false f g one other = other

steps_recorded : (H : List Entry) (head : Head) (cap kind : ℕ) (body : List ℕ) (moment : ℕ) → IsRuling head → RecordedIn H head cap (steps H head cap kind body moment)
steps_recorded H head cap kind body moment ruling =
    chosen H head cap (kind == ORDER_REQUEST) _ _ (order_steps_recorded H head cap body moment ruling)
    (chosen H head cap (kind == STATUS_REQUEST) _ _ (λ d is. rw (status_records_none H head body d is) tt)
    (chosen H head cap (kind == TICKET_REQUEST) _ _ (λ d is. rw (ticket_records_none H head body moment d is) tt)
    (chosen H head cap (kind == ENROL_REQUEST) _ _ (enrol_steps_recorded H head cap body)
    (chosen H head cap (kind == FUND_REQUEST) _ _ (fund_steps_recorded H head cap body) (λ d is. absurd cc)))))

pub records_legal : RecordsLegal
records_legal H head cap kind body moment entry ruling is = part (steps H head cap kind body moment) (steps_recorded H head cap kind body moment ruling) is
  where
    part : (r : Result Decision Refusal) → RecordedIn H head cap r → (told r).entry ≡ Some entry → Fits H head cap entry
    part (Ok d) recorded is = subst (Recorded H head cap) is (recorded d refl)
    part (Err why) recorded is = absurd (none-some entry is)

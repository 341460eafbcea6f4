-- A request whose entry was recorded finds its own entry when it comes again.
use Rattle.std.proofs.Common.{codes, ◌≡◌, ℕ, ◌+◌, Bool, true, false, List, [], ◌∷◌, ◌++◌, length, Option, None, Some, Result, Ok, Err, arith, refl, sym, ap, ◌∙◌, eq-eqb, subst}
use Rattle.std.proofs.lemmas.Option.{same_Some, none-some}
use Rattle.std.proofs.lemmas.List.{append_assoc, append-nil}
use Rattle.std.proofs.lemmas.Slice.Eq.{bytes_eq-Decides}
use Rattle.std.specs.Prelude.{◌==◌, if◌then◌else◌}
use Rattle.std.specs.Option.{option_or, option_and_then}
use Rattle.std.specs.Str.{bytes_eq}
use Rattle.nb_units.specs.declared.frames.TheConstants.{ORDER_REQUEST, STATUS_REQUEST, TICKET_REQUEST, ENROL_REQUEST, FUND_REQUEST}
use Rattle.nb_units.specs.declared.ids.AcctId.{AcctId}
use Rattle.nb_units.specs.declared.ids.PartyId.{PartyId}
use Rattle.nb_units.specs.declared.epoid.Epoid.{Epoid}
use Rattle.nb_units.specs.Fields.{◌>>=◌}
use Rattle.nb_entry.specs.declared.entry.Entry.{Entry}
use Rattle.nb_entry.specs.declared.entry.Entry.TheVariants.{Enrol, Fund, Paid, Charged, Refused}
use Rattle.nb_book.specs.Money.{balance}
use Rattle.nb_entry.specs.declared.entry.TheConstants.{CONSUMER, MERCHANT}
use Rattle.nb_book.specs.declared.kept.Kept.{Kept}
use Rattle.nb_book.specs.declared.party.Party.{Party}
use Rattle.nb_book.specs.Searches.{first_from, same_epoid, settles, party_at, party_in, order_at, order_in}
use Rattle.nb_epo.specs.Reading.{order_of}
use Rattle.nb_epo.specs.Tags.{order_tag}
use Rattle.nb_endorse.specs.declared.receipt.Receipt.{Receipt}
use Rattle.nb_endorse.specs.declared.refusal.Refusal.{Refusal}
use Rattle.nb_endorse.specs.declared.refusal.TheConstants.{IN_BODY, IN_ORDER, NOT_ENROLLED, NOT_SERVED}
use Rattle.nb_endorse.specs.declared.reply.Reply.{Reply}
use Rattle.nb_endorse.specs.declared.reply.ReplyKeys.{ReplyKeys}
use Rattle.nb_endorse.specs.Tags.{endorsement_digest}
use Rattle.nb_endorse.specs.Refusals.{refusal}
use Rattle.nb_escrow.specs.declared.head.Head.{Head}
use Rattle.nb_escrow.specs.declared.decision.Decision.{Decision}
use Rattle.nb_escrow.specs.declared.order.Presented.{Presented}
use Rattle.nb_escrow.specs.declared.settlement.Settlement.{Settlement}
use Rattle.nb_escrow.specs.declared.settlement.PaymentOutcome.{PaymentOutcome}
use Rattle.nb_escrow.specs.declared.settlement.PaymentOutcome.TheVariants as outcome
use Rattle.nb_body.specs.declared.enrolment.Enrolment.{Enrolment}
use Rattle.nb_body.specs.declared.funding.Funding.{Funding}
use Rattle.nb_escrow.specs.Checks.{well_formed, signed_part, unless, if_found, enrolled, enrolled_as, right_tag, room_left}
use Rattle.nb_body.specs.Reading.{endorsed_of, query_of, enrolment_of, funding_of}
use Rattle.nb_seal.specs.Hmac.{hmac_of}
use Rattle.nb_escrow.specs.Held.{same_entry, place_at, place_in, done}
use Rattle.nb_escrow.specs.Enrolments.{enrol_entry, numbers_free, again_or_enrol, enrol_steps}
use Rattle.nb_escrow.specs.Fundings.{fund_entry, reference_new, account_held, total_within, again_or_fund, fund_steps}
use Rattle.nb_escrow.specs.Settlements.{settlement_at, settlement_of, settlement_in, entry_with, settlement_entry}
use Rattle.nb_escrow.specs.Orders.{endorsement_in, hidden_in, same_merchant, same_digest, settled, result, again_or_settle, order_steps}
use Rattle.nb_escrow.specs.Statuses.{enough_entries, status_told, status_steps}
use Rattle.nb_ticket.specs.Keys.{ask_tag}
use Rattle.nb_ticket.specs.Reading.{ask_of}
use Rattle.nb_escrow.specs.Tickets.{ticket_granted, ticket_steps}
use Rattle.nb_escrow.specs.Laws.{given_again, ToldAgain, ResultStays, RepeatIsSame}
use Rattle.nb_endorse.specs.declared.reply.Reply.TheVariants.{Result as Receipts, Refused as Refusal_told}
use Rattle.nb_escrow.specs.Verdict.{steps, told, verdict}
use Rattle.nb_escrow.proofs.Settling.{settlement_some, settles_found}

-- ---- the place of an entry that is held

-- each part is equal to itself
same_number : (n : ℕ) → (n == n) ≡ true
same_number n = eq-eqb n n refl

same_bytes : (xs : List ℕ) → bytes_eq xs xs ≡ true
same_bytes xs = (bytes_eq-Decides xs xs).1 refl

same_identifier : (p : Epoid) → same_epoid p p ≡ true
same_identifier p = rw (same_number p.merchant.0, same_number p.moment) (same_number p.serial)

same_self : (e : Entry) → same_entry e e ≡ true
same_self (Enrol id role acct nonce key) =
    rw (same_number id.0, same_number role, same_number acct.0, same_number nonce) (same_bytes key)
same_self (Fund acct amount reference) = rw (same_number acct.0, same_number amount) (same_bytes reference)
same_self (Paid digest epoid consumer merchant product price cacct macct moment key) =
    rw (same_bytes digest, same_identifier epoid, same_number consumer.0, same_number merchant.0, same_number product)
    (rw (same_number price.0, same_number cacct.0, same_number macct.0, same_number moment) (same_bytes key))
same_self (Charged digest epoid consumer merchant product price fee cacct macct moment key) =
    rw (same_bytes digest, same_identifier epoid, same_number consumer.0, same_number merchant.0, same_number product)
    (rw (same_number price.0, same_number fee, same_number cacct.0, same_number macct.0, same_number moment) (same_bytes key))
same_self (Refused digest epoid consumer merchant product price code a b moment) =
    rw (same_bytes digest, same_identifier epoid, same_number consumer.0, same_number merchant.0, same_number product)
    (rw (same_number price.0, same_number code, same_number a, same_number b) (same_number moment))

-- ---- searches in a list that grows

neither : {A : Type 0} (a b : Option A) → option_or a b ≡ None → (a ≡ None) × (b ≡ None)
neither None b none = (refl, none)
neither (Some n) b none = absurd cc

-- what was found stays found
found_stays : {A : Type 0} (answer : ℕ → Entry → Option A) (at : ℕ) (es more : List Entry) (a : A) → first_from answer at es ≡ Some a → first_from answer at (es ++ more) ≡ Some a
found_stays {A = A} answer at [] more a found = absurd cc
found_stays {A = A} answer at (x ∷ es) more a found = part (answer at x) found (λ rest. found_stays answer (at + 1) es more a rest)
  where
    part : (o : Option A) → option_or o (first_from answer (at + 1) es) ≡ Some a → (first_from answer (at + 1) es ≡ Some a → first_from answer (at + 1) (es ++ more) ≡ Some a)
        → option_or o (first_from answer (at + 1) (es ++ more)) ≡ Some a
    part None found rest = rest found
    part (Some b) found rest = found

-- what was not found is what comes next, where that answers
pub found_next : {A : Type 0} (answer : ℕ → Entry → Option A) (e : Entry) (more : List Entry) (a : A) (at : ℕ) (es : List Entry) → first_from answer at es ≡ None
    → ((n : ℕ) → n ≡ at + length es → answer n e ≡ Some a) → first_from answer at (es ++ e ∷ more) ≡ Some a
found_next answer e more a at [] none next = rw (next at (omega arith)) refl
found_next answer e more a at (x ∷ es) none next =
    let n = neither (answer at x) (first_from answer (at + 1) es) none in
    rw n.0 (found_next answer e more a (at + 1) es n.1 (λ n is. next n (omega (arith, is))))

-- ---- two answers

abbrev Answer : Type 0
Answer = Result Decision Refusal

abbrev decided : Reply → ReplyKeys → Option Entry → Decision
decided reply keys entry = record { reply = reply; keys = keys; entry = entry }

-- where the first records an entry, the one that follows on it gives the same reply again and records nothing
abbrev Again : (Entry → List Entry) → Answer → (Entry → Answer) → Type 0
Again held first second =
    (e : Entry) (reply : Reply) (keys : ReplyKeys) → first ≡ Ok (decided reply keys (Some e)) → second e ≡ Ok (decided (given_again (held e) reply) keys None)

-- a test that goes before, and still holds
behind : {A : Type 0} (held : Entry → List Entry) (r : Result A Refusal) (r' : Entry → Result A Refusal) (f : A → Answer) (g : Entry → A → Answer)
    → ((x : A) (e : Entry) → r ≡ Ok x → r' e ≡ Ok x) → ((x : A) → Again held (f x) (λ e. g e x)) → Again held (r >>= f) (λ e. r' e >>= g e)
behind held (Ok x) r' f g keeps again e reply keys is = rw (keeps x e refl) (again x e reply keys is)
behind held (Err fault) r' f g keeps again e reply keys is = absurd cc

-- a test that goes before, and does not ask for the entries
before : {A : Type 0} (held : Entry → List Entry) (r : Result A Refusal) (f : A → Answer) (g : Entry → A → Answer)
    → ((x : A) → Again held (f x) (λ e. g e x)) → Again held (r >>= f) (λ e. r >>= g e)
before held r f g again = behind held r (λ e. r) f g (λ x e is. is) again

-- a test that goes before
passed : (r : Result (Unit {0}) Refusal) (next : Answer) (d : Decision) → (r >>= (λ u. next)) ≡ Ok d → next ≡ Ok d
passed (Ok u) next d is = is
passed (Err fault) next d is = absurd cc

same_decision : (d d' : Decision) → (let r : Answer = Ok d in r) ≡ Ok d' → d ≡ d'
same_decision d d' is = cc

-- a decision that records nothing records no entry
none_recorded : (d : Decision) (e : Entry) (reply : Reply) (keys : ReplyKeys) → d.entry ≡ None → (let r : Answer = Ok d in r) ≡ Ok (decided reply keys (Some e)) → ⊥
none_recorded d e reply keys none is = none-some e (sym none ∙ ap (λ (x : Decision). x.entry) (same_decision d (decided reply keys (Some e)) is))

-- ---- enrolments and funds

-- what is told where the entry is held
recorded : (H more : List Entry) (mine e : Entry) (who : AcctId) (now : ℕ) (reply : Reply) (keys : ReplyKeys) (answer : Entry → Option ℕ → Answer)
    → place_in H mine ≡ None → ((x : Entry) (n : ℕ) → answer x (Some n) ≡ Ok (done who n (balance (H ++ x ∷ more) who) None))
    → (let r : Answer = Ok (done who (length H) now (Some mine)) in r) ≡ Ok (decided reply keys (Some e))
    → answer e (place_in (H ++ e ∷ more) mine) ≡ Ok (decided (given_again (H ++ e ∷ more) reply) keys None)
recorded H more mine e who now reply keys answer none tells is =
    let same = same_decision (done who (length H) now (Some mine)) (decided reply keys (Some e)) is in
    let entry_is : mine ≡ e = same_Some mine e (ap (λ (d : Decision). d.entry) same) in
    let place : place_in (H ++ mine ∷ more) mine ≡ Some (length H) = found_next (place_at mine) mine more (length H) 0 H none (λ n is. rw (same_self mine) (ap (λ (k : ℕ). let o : Option ℕ = Some k in o) (omega (arith, is)))) in
    rw (sym entry_is, sym (ap (λ (d : Decision). d.reply) same), sym (ap (λ (d : Decision). d.keys) same)) (ap (answer mine) place ∙ tells mine (length H))

enrol_again : (H more : List Entry) (cap : ℕ) (asked : Enrolment) → Again (λ e. H ++ e ∷ more) (again_or_enrol H cap asked (place_in H (enrol_entry asked))) (λ e. again_or_enrol (H ++ e ∷ more) cap asked (place_in (H ++ e ∷ more) (enrol_entry asked)))
enrol_again H more cap asked e reply keys is = part (place_in H (enrol_entry asked)) refl is
  where
    part : (o : Option ℕ) → place_in H (enrol_entry asked) ≡ o → again_or_enrol H cap asked o ≡ Ok (decided reply keys (Some e))
        → again_or_enrol (H ++ e ∷ more) cap asked (place_in (H ++ e ∷ more) (enrol_entry asked)) ≡ Ok (decided (given_again (H ++ e ∷ more) reply) keys None)
    part (Some n) held is = absurd (none_recorded (done asked.acct n (balance H asked.acct) None) e reply keys refl is)
    part None none is =
        let told = passed (room_left H cap) _ _ (passed (numbers_free H asked.id asked.acct) _ _ is) in
        recorded H more (enrol_entry asked) e asked.acct (balance (H ++ enrol_entry asked ∷ []) asked.acct) reply keys (λ x. again_or_enrol (H ++ x ∷ more) cap asked) none (λ x n. refl) told

fund_again : (H more : List Entry) (cap : ℕ) (asked : Funding) → Again (λ e. H ++ e ∷ more) (again_or_fund H cap asked (place_in H (fund_entry asked))) (λ e. again_or_fund (H ++ e ∷ more) cap asked (place_in (H ++ e ∷ more) (fund_entry asked)))
fund_again H more cap asked e reply keys is = part (place_in H (fund_entry asked)) refl is
  where
    part : (o : Option ℕ) → place_in H (fund_entry asked) ≡ o → again_or_fund H cap asked o ≡ Ok (decided reply keys (Some e))
        → again_or_fund (H ++ e ∷ more) cap asked (place_in (H ++ e ∷ more) (fund_entry asked)) ≡ Ok (decided (given_again (H ++ e ∷ more) reply) keys None)
    part (Some n) held is = absurd (none_recorded (done asked.acct n (balance H asked.acct) None) e reply keys refl is)
    part None none is =
        let told = passed (room_left H cap) _ _ (passed (total_within H asked.amount) _ _ (passed (account_held H asked.acct) _ _ (passed (reference_new H asked.reference) _ _ is))) in
        recorded H more (fund_entry asked) e asked.acct (balance (H ++ fund_entry asked ∷ []) asked.acct) reply keys (λ x. again_or_fund (H ++ x ∷ more) cap asked) none (λ x n. refl) told

enrol_steps_again : (H more : List Entry) (head : Head) (cap : ℕ) (body : List ℕ) → Again (λ e. H ++ e ∷ more) (enrol_steps H head cap body) (λ e. enrol_steps (H ++ e ∷ more) head cap body)
unfolding enrol_steps
enrol_steps_again H more head cap body =
    before (λ e. H ++ e ∷ more) (well_formed IN_BODY (enrolment_of body)) _ _
    (λ asked. before (λ e. H ++ e ∷ more) (right_tag asked.tag (hmac_of head.operator (codes "enro" ++ signed_part body))) _ _ (λ u. enrol_again H more cap asked))

fund_steps_again : (H more : List Entry) (head : Head) (cap : ℕ) (body : List ℕ) → Again (λ e. H ++ e ∷ more) (fund_steps H head cap body) (λ e. fund_steps (H ++ e ∷ more) head cap body)
unfolding fund_steps
fund_steps_again H more head cap body =
    before (λ e. H ++ e ∷ more) (well_formed IN_BODY (funding_of body)) _ _
    (λ asked. before (λ e. H ++ e ∷ more) (right_tag asked.tag (hmac_of head.operator (codes "fund" ++ signed_part body))) _ _ (λ u. fund_again H more cap asked))

-- ---- orders

-- a party that is enrolled stays so
stays_enrolled : (H more : List Entry) (role : ℕ) (id : PartyId) (party : Party) → enrolled_as H role id ≡ Ok party → enrolled_as (H ++ more) role id ≡ Ok party
unfolding enrolled_as enrolled
stays_enrolled H more role id party is = part (party_in H id) refl is
  where
    in_role : Party → Result Party Refusal
    in_role q = unless (q.role == role) (refusal NOT_ENROLLED id.0 0) >>= (λ u. Ok q)

    part : (o : Option Party) → party_in H id ≡ o → (if_found id o >>= in_role) ≡ Ok party → (if_found id (party_in (H ++ more) id) >>= in_role) ≡ Ok party
    part None none is = absurd cc
    part (Some q) found is = rw (found_stays (party_at id) 0 H more q found) is

-- the entry of a settlement settles its order, and is read as that settlement
pub settles_entry : (s : Settlement) (o : PaymentOutcome) → settles s.epoid (entry_with s o) ≡ true
settles_entry s (outcome.Paid cacct macct key None) = same_identifier s.epoid
settles_entry s (outcome.Paid cacct macct key (Some fee)) = same_identifier s.epoid
settles_entry s (outcome.Refused reason) = same_identifier s.epoid

pub settlement_back : (s : Settlement) (o : PaymentOutcome) → settlement_at s.at (entry_with s o) ≡ Some (record s { outcome = o })
settlement_back s (outcome.Paid cacct macct key None) = refl
settlement_back s (outcome.Paid cacct macct key (Some fee)) = refl
settlement_back s (outcome.Refused reason) = refl

-- where no settlement was found, no order was
pub none_settled : (H : List Entry) (p : Epoid) → settlement_in H p ≡ None → order_in H p ≡ None
unfolding settlement_in
none_settled H p none = part (order_in H p) refl none
  where
    part : (o : Option Kept) → order_in H p ≡ o → option_and_then settlement_of o ≡ None → o ≡ None
    part None found none = refl
    part (Some kept) found none = absurd (settlement_some p kept.at kept.entry (settles_found p 0 H kept found) none)

-- a settlement that was recorded is found
settled_next : (H more : List Entry) (s : Settlement) → s.at ≡ length H → settlement_in H s.epoid ≡ None → settlement_in (H ++ settlement_entry s ∷ more) s.epoid ≡ Some s
unfolding settlement_in
settled_next H more s at none =
    let kept : Kept = record { at = s.at; entry = settlement_entry s } in
    let next : (n : ℕ) → n ≡ 0 + length H → order_at s.epoid n (settlement_entry s) ≡ Some kept =
    λ n is. rw (settles_entry s s.outcome) (ap (λ (k : ℕ). let o : Option Kept = Some (record { at = k; entry = settlement_entry s }) in o) (omega (arith, is, at))) in
    rw (found_next (order_at s.epoid) (settlement_entry s) more kept 0 H (none_settled H s.epoid none) next) (settlement_back s s.outcome)

same_digests : (digest : List ℕ) → same_digest digest digest ≡ Ok tt
unfolding same_digest
same_digests digest = rw (same_bytes digest) refl

order_again : (H more : List Entry) (head : Head) (cap : ℕ) (p : Presented) (moment later : ℕ)
    → Again (λ e. H ++ e ∷ more) (again_or_settle H head cap p moment (settlement_in H p.order.epoid)) (λ e. again_or_settle (H ++ e ∷ more) head cap p later (settlement_in (H ++ e ∷ more) p.order.epoid))
order_again H more head cap p moment later e reply keys is = part (settlement_in H p.order.epoid) refl is
  where
    part : (o : Option Settlement) → settlement_in H p.order.epoid ≡ o → again_or_settle H head cap p moment o ≡ Ok (decided reply keys (Some e))
        → again_or_settle (H ++ e ∷ more) head cap p later (settlement_in (H ++ e ∷ more) p.order.epoid) ≡ Ok (decided (given_again (H ++ e ∷ more) reply) keys None)
    part (Some kept) held is = absurd (none_recorded (result head p kept None) e reply keys refl (passed (same_digest kept.digest p.digest) _ _ is))
    part None none is =
        let s : Settlement = settled H head p moment in
        let same = same_decision (result head p s (Some (settlement_entry s))) (decided reply keys (Some e)) (passed (room_left H cap) _ _ is) in
        let entry_is : settlement_entry s ≡ e = same_Some (settlement_entry s) e (ap (λ (d : Decision). d.entry) same) in
        rw (sym entry_is, sym (ap (λ (d : Decision). d.reply) same), sym (ap (λ (d : Decision). d.keys) same), settled_next H more s refl none) (rw (same_digests p.digest) refl)

order_steps_again : (H more : List Entry) (head : Head) (cap : ℕ) (body : List ℕ) (moment later : ℕ)
    → Again (λ e. H ++ e ∷ more) (order_steps H head cap body moment) (λ e. order_steps (H ++ e ∷ more) head cap body later)
unfolding order_steps
order_steps_again H more head cap body moment later =
    let held : Entry → List Entry = λ e. H ++ e ∷ more in
    before held (well_formed IN_BODY (endorsed_of body)) _ _ (λ asked.
    behind held (enrolled_as H MERCHANT asked.merchant) (λ e. enrolled_as (held e) MERCHANT asked.merchant) _ _ (λ party e is. stays_enrolled H (e ∷ more) MERCHANT asked.merchant party is) (λ merchant.
    before held (endorsement_in merchant.key asked.sealed) _ _ (λ endorsement.
    before held (well_formed IN_ORDER (order_of endorsement.order)) _ _ (λ order.
    behind held (enrolled_as H CONSUMER order.consumer) (λ e. enrolled_as (held e) CONSUMER order.consumer) _ _ (λ party e is. stays_enrolled H (e ∷ more) CONSUMER order.consumer party is) (λ consumer.
    before held (same_merchant asked.merchant order) _ _ (λ u.
    before held (right_tag order.tag (order_tag consumer.key order)) _ _ (λ u.
    before held (hidden_in consumer.key order.hidden) _ _ (λ hidden.
    order_again H more head cap (record { merchant = merchant; consumer = consumer; endorsement = endorsement; digest = endorsement_digest endorsement; order = order; hidden = hidden }) moment later))))))))

-- ---- status queries

-- what every decision behind a test has, the decision has
each_behind : {A : Type 0} (r : Result A Refusal) (f : A → Answer) → ((x : A) (d : Decision) → f x ≡ Ok d → d.entry ≡ None) → (d : Decision) → (r >>= f) ≡ Ok d → d.entry ≡ None
each_behind (Ok x) f each d is = each x d is
each_behind (Err fault) f each d is = absurd cc

pub status_records_none : (H : List Entry) (head : Head) (body : List ℕ) (d : Decision) → status_steps H head body ≡ Ok d → d.entry ≡ None
unfolding status_steps
status_records_none H head body =
    each_behind (well_formed IN_BODY (query_of body)) _ (λ asked.
    each_behind (enrolled H asked.asker) _ (λ asker.
    each_behind (right_tag asked.tag (hmac_of asker.key (codes "stat" ++ signed_part body))) _ (λ u.
    each_behind (enough_entries H asked.least) _ (λ v d is. ap (λ (x : Decision). x.entry) (sym (same_decision (status_told H head asker asked) d is))))))

status_steps_again : (H more : List Entry) (head : Head) (body : List ℕ) → Again (λ e. H ++ e ∷ more) (status_steps H head body) (λ e. status_steps (H ++ e ∷ more) head body)
status_steps_again H more head body e reply keys is = absurd (none-some e (sym (status_records_none H head body (decided reply keys (Some e)) is)))

-- ---- requests for tickets

pub ticket_records_none : (H : List Entry) (head : Head) (body : List ℕ) (moment : ℕ) (d : Decision) → ticket_steps H head body moment ≡ Ok d → d.entry ≡ None
unfolding ticket_steps
ticket_records_none H head body moment =
    each_behind (well_formed IN_BODY (ask_of body)) _ (λ asked.
    each_behind (enrolled_as H CONSUMER asked.consumer) _ (λ buyer.
    each_behind (right_tag asked.tag (ask_tag buyer.key asked.consumer asked.merchant asked.nonce)) _ (λ u.
    each_behind (enrolled_as H MERCHANT asked.merchant) _ (λ seller d is. ap (λ (x : Decision). x.entry) (sym (same_decision (ticket_granted head buyer seller asked moment) d is))))))

ticket_steps_again : (H more : List Entry) (head : Head) (body : List ℕ) (moment later : ℕ)
    → Again (λ e. H ++ e ∷ more) (ticket_steps H head body moment) (λ e. ticket_steps (H ++ e ∷ more) head body later)
ticket_steps_again H more head body moment later e reply keys is = absurd (none-some e (sym (ticket_records_none H head body moment (decided reply keys (Some e)) is)))

-- ---- the kinds

chosen : (b : Bool) (held : Entry → List Entry) (f g : Answer) (f' g' : Entry → Answer) → Again held f f' → Again held g g' → Again held (if b then f else g) (λ e. if b then f' e else g' e)
chosen true held f g f' g' one other = one
chosen false held f g f' g' one other = other

steps_again : (H more : List Entry) (head : Head) (cap kind : ℕ) (body : List ℕ) (moment later : ℕ) → Again (λ e. H ++ e ∷ more) (steps H head cap kind body moment) (λ e. steps (H ++ e ∷ more) head cap kind body later)
steps_again H more head cap kind body moment later =
    let held : Entry → List Entry = λ e. H ++ e ∷ more in
    chosen (kind == ORDER_REQUEST) held _ _ _ _ (order_steps_again H more head cap body moment later)
    (chosen (kind == STATUS_REQUEST) held _ _ _ _ (status_steps_again H more head body)
    (chosen (kind == TICKET_REQUEST) held _ _ _ _ (ticket_steps_again H more head body moment later)
    (chosen (kind == ENROL_REQUEST) held _ _ _ _ (enrol_steps_again H more head cap body)
    (chosen (kind == FUND_REQUEST) held _ _ _ _ (fund_steps_again H more head cap body) (λ e reply keys is. absurd (refused_not (refusal NOT_SERVED kind 0) (decided reply keys (Some e)) is))))))
  where
    refused_not : (r : Refusal) (d : Decision) → (let first : Answer = Err r in first) ≡ Ok d → ⊥
    refused_not r d is = cc

pub told_again : ToldAgain
told_again H more head cap kind body moment later entry reply keys is =
    let now : steps H head cap kind body moment ≡ Ok (decided reply keys (Some entry)) = step_of (steps H head cap kind body moment) is in
    ap told (steps_again H more head cap kind body moment later entry reply keys now)
  where
    step_of : (r : Answer) → told r ≡ decided reply keys (Some entry) → r ≡ Ok (decided reply keys (Some entry))
    step_of (Ok d) is = ap (λ (x : Decision). let o : Answer = Ok x in o) is
    step_of (Err r) is = absurd (none-some entry (ap (λ (d : Decision). d.entry) is))

-- ---- the result of an order

-- a decision that records nothing is taken again
abbrev Stays : Answer → Answer → Type 0
Stays first second = (d : Decision) → d.entry ≡ None → first ≡ Ok d → second ≡ Ok d

stays_behind : {A : Type 0} (r r' : Result A Refusal) (f g : A → Answer) → ((x : A) → r ≡ Ok x → r' ≡ Ok x) → ((x : A) → Stays (f x) (g x)) → Stays (r >>= f) (r' >>= g)
stays_behind (Ok x) r' f g keeps stays d none is = rw (keeps x refl) (stays x d none is)
stays_behind (Err fault) r' f g keeps stays d none is = absurd cc

settlement_stays : (H more : List Entry) (p : Epoid) (s : Settlement) → settlement_in H p ≡ Some s → settlement_in (H ++ more) p ≡ Some s
unfolding settlement_in
settlement_stays H more p s is = part (order_in H p) refl is
  where
    part : (o : Option Kept) → order_in H p ≡ o → option_and_then settlement_of o ≡ Some s → option_and_then settlement_of (order_in (H ++ more) p) ≡ Some s
    part None found is = absurd cc
    part (Some kept) found is = rw (found_stays (order_at p) 0 H more kept found) is

order_stays : (H more : List Entry) (head : Head) (cap : ℕ) (p : Presented) (moment later : ℕ)
    → Stays (again_or_settle H head cap p moment (settlement_in H p.order.epoid)) (again_or_settle (H ++ more) head cap p later (settlement_in (H ++ more) p.order.epoid))
order_stays H more head cap p moment later d none is = part (settlement_in H p.order.epoid) refl is
  where
    part : (o : Option Settlement) → settlement_in H p.order.epoid ≡ o → again_or_settle H head cap p moment o ≡ Ok d
        → again_or_settle (H ++ more) head cap p later (settlement_in (H ++ more) p.order.epoid) ≡ Ok d
    part (Some kept) held is = rw (settlement_stays H more p.order.epoid kept held) is
    part None new is =
        let s : Settlement = settled H head p moment in
        let same = same_decision (result head p s (Some (settlement_entry s))) d (passed (room_left H cap) _ _ is) in
        absurd (none-some (settlement_entry s) (sym (ap (λ (x : Decision). x.entry) same ∙ none)))

order_steps_stay : (H more : List Entry) (head : Head) (cap : ℕ) (body : List ℕ) (moment later : ℕ) → Stays (order_steps H head cap body moment) (order_steps (H ++ more) head cap body later)
unfolding order_steps
order_steps_stay H more head cap body moment later =
    stays_behind (well_formed IN_BODY (endorsed_of body)) _ _ _ (λ x is. is) (λ asked.
    stays_behind (enrolled_as H MERCHANT asked.merchant) _ _ _ (λ party is. stays_enrolled H more MERCHANT asked.merchant party is) (λ merchant.
    stays_behind (endorsement_in merchant.key asked.sealed) _ _ _ (λ x is. is) (λ endorsement.
    stays_behind (well_formed IN_ORDER (order_of endorsement.order)) _ _ _ (λ x is. is) (λ order.
    stays_behind (enrolled_as H CONSUMER order.consumer) _ _ _ (λ party is. stays_enrolled H more CONSUMER order.consumer party is) (λ consumer.
    stays_behind (same_merchant asked.merchant order) _ _ _ (λ x is. is) (λ u.
    stays_behind (right_tag order.tag (order_tag consumer.key order)) _ _ _ (λ x is. is) (λ u.
    stays_behind (hidden_in consumer.key order.hidden) _ _ _ (λ x is. is) (λ hidden.
    order_stays H more head cap (record { merchant = merchant; consumer = consumer; endorsement = endorsement; digest = endorsement_digest endorsement; order = order; hidden = hidden }) moment later))))))))

-- receipts are told by a decision that passed all tests
receipts_passed : (merchant consumer : Receipt) (keys : ReplyKeys) (r : Answer) → told r ≡ decided (Receipts merchant consumer) keys None → r ≡ Ok (decided (Receipts merchant consumer) keys None)
receipts_passed merchant consumer keys (Ok x) is = ap (λ (y : Decision). let o : Answer = Ok y in o) is
receipts_passed merchant consumer keys (Err why) is = absurd (refused_not why (ap (λ (x : Decision). x.reply) is))
  where
    refused_not : (why : Refusal) → (let reply : Reply = Refusal_told why in reply) ≡ Receipts merchant consumer → ⊥
    refused_not why is = cc

pub result_stays : ResultStays
result_stays H more head cap body moment later merchant consumer keys None is =
    ap told (order_steps_stay (H ++ []) more head cap body moment later (decided (Receipts merchant consumer) keys None) refl now)
  where
    now : order_steps (H ++ []) head cap body moment ≡ Ok (decided (Receipts merchant consumer) keys None)
    now =
        subst (λ (xs : List Entry). order_steps xs head cap body moment ≡ Ok (decided (Receipts merchant consumer) keys None)) (sym (append-nil H))
        (receipts_passed merchant consumer keys (order_steps H head cap body moment) is)
result_stays H more head cap body moment later merchant consumer keys (Some entry) is =
    subst (λ (xs : List Entry). verdict xs head cap ORDER_REQUEST body later ≡ decided (Receipts merchant consumer) keys None) (sym (append_assoc H (entry ∷ []) more))
    (told_again H more head cap ORDER_REQUEST body moment later entry (Receipts merchant consumer) keys is)

-- ---- the result of an order, under another head

-- what is told again has the house's key of the head, and nothing else of it
order_repeats : (H : List Entry) (head other : Head) (cap : ℕ) (p : Presented) (moment later : ℕ) → head.house ≡ other.house
    → Stays (again_or_settle H head cap p moment (settlement_in H p.order.epoid)) (again_or_settle H other cap p later (settlement_in H p.order.epoid))
order_repeats H head other cap p moment later house d none is = part (settlement_in H p.order.epoid) is
  where
    part : (o : Option Settlement) → again_or_settle H head cap p moment o ≡ Ok d → again_or_settle H other cap p later o ≡ Ok d
    part (Some kept) is = rw (sym house) is
    part None is =
        let s : Settlement = settled H head p moment in
        let same = same_decision (result head p s (Some (settlement_entry s))) d (passed (room_left H cap) _ _ is) in
        absurd (none-some (settlement_entry s) (sym (ap (λ (x : Decision). x.entry) same ∙ none)))

order_steps_repeat : (H : List Entry) (head other : Head) (cap : ℕ) (body : List ℕ) (moment later : ℕ) → head.house ≡ other.house
    → Stays (order_steps H head cap body moment) (order_steps H other cap body later)
unfolding order_steps
order_steps_repeat H head other cap body moment later house =
    stays_behind (well_formed IN_BODY (endorsed_of body)) _ _ _ (λ x is. is) (λ asked.
    stays_behind (enrolled_as H MERCHANT asked.merchant) _ _ _ (λ x is. is) (λ merchant.
    stays_behind (endorsement_in merchant.key asked.sealed) _ _ _ (λ x is. is) (λ endorsement.
    stays_behind (well_formed IN_ORDER (order_of endorsement.order)) _ _ _ (λ x is. is) (λ order.
    stays_behind (enrolled_as H CONSUMER order.consumer) _ _ _ (λ x is. is) (λ consumer.
    stays_behind (same_merchant asked.merchant order) _ _ _ (λ x is. is) (λ u.
    stays_behind (right_tag order.tag (order_tag consumer.key order)) _ _ _ (λ x is. is) (λ u.
    stays_behind (hidden_in consumer.key order.hidden) _ _ _ (λ x is. is) (λ hidden.
    order_repeats H head other cap (record { merchant = merchant; consumer = consumer; endorsement = endorsement; digest = endorsement_digest endorsement; order = order; hidden = hidden }) moment later house))))))))

pub repeat_is_same : RepeatIsSame
repeat_is_same H head other cap body moment later merchant consumer keys house is =
    ap told (order_steps_repeat H head other cap body moment later house (decided (Receipts merchant consumer) keys None) refl (receipts_passed merchant consumer keys (order_steps H head cap body moment) is))

-- What comes of the tests of each kind: a decision, and what was found for it; or a refusal, whose claim is true.
use Rattle.std.proofs.Common.{◌≡◌, ◌≢◌, ◌⊎◌, inl, inr, ℕ, ◌+◌, ◌<◌, ◌≤◌, ◌++◌, ◌∷◌, [], Bool, true, false, not, ◌&&◌, nat_le, is_some, List, length, codes, Option, None, Some, IsNone, Result, Ok, Err, arith, refl, sym, ap, ◌∙◌}
use Rattle.std.proofs.lemmas.Bool.{eqb-true, eqb-false, leb-true, leb-false}
use Rattle.std.proofs.lemmas.Bool.Decides.{leb_tells}
use Rattle.std.proofs.lemmas.Option.{same_Some, none-some}
use Rattle.std.specs.Prelude.{◌==◌, if◌then◌else◌}
use Rattle.std.specs.Option.{option_and_then}
use Rattle.nb_units.specs.declared.frames.TheConstants.{ORDER_REQUEST, STATUS_REQUEST, TICKET_REQUEST, ENROL_REQUEST, FUND_REQUEST}
use Rattle.nb_units.specs.declared.epoid.Epoid.{Epoid}
use Rattle.nb_units.specs.declared.ids.AcctId.{AcctId}
use Rattle.nb_units.specs.declared.ids.PartyId.{PartyId}
use Rattle.nb_seal.specs.Hmac.{hmac_of}
use Rattle.nb_entry.specs.declared.entry.Entry.{Entry}
use Rattle.nb_entry.specs.declared.entry.Entry.TheVariants.{Enrol, Fund, Paid, Charged, Refused}
use Rattle.nb_entry.specs.declared.entry.TheConstants.{CONSUMER, MERCHANT}
use Rattle.nb_book.specs.declared.funded.Funded.{Funded}
use Rattle.nb_book.specs.declared.kept.Kept.{Kept}
use Rattle.nb_book.specs.declared.limits.TheConstants.{MAX_PRICE, MAX_AGE, MAX_AHEAD, MAX_TOTAL}
use Rattle.nb_book.specs.declared.party.Party.{Party}
use Rattle.nb_book.specs.Legal.{LegalAfter, Legal, PriceIsLegal, IsInTime}
use Rattle.nb_book.specs.Money.{balance, total}
use Rattle.nb_book.specs.Searches.{party_in, holder_in, funded_in, order_in}
use Rattle.nb_epo.specs.declared.hidden.Hidden.{Hidden}
use Rattle.nb_epo.specs.Reading.{order_of, hidden_of}
use Rattle.nb_epo.specs.Tags.{order_tag}
use Rattle.nb_endorse.specs.declared.endorsement.Endorsement.{Endorsement}
use Rattle.nb_endorse.specs.declared.refusal.TheConstants.{IN_BODY, IN_ENDORSEMENT, IN_ORDER, IN_HIDDEN}
use Rattle.nb_endorse.specs.declared.refusal.Refusal.{Refusal}
use Rattle.nb_endorse.specs.Reading.{endorsement_of}
use Rattle.nb_seal.specs.Seal.{OpensAs}
use Rattle.nb_endorse.specs.Tags.{endorsement_digest}
use Rattle.nb_ticket.specs.declared.ask.TicketAsk.{TicketAsk}
use Rattle.nb_ticket.specs.Keys.{ask_tag}
use Rattle.nb_ticket.specs.Reading.{ask_of}
use Rattle.nb_escrow.specs.declared.decision.Decision.{Decision}
use Rattle.nb_body.specs.declared.enrolment.Enrolment.{Enrolment}
use Rattle.nb_body.specs.declared.funding.Funding.{Funding}
use Rattle.nb_escrow.specs.declared.head.Head.{Head}
use Rattle.nb_escrow.specs.declared.order.Presented.{Presented}
use Rattle.nb_escrow.specs.declared.settlement.RefusalReason.{RefusalReason}
use Rattle.nb_escrow.specs.declared.settlement.Settlement.{Settlement}
use Rattle.nb_body.specs.declared.query.StatusQuery.{StatusQuery}
use Rattle.nb_escrow.specs.Checks.{signed_part, well_formed, enrolled, enrolled_as, right_tag, room_left}
use Rattle.nb_escrow.specs.Held.{place_in, done}
use Rattle.nb_body.specs.Reading.{enrolment_of, funding_of, endorsed_of, query_of}
use Rattle.nb_escrow.specs.Enrolments.{enrol_entry, if_unheld, numbers_free, again_or_enrol, enrol_steps}
use Rattle.nb_escrow.specs.Fundings.{fund_entry, funded_place, if_unfunded, reference_new, account_held, total_within, again_or_fund, fund_steps}
use Rattle.nb_escrow.specs.Orders.{endorsement_in, hidden_in, same_merchant, same_digest, settled, result, again_or_settle, order_steps}
use Rattle.nb_escrow.specs.Payments.{payment_steps}
use Rattle.nb_escrow.specs.Settlements.{settlement_at, settlement_of, settlement_in, settlement_entry}
use Rattle.nb_escrow.specs.Statuses.{enough_entries, status_told, status_steps}
use Rattle.nb_escrow.specs.Tickets.{ticket_granted, ticket_steps}
use Rattle.nb_escrow.specs.Grants.{IsAuthenticAsk, MayGrant}
use Rattle.nb_escrow.specs.Payable.{IsAsked, IsEndorsed, IsOrdered, IsSignedOrder, IsAuthenticOrder, IsTrueReason, digest_held}
use Rattle.nb_escrow.specs.Claims.{IsNotSealed, IsSealedBadly, IsHeld, IsFundedOtherwise, HasNoHolder, IsTooMuch, AreTooFew, IsTrueOfRequest, IsTrueOfOrder, IsTrueOfHidden, IsTrueOfPresented, IsTrueOfQuery, IsTrueOfTicketAsk, IsTrueOfEnrolment, IsTrueOfFunding, IsTrueRefusal}
use Rattle.nb_escrow.specs.Laws.{IsAuthentic}
use Rattle.nb_escrow.specs.Verdict.{steps}
use Rattle.nb_escrow.proofs.Holding.{fund_place}
use Rattle.nb_escrow.proofs.Paying.{either, last}
use Rattle.nb_escrow.proofs.Recording.{formed, held_so, room_so, role_so, free_so, amount_so, new_so, account_so, total_so, role_found, merchant_so, none_so}
use Rattle.nb_escrow.proofs.Tests.{behind, same_why, fails_so, malformed, not_in_role, not_enrolled, party_found, opened_so, unopened_so, other_tag, right_so, used_so, digest_so, full_so, other_so}

abbrev pub Answer : Type 0
Answer = Result Decision Refusal

-- ---- a payment

-- what the tests of a payment say where they all hold
pub record Pays (H : List Entry) (p : Presented) (moment : ℕ) : Type 0 where
  pub pays : p.hidden.acct ≡ p.consumer.acct
  pub knows : p.hidden.nonce ≡ p.consumer.nonce
  pub credited : p.endorsement.macct ≡ p.merchant.acct
  pub priced : PriceIsLegal p.order.price
  pub in_time : IsInTime p.order.epoid moment
  pub covered : p.order.price.0 ≤ balance H p.consumer.acct

abbrev pub PaymentComes : List Entry → Presented → ℕ → Result (Unit {0}) RefusalReason → Type 0
PaymentComes H p moment (Ok u) = Pays H p moment
PaymentComes H p moment (Err why) = IsTrueReason H p moment why

out_of_range : (price : ℕ) → (nat_le 1 price && nat_le price MAX_PRICE) ≡ false → (price ≡ 0) ⊎ (MAX_PRICE < price)
out_of_range price out = grind (arith, leb_tells)

in_range : (price : ℕ) → (nat_le 1 price && nat_le price MAX_PRICE) ≡ true → (1 ≤ price) × (price ≤ MAX_PRICE)
in_range price within = grind (arith, leb-true)

same_acct : (a b : AcctId) → (a.0 == b.0) ≡ true → a ≡ b
same_acct a b is = ap (λ (n : ℕ). let id : AcctId = record { 0 = n } in id) (eqb-true a.0 b.0 is)

pub payment_comes : (H : List Entry) (p : Presented) (moment : ℕ) → PaymentComes H p moment (payment_steps H p moment)
unfolding payment_steps
payment_comes H p moment =
    let C : Result (Unit {0}) RefusalReason → Type 0 = PaymentComes H p moment in
    either C (p.hidden.acct.0 == p.consumer.acct.0) _ _ (λ fails. inl (refl, refl, refl, eqb-false _ _ fails)) (λ pays.
    either C (p.hidden.nonce == p.consumer.nonce) _ _ (λ fails. inr (inl (refl, refl, refl, eqb-false _ _ fails))) (λ knows.
    either C (p.endorsement.macct.0 == p.merchant.acct.0) _ _ (λ fails. inr (inr (inl (refl, refl, refl, eqb-false _ _ fails)))) (λ credited.
    either C (nat_le 1 p.order.price.0 && nat_le p.order.price.0 MAX_PRICE) _ _ (λ fails. inr (inr (inr (inl (refl, (refl, out_of_range p.order.price.0 fails, refl)))))) (λ priced.
    either C (nat_le moment (p.order.epoid.moment + MAX_AGE)) _ _ (λ fails. inr (inr (inr (inr (inl (refl, (refl, refl, leb-false _ _ fails))))))) (λ alive.
    either C (nat_le p.order.epoid.moment (moment + MAX_AHEAD)) _ _ (λ fails. inr (inr (inr (inr (inr (inl (refl, (refl, refl, leb-false _ _ fails)))))))) (λ begun.
    last C (nat_le p.order.price.0 (balance H p.consumer.acct)) _ (λ fails. inr (inr (inr (inr (inr (inr (refl, refl, refl, leb-false _ _ fails))))))) (λ covered.
    record {
      pays = same_acct _ _ pays;
      knows = eqb-true _ _ knows;
      credited = same_acct _ _ credited;
      priced = in_range p.order.price.0 priced;
      in_time = (leb-true _ _ alive, leb-true _ _ begun);
      covered = leb-true _ _ covered;
    })))))))

-- ---- an order

-- it was settled before by this digest, or it is settled now
abbrev pub SettledSo : List Entry → Head → ℕ → ℕ → Presented → Decision → Type 0
SettledSo H head cap moment p d =
    ((kept : Settlement) × (settlement_in H p.order.epoid ≡ Some kept) × (kept.digest ≡ p.digest) × (d ≡ result head p kept None))
    ⊎ (IsNone (order_in H p.order.epoid) × (length H < cap) × (d ≡ result head p (settled H head p moment) (Some (settlement_entry (settled H head p moment)))))

abbrev pub OrderComes : List Entry → Head → ℕ → List ℕ → ℕ → Answer → Type 0
OrderComes H head cap body moment (Ok d) = (p : Presented) × IsAuthenticOrder H body p × SettledSo H head cap moment p d
OrderComes H head cap body moment (Err why) = IsTrueOfRequest H body why ⊎ IsTrueOfOrder H body why ⊎ IsTrueOfHidden H body why ⊎ IsTrueOfPresented H cap body why

pub digest_at : (at : ℕ) (e : Entry) (s : Settlement) → settlement_at at e ≡ Some s → digest_held e ≡ Some s.digest
digest_at at (Enrol id role acct nonce key) s is = absurd (none-some s is)
digest_at at (Fund acct amount reference) s is = absurd (none-some s is)
digest_at at (Paid digest epoid consumer merchant product price cacct macct moment key) s is = ap (λ (x : Settlement). let o : Option (List ℕ) = Some x.digest in o) (same_Some _ s is)
digest_at at (Charged digest epoid consumer merchant product price fee cacct macct moment key) s is = ap (λ (x : Settlement). let o : Option (List ℕ) = Some x.digest in o) (same_Some _ s is)
digest_at at (Refused digest epoid consumer merchant product price code a b moment) s is = ap (λ (x : Settlement). let o : Option (List ℕ) = Some x.digest in o) (same_Some _ s is)

pub kept_for : (H : List Entry) (p : Epoid) (s : Settlement) → settlement_in H p ≡ Some s → (kept : Kept) × (order_in H p ≡ Some kept) × (digest_held kept.entry ≡ Some s.digest)
unfolding settlement_in
kept_for H p s is = part (order_in H p) refl is
  where
    part : (o : Option Kept) → order_in H p ≡ o → option_and_then settlement_of o ≡ Some s → (kept : Kept) × (order_in H p ≡ Some kept) × (digest_held kept.entry ≡ Some s.digest)
    part None found is = absurd (none-some s is)
    part (Some kept) found is = (kept, found, digest_at kept.at kept.entry s is)

again_comes : (H : List Entry) (head : Head) (cap : ℕ) (body : List ℕ) (moment : ℕ) (p : Presented) → IsAuthenticOrder H body p → (o : Option Settlement) → settlement_in H p.order.epoid ≡ o
    → OrderComes H head cap body moment (again_or_settle H head cap p moment o)
again_comes H head cap body moment p authentic (Some kept) held =
    behind (OrderComes H head cap body moment) (same_digest kept.digest p.digest) _
    (λ why is. let entry = kept_for H p.order.epoid kept held in let used = used_so kept.digest p.digest why is in
    inr (inr (inr (p, authentic, inl (entry.0, kept.digest, entry.1, entry.2, used.0, used.1)))))
    (λ u is. (p, authentic, inl (kept, held, digest_so kept.digest p.digest u is, refl)))
again_comes H head cap body moment p authentic None none =
    behind (OrderComes H head cap body moment) (room_left H cap) _
    (λ why is. inr (inr (inr (p, authentic, inr (none_so H p.order.epoid none, full_so H cap why is)))))
    (λ u is. (p, authentic, inr (none_so H p.order.epoid none, room_so H cap u is, refl)))

endorsement_so : (key bytes : List ℕ) (e : Endorsement) → endorsement_in key bytes ≡ Ok e → OpensAs endorsement_of key (codes "endo") bytes (Ok e)
unfolding endorsement_in
endorsement_so key bytes e is = opened_so endorsement_of IN_ENDORSEMENT key (codes "endo") bytes e is

no_endorsement : (key bytes : List ℕ) (why : Refusal) → endorsement_in key bytes ≡ Err why → IsNotSealed key (codes "endo") bytes why ⊎ IsSealedBadly IN_ENDORSEMENT endorsement_of key (codes "endo") bytes why
unfolding endorsement_in
no_endorsement key bytes why is = unopened_so endorsement_of IN_ENDORSEMENT key (codes "endo") bytes why is

hidden_so : (key bytes : List ℕ) (h : Hidden) → hidden_in key bytes ≡ Ok h → OpensAs hidden_of key (codes "hide") bytes (Ok h)
unfolding hidden_in
hidden_so key bytes h is = opened_so hidden_of IN_HIDDEN key (codes "hide") bytes h is

no_hidden : (key bytes : List ℕ) (why : Refusal) → hidden_in key bytes ≡ Err why → IsNotSealed key (codes "hide") bytes why ⊎ IsSealedBadly IN_HIDDEN hidden_of key (codes "hide") bytes why
unfolding hidden_in
no_hidden key bytes why is = unopened_so hidden_of IN_HIDDEN key (codes "hide") bytes why is

pub order_comes : (H : List Entry) (head : Head) (cap : ℕ) (body : List ℕ) (moment : ℕ) → OrderComes H head cap body moment (order_steps H head cap body moment)
unfolding order_steps
order_comes H head cap body moment =
    let C : Answer → Type 0 = OrderComes H head cap body moment in
    behind C (well_formed IN_BODY (endorsed_of body)) _ (λ why is. inl (inl (malformed IN_BODY (endorsed_of body) why is))) (λ request is.
    let spelled : endorsed_of body ≡ Ok request = formed IN_BODY (endorsed_of body) request is in
    behind C (enrolled_as H MERCHANT request.merchant) _ (λ why is. inl (inr (inl (request, spelled, not_in_role H MERCHANT request.merchant why is)))) (λ merchant is.
    let seller = role_found H MERCHANT request.merchant merchant is in
    let asked : IsAsked H body request merchant = record { spelled = spelled; enrolled = seller.0; sells = seller.1 } in
    behind C (endorsement_in merchant.key request.sealed) _ (λ why is. inl (inr (inr (request, merchant, asked, no_endorsement merchant.key request.sealed why is)))) (λ endorsement is.
    let endorsed : IsEndorsed H body request merchant endorsement = record { asked = asked; opens = endorsement_so merchant.key request.sealed endorsement is } in
    behind C (well_formed IN_ORDER (order_of endorsement.order)) _
    (λ why is. inr (inl (inl (request, merchant, endorsement, endorsed, malformed IN_ORDER (order_of endorsement.order) why is)))) (λ order is.
    let ordered : IsOrdered H body request merchant endorsement order = record { endorsed = endorsed; spelled = formed IN_ORDER (order_of endorsement.order) order is } in
    behind C (enrolled_as H CONSUMER order.consumer) _
    (λ why is. inr (inl (inr (request, merchant, endorsement, order, ordered, inl (not_in_role H CONSUMER order.consumer why is))))) (λ consumer is.
    let buyer = role_found H CONSUMER order.consumer consumer is in
    behind C (same_merchant request.merchant order) _
    (λ why is. inr (inl (inr (request, merchant, endorsement, order, ordered, inr (inl (other_so request order why is)))))) (λ u is.
    let names = merchant_so request.merchant order u is in
    behind C (right_tag order.tag (order_tag consumer.key order)) _
    (λ why is. inr (inl (inr (request, merchant, endorsement, order, ordered, inr (inr (consumer, buyer.0, other_tag order.tag (order_tag consumer.key order) why is)))))) (λ v is.
    let signed : IsSignedOrder H body request merchant endorsement order consumer = record {
      ordered = ordered;
      enrolled = buyer.0;
      buys = buyer.1;
      endorser = names.0;
      issuer = names.1;
      signed = right_so order.tag (order_tag consumer.key order) v is;
    } in
    behind C (hidden_in consumer.key order.hidden) _
    (λ why is. inr (inr (inl (request, merchant, endorsement, order, consumer, signed, no_hidden consumer.key order.hidden why is)))) (λ hidden is.
    let p : Presented = record { merchant = merchant; consumer = consumer; endorsement = endorsement; digest = endorsement_digest endorsement; order = order; hidden = hidden } in
    let authentic : IsAuthenticOrder H body p = record { request = request; signed = signed; opens = hidden_so consumer.key order.hidden hidden is; hashed = refl } in
    again_comes H head cap body moment p authentic (settlement_in H order.epoid) refl))))))))

-- ---- a status query

abbrev pub QueryComes : List Entry → Head → List ℕ → Answer → Type 0
QueryComes H head body (Ok d) = (asked : StatusQuery) × (is : IsAuthentic H body asked) × (asked.least ≤ length H) × (d ≡ status_told H head is.asker asked)
QueryComes H head body (Err why) = IsTrueOfQuery H body why

too_few : (H : List Entry) (asked : StatusQuery) (why : Refusal) → enough_entries H asked.least ≡ Err why → AreTooFew H asked why
unfolding enough_entries
too_few H asked why is =
    let so = fails_so (nat_le asked.least (length H)) _ why is in
    (leb-false asked.least (length H) so.0, so.1)

enough_so : (H : List Entry) (least : ℕ) (u : Unit {0}) → enough_entries H least ≡ Ok u → least ≤ length H
unfolding enough_entries
enough_so H least u is = leb-true least (length H) (held_so (nat_le least (length H)) _ u is)

pub query_comes : (H : List Entry) (head : Head) (body : List ℕ) → QueryComes H head body (status_steps H head body)
unfolding status_steps
query_comes H head body =
    let C : Answer → Type 0 = QueryComes H head body in
    behind C (well_formed IN_BODY (query_of body)) _ (λ why is. inl (malformed IN_BODY (query_of body) why is)) (λ asked is.
    let spelled : query_of body ≡ Ok asked = formed IN_BODY (query_of body) asked is in
    behind C (enrolled H asked.asker) _ (λ why is. inr (inl (asked, spelled, (not_enrolled H asked.asker why is).0, (not_enrolled H asked.asker why is).1))) (λ asker is.
    let found = party_found H asked.asker asker is in
    behind C (right_tag asked.tag (hmac_of asker.key (codes "stat" ++ signed_part body))) _
    (λ why is. inr (inr (asked, asker, spelled, found, inl (other_tag asked.tag _ why is)))) (λ u is.
    let right = right_so asked.tag _ u is in
    behind C (enough_entries H asked.least) _
    (λ why is. inr (inr (asked, asker, spelled, found, inr (too_few H asked why is)))) (λ v is.
    (asked, record { asker = asker; read = spelled; enrolled = found; signed = right }, enough_so H asked.least v is, refl)))))

-- ---- a request for a ticket

abbrev pub TicketComes : List Entry → Head → List ℕ → ℕ → Answer → Type 0
TicketComes H head body moment (Ok d) = (asked : TicketAsk) × (buyer : Party) × (seller : Party) × MayGrant H body asked buyer seller × (d ≡ ticket_granted head buyer seller asked moment)
TicketComes H head body moment (Err why) = IsTrueOfTicketAsk H body why

pub ticket_comes : (H : List Entry) (head : Head) (body : List ℕ) (moment : ℕ) → TicketComes H head body moment (ticket_steps H head body moment)
unfolding ticket_steps
ticket_comes H head body moment =
    let C : Answer → Type 0 = TicketComes H head body moment in
    behind C (well_formed IN_BODY (ask_of body)) _ (λ why is. inl (malformed IN_BODY (ask_of body) why is)) (λ asked is.
    let spelled : ask_of body ≡ Ok asked = formed IN_BODY (ask_of body) asked is in
    behind C (enrolled_as H CONSUMER asked.consumer) _ (λ why is. inr (inl (asked, spelled, not_in_role H CONSUMER asked.consumer why is))) (λ buyer is.
    let buys = role_found H CONSUMER asked.consumer buyer is in
    behind C (right_tag asked.tag (ask_tag buyer.key asked.consumer asked.merchant asked.nonce)) _
    (λ why is. inr (inr (inl (asked, buyer, spelled, buys.0, buys.1, other_tag asked.tag _ why is)))) (λ u is.
    let authentic : IsAuthenticAsk H body asked buyer = record { spelled = spelled; enrolled = buys.0; buys = buys.1; signed = right_so asked.tag _ u is } in
    behind C (enrolled_as H MERCHANT asked.merchant) _ (λ why is. inr (inr (inr (asked, buyer, authentic, not_in_role H MERCHANT asked.merchant why is)))) (λ seller is.
    let sells = role_found H MERCHANT asked.merchant seller is in
    (asked, buyer, seller, record { authentic = authentic; enrolled = sells.0; sells = sells.1 }, refl)))))

-- ---- an enrolment

abbrev pub EnrolmentComes : List Entry → Head → ℕ → List ℕ → Answer → Type 0
EnrolmentComes H head cap body (Ok d) = (asked : Enrolment) × (enrolment_of body ≡ Ok asked) × (asked.tag ≡ hmac_of head.operator (codes "enro" ++ signed_part body))
    × (((at : ℕ) × (place_in H (enrol_entry asked) ≡ Some at) × (d ≡ done asked.acct at (balance H asked.acct) None))
    ⊎ (LegalAfter H (enrol_entry asked) × (length H < cap) × (d ≡ done asked.acct (length H) (balance (H ++ enrol_entry asked ∷ []) asked.acct) (Some (enrol_entry asked)))))
EnrolmentComes H head cap body (Err why) = IsTrueOfEnrolment H head cap body why

not_free : (H : List Entry) (asked : Enrolment) (why : Refusal) → numbers_free H asked.id asked.acct ≡ Err why → IsHeld H asked why
unfolding numbers_free
not_free H asked why is = part (party_in H asked.id) refl (holder_in H asked.acct) refl is
  where
    zero_so : (a b : ℕ) → (not (a == 0) && not (b == 0)) ≡ false → (a ≡ 0) ⊎ (b ≡ 0)
    zero_so a b none = one (a == 0) (b == 0) refl refl none
      where
        one : (x y : Bool) → (a == 0) ≡ x → (b == 0) ≡ y → (not x && not y) ≡ false → (a ≡ 0) ⊎ (b ≡ 0)
        one true y first second none = inl (eqb-true a 0 first)
        one false true first second none = inr (eqb-true b 0 second)
        one false false first second none = absurd cc

    part : (o : Option Party) → party_in H asked.id ≡ o → (h : Option PartyId) → holder_in H asked.acct ≡ h → if_unheld asked.id asked.acct o h ≡ Err why → IsHeld H asked why
    part (Some party) found h holder is = inl (party, found, sym (same_why _ why is))
    part None none (Some who) holder is = inr (inl (who, rw none refl, holder, sym (same_why _ why is)))
    part None none None nobody is =
        let so = fails_so (not (asked.id.0 == 0) && not (asked.acct.0 == 0)) _ why is in
        inr (inr (rw none refl, rw nobody refl, zero_so asked.id.0 asked.acct.0 so.0, so.1))

enrol_again_comes : (H : List Entry) (head : Head) (cap : ℕ) (body : List ℕ) (asked : Enrolment) → enrolment_of body ≡ Ok asked → asked.tag ≡ hmac_of head.operator (codes "enro" ++ signed_part body)
    → (o : Option ℕ) → place_in H (enrol_entry asked) ≡ o → EnrolmentComes H head cap body (again_or_enrol H cap asked o)
enrol_again_comes H head cap body asked spelled right (Some at) place = (asked, spelled, right, inl (at, place, refl))
enrol_again_comes H head cap body asked spelled right None place =
    behind (EnrolmentComes H head cap body) (numbers_free H asked.id asked.acct) _ (λ why is. inr (asked, spelled, inr (inl (not_free H asked why is)))) (λ u is.
    let numbers = free_so H asked.id asked.acct u is in
    behind (EnrolmentComes H head cap body) (room_left H cap) _ (λ why is. inr (asked, spelled, inr (inr (full_so H cap why is)))) (λ v is.
    (asked, spelled, right, inr ((numbers.0, numbers.1, role_so body asked spelled, numbers.2, numbers.3), room_so H cap v is, refl))))

pub enrolment_comes : (H : List Entry) (head : Head) (cap : ℕ) (body : List ℕ) → EnrolmentComes H head cap body (enrol_steps H head cap body)
unfolding enrol_steps
enrolment_comes H head cap body =
    let C : Answer → Type 0 = EnrolmentComes H head cap body in
    behind C (well_formed IN_BODY (enrolment_of body)) _ (λ why is. inl (malformed IN_BODY (enrolment_of body) why is)) (λ asked is.
    let spelled : enrolment_of body ≡ Ok asked = formed IN_BODY (enrolment_of body) asked is in
    behind C (right_tag asked.tag (hmac_of head.operator (codes "enro" ++ signed_part body))) _ (λ why is. inr (asked, spelled, inl (other_tag asked.tag _ why is))) (λ u is.
    enrol_again_comes H head cap body asked spelled (right_so asked.tag _ u is) (place_in H (enrol_entry asked)) refl))

-- ---- a fund

abbrev pub FundingComes : List Entry → Head → ℕ → List ℕ → Answer → Type 0
FundingComes H head cap body (Ok d) = (asked : Funding) × (funding_of body ≡ Ok asked) × (asked.tag ≡ hmac_of head.operator (codes "fund" ++ signed_part body))
    × (((at : ℕ) × (place_in H (fund_entry asked) ≡ Some at) × (d ≡ done asked.acct at (balance H asked.acct) None))
    ⊎ (LegalAfter H (fund_entry asked) × (length H < cap) × (d ≡ done asked.acct (length H) (balance (H ++ fund_entry asked ∷ []) asked.acct) (Some (fund_entry asked)))))
FundingComes H head cap body (Err why) = Legal H → IsTrueOfFunding H head cap body why

funded_otherwise : (H : List Entry) → Legal H → (asked : Funding) (why : Refusal) → place_in H (fund_entry asked) ≡ None → reference_new H asked.reference ≡ Err why → IsFundedOtherwise H asked why
unfolding reference_new
funded_otherwise H legal asked why none is = part (funded_in H asked.reference) refl is
  where
    differs : (kept : Funded) → funded_place asked kept ≡ None → (kept.acct.0 ≢ asked.acct.0) ⊎ (kept.amount ≢ asked.amount)
    differs kept is = one (kept.acct.0 == asked.acct.0) (kept.amount == asked.amount) refl refl is
      where
        one : (x y : Bool) → (kept.acct.0 == asked.acct.0) ≡ x → (kept.amount == asked.amount) ≡ y → (let o : Option ℕ = if x && y then Some kept.at else None in o) ≡ None
            → (kept.acct.0 ≢ asked.acct.0) ⊎ (kept.amount ≢ asked.amount)
        one false y first second none = inl (eqb-false kept.acct.0 asked.acct.0 first)
        one true false first second none = inr (eqb-false kept.amount asked.amount second)
        one true true first second none = absurd (none-some kept.at (sym none))

    part : (o : Option Funded) → funded_in H asked.reference ≡ o → if_unfunded o ≡ Err why → IsFundedOtherwise H asked why
    part None found is = absurd cc
    part (Some kept) found is =
        let place : option_and_then (funded_place asked) (funded_in H asked.reference) ≡ None = fund_place H legal asked ∙ none in
        let here : funded_place asked kept ≡ None = sym (ap (λ (o : Option Funded). option_and_then (funded_place asked) o) found) ∙ place in
        (kept, found, differs kept here, sym (same_why _ why is))

no_holder : (H : List Entry) (asked : Funding) (why : Refusal) → account_held H asked.acct ≡ Err why → HasNoHolder H asked why
unfolding account_held
no_holder H asked why is =
    let so = fails_so (is_some (holder_in H asked.acct)) _ why is in
    (nobody (holder_in H asked.acct) so.0, so.1)
  where
    nobody : (o : Option PartyId) → is_some o ≡ false → IsNone o
    nobody None is = refl
    nobody (Some who) is = absurd cc

too_much : (H : List Entry) (asked : Funding) (why : Refusal) → total_within H asked.amount ≡ Err why → IsTooMuch H asked why
unfolding total_within
too_much H asked why is =
    let so = fails_so (nat_le (total H + asked.amount) MAX_TOTAL) _ why is in
    (leb-false (total H + asked.amount) MAX_TOTAL so.0, so.1)

fund_again_comes : (H : List Entry) (head : Head) (cap : ℕ) (body : List ℕ) (asked : Funding) → funding_of body ≡ Ok asked → asked.tag ≡ hmac_of head.operator (codes "fund" ++ signed_part body)
    → (o : Option ℕ) → place_in H (fund_entry asked) ≡ o → FundingComes H head cap body (again_or_fund H cap asked o)
fund_again_comes H head cap body asked spelled right (Some at) place = (asked, spelled, right, inl (at, place, refl))
fund_again_comes H head cap body asked spelled right None place =
    let C : Answer → Type 0 = FundingComes H head cap body in
    let amount = amount_so body asked spelled in
    behind C (reference_new H asked.reference) _ (λ why is legal. inr (asked, spelled, inr (inl (funded_otherwise H legal asked why place is)))) (λ u new.
    behind C (account_held H asked.acct) _ (λ why is legal. inr (asked, spelled, inr (inr (inl (no_holder H asked why is))))) (λ v held.
    behind C (total_within H asked.amount) _ (λ why is legal. inr (asked, spelled, inr (inr (inr (inl (too_much H asked why is)))))) (λ w within.
    behind C (room_left H cap) _ (λ why is legal. inr (asked, spelled, inr (inr (inr (inr (full_so H cap why is)))))) (λ x room. (
      asked,
      spelled,
      right,
      inr ((account_so H asked.acct v held, amount.0, amount.1, new_so H asked.reference u new, total_so H asked.amount w within), room_so H cap x room, refl),
    )))))

pub funding_comes : (H : List Entry) (head : Head) (cap : ℕ) (body : List ℕ) → FundingComes H head cap body (fund_steps H head cap body)
unfolding fund_steps
funding_comes H head cap body =
    let C : Answer → Type 0 = FundingComes H head cap body in
    behind C (well_formed IN_BODY (funding_of body)) _ (λ why is legal. inl (malformed IN_BODY (funding_of body) why is)) (λ asked is.
    let spelled : funding_of body ≡ Ok asked = formed IN_BODY (funding_of body) asked is in
    behind C (right_tag asked.tag (hmac_of head.operator (codes "fund" ++ signed_part body))) _ (λ why is legal. inr (asked, spelled, inl (other_tag asked.tag _ why is))) (λ u is.
    fund_again_comes H head cap body asked spelled (right_so asked.tag _ u is) (place_in H (fund_entry asked)) refl))

-- ---- the kinds

-- what comes of a request of any kind
abbrev pub Comes : List Entry → Head → ℕ → ℕ → List ℕ → ℕ → Answer → Type 0
Comes H head cap kind body moment (Ok d) =
    ((kind ≡ ORDER_REQUEST) × OrderComes H head cap body moment (Ok d))
    ⊎ ((kind ≡ STATUS_REQUEST) × QueryComes H head body (Ok d))
    ⊎ ((kind ≡ TICKET_REQUEST) × TicketComes H head body moment (Ok d))
    ⊎ ((kind ≡ ENROL_REQUEST) × EnrolmentComes H head cap body (Ok d))
    ⊎ ((kind ≡ FUND_REQUEST) × FundingComes H head cap body (Ok d))
Comes H head cap kind body moment (Err why) = Legal H → IsTrueRefusal H head cap kind body why

of_kind : (P : Answer → Type 0) (a b : ℕ) (f g : Answer) → (a ≡ b → P f) → (a ≢ b → P g) → P (if a == b then f else g)
of_kind P a b f g same other = part (a == b) refl
  where
    part : (c : Bool) → (a == b) ≡ c → P (if c then f else g)
    part true is = same (eqb-true a b is)
    part false is = other (eqb-false a b is)

pub comes : (H : List Entry) (head : Head) (cap kind : ℕ) (body : List ℕ) (moment : ℕ) → Comes H head cap kind body moment (steps H head cap kind body moment)
comes H head cap kind body moment =
    let C : Answer → Type 0 = Comes H head cap kind body moment in
    of_kind C kind ORDER_REQUEST _ _ (λ is. order is (order_steps H head cap body moment) (order_comes H head cap body moment)) (λ one.
    of_kind C kind STATUS_REQUEST _ _ (λ is. query is (status_steps H head body) (query_comes H head body)) (λ two.
    of_kind C kind TICKET_REQUEST _ _ (λ is. ticket is (ticket_steps H head body moment) (ticket_comes H head body moment)) (λ three.
    of_kind C kind ENROL_REQUEST _ _ (λ is. enrolment is (enrol_steps H head cap body) (enrolment_comes H head cap body)) (λ four.
    of_kind C kind FUND_REQUEST _ _ (λ is. funding is (fund_steps H head cap body) (funding_comes H head cap body)) (λ five.
    λ legal. inr (inr (inr (inr (inr (one, two, three, four, five, refl))))))))))
  where
    order : kind ≡ ORDER_REQUEST → (r : Answer) → OrderComes H head cap body moment r → Comes H head cap kind body moment r
    order is (Ok d) it = inl (is, it)
    order is (Err why) it = λ legal. inl (is, it)

    query : kind ≡ STATUS_REQUEST → (r : Answer) → QueryComes H head body r → Comes H head cap kind body moment r
    query is (Ok d) it = inr (inl (is, it))
    query is (Err why) it = λ legal. inr (inl (is, it))

    ticket : kind ≡ TICKET_REQUEST → (r : Answer) → TicketComes H head body moment r → Comes H head cap kind body moment r
    ticket is (Ok d) it = inr (inr (inl (is, it)))
    ticket is (Err why) it = λ legal. inr (inr (inl (is, it)))

    enrolment : kind ≡ ENROL_REQUEST → (r : Answer) → EnrolmentComes H head cap body r → Comes H head cap kind body moment r
    enrolment is (Ok d) it = inr (inr (inr (inl (is, it))))
    enrolment is (Err why) it = λ legal. inr (inr (inr (inl (is, it))))

    funding : kind ≡ FUND_REQUEST → (r : Answer) → FundingComes H head cap body r → Comes H head cap kind body moment r
    funding is (Ok d) it = inr (inr (inr (inr (is, it))))
    funding is (Err why) it = λ legal. inr (inr (inr (inr (inl (is, it legal)))))

-- What is recorded, told and refused, and exactly where.
use Rattle.std.proofs.Common.{◌≡◌, ◌≢◌, ◌⊎◌, inl, inr, ℕ, ◌+◌, ◌<◌, ◌≤◌, ◌++◌, ◌∷◌, [], Bool, true, false, not, ◌&&◌, ◌||◌, nat_le, List, length, codes, Option, None, Some, IsNone, IsSome, Result, Ok, Err, arith, refl, sym, ap, subst, ◌∙◌, eq-eqb}
use Rattle.std.proofs.lemmas.Bool.{eqb-true, le-leb}
use Rattle.std.proofs.lemmas.Option.{same_Some, none-some}
use Rattle.std.specs.Prelude.{◌==◌, if◌then◌else◌}
use Rattle.std.specs.Option.{option_and_then}
use Rattle.nb_units.specs.declared.epoid.Epoid.{Epoid}
use Rattle.nb_units.specs.declared.frames.TheConstants.{ORDER_REQUEST, STATUS_REQUEST, ENROL_REQUEST, FUND_REQUEST}
use Rattle.nb_units.specs.declared.ids.AcctId.{AcctId}
use Rattle.nb_units.specs.declared.ids.PartyId.{PartyId}
use Rattle.nb_seal.specs.Hmac.{hmac_of}
use Rattle.nb_entry.specs.declared.entry.Entry.{Entry}
use Rattle.nb_entry.specs.declared.entry.Entry.TheVariants.{Enrol, Fund, Paid, Charged, Refused}
use Rattle.nb_entry.specs.declared.entry.TheConstants.{CONSUMER, MERCHANT}
use Rattle.nb_book.specs.declared.funded.Funded.{Funded}
use Rattle.nb_book.specs.declared.kept.Kept.{Kept}
use Rattle.nb_book.specs.declared.limits.TheConstants.{MAX_PRICE, MAX_AGE, MAX_AHEAD, MAX_TOTAL}
use Rattle.nb_book.specs.declared.party.Party.{Party}
use Rattle.nb_book.specs.declared.reason.TheConstants.{CONSUMER_ACCOUNT, MERCHANT_ACCOUNT, BALANCE_LOW, CONSUMER_NONCE}
use Rattle.nb_book.specs.Legal.{LegalAfter, Legal}
use Rattle.nb_book.specs.Money.{balance, total}
use Rattle.nb_book.specs.Searches.{party_in, holder_in, funded_in, order_in}
use Rattle.nb_epo.specs.declared.hidden.Hidden.{Hidden}
use Rattle.nb_epo.specs.Reading.{order_of, hidden_of}
use Rattle.nb_epo.specs.Tags.{order_tag}
use Rattle.nb_endorse.specs.declared.endorsement.Endorsement.{Endorsement}
use Rattle.nb_endorse.specs.declared.receipt.Receipt.{Receipt}
use Rattle.nb_endorse.specs.declared.refusal.Refusal.{Refusal}
use Rattle.nb_endorse.specs.declared.refusal.TheConstants.{IN_BODY, IN_ENDORSEMENT, IN_ORDER, IN_HIDDEN}
use Rattle.nb_endorse.specs.declared.reply.Reply.{Reply}
use Rattle.nb_endorse.specs.declared.reply.Reply.TheVariants.{Result as Receipts, Grant, Done, Status, Refused as Told}
use Rattle.nb_endorse.specs.Reading.{endorsement_of}
use Rattle.nb_seal.specs.Seal.{OpensAs}
use Rattle.nb_escrow.specs.declared.decision.Decision.{Decision}
use Rattle.nb_body.specs.declared.enrolment.Enrolment.{Enrolment}
use Rattle.nb_body.specs.declared.funding.Funding.{Funding}
use Rattle.nb_escrow.specs.declared.head.Head.{Head}
use Rattle.nb_escrow.specs.declared.order.Presented.{Presented}
use Rattle.nb_escrow.specs.declared.settlement.PaymentOutcome.TheVariants as outcome
use Rattle.nb_escrow.specs.declared.settlement.RefusalReason.{RefusalReason}
use Rattle.nb_escrow.specs.declared.settlement.Settlement.{Settlement}
use Rattle.nb_body.specs.declared.query.StatusQuery.{StatusQuery}
use Rattle.nb_escrow.specs.Checks.{signed_part, unless, well_formed, enrolled_as, right_tag, room_left}
use Rattle.nb_escrow.specs.Claims.{IsTrueRefusal}
use Rattle.nb_escrow.specs.Enrolments.{enrol_entry, party_place, numbers_free, again_or_enrol, enrol_steps}
use Rattle.nb_escrow.specs.Fundings.{fund_entry, funded_place, reference_new, account_held, total_within, again_or_fund, fund_steps}
use Rattle.nb_escrow.specs.Head.{charge}
use Rattle.nb_escrow.specs.Held.{place_in, done}
use Rattle.nb_escrow.specs.Laws.{IsAuthentic, IsEnrolment, IsFund, IsPayment, IsRefusedOrder, AreReceipts, IsStatusReply, PaidExactlyWhere, PayableIsTold, SettledExactlyWhere, RefusedForTrueReason, ToldExactlyWhere, EnrolledExactlyWhere, FundedExactlyWhere, AnsweredExactlyWhere, RefusalsAreTrue}
use Rattle.nb_escrow.specs.Orders.{endorsement_in, hidden_in, same_merchant, same_digest, settled, result, again_or_settle, order_steps}
use Rattle.nb_escrow.specs.Payable.{IsAuthenticOrder, MaySettle, IsPayable, payment_with, payment_of, TellsPayment, IsTrueReason, refusal_of, TellsReason, digest_held}
use Rattle.nb_escrow.specs.Payments.{payment_steps, outcome_of}
use Rattle.nb_body.specs.Reading.{enrolment_of, funding_of, endorsed_of}
use Rattle.nb_escrow.specs.Settlements.{settlement_at, settlement_in, entry_with, settlement_entry, receipt_in_role, may_see}
use Rattle.nb_escrow.specs.Statuses.{status_told}
use Rattle.nb_escrow.specs.Verdict.{steps, told, verdict}
use Rattle.nb_escrow.proofs.Holding.{enrol_place, fund_place}
use Rattle.nb_escrow.proofs.Judging.{Answer, Comes, comes, Pays, PaymentComes, payment_comes, kept_for}
use Rattle.nb_escrow.proofs.Keys.{passes}
use Rattle.nb_escrow.proofs.Tests.{step, holds_so, in_role, sealed_so, same_merchants, tag_so, room_for, same_digests}

pub none_is : {A : Type 0} (o : Option A) → IsNone o → o ≡ None
none_is None none = refl
none_is (Some x) none = absurd cc

-- ---- replies of each kind

receipts_tell_not : (merchant consumer : Receipt) (why : Refusal) → (let r : Reply = Receipts merchant consumer in r) ≡ Told why → ⊥
receipts_tell_not merchant consumer why is = cc

status_tells_not : (place : ℕ) (epoid : Epoid) (receipt : Option Receipt) (why : Refusal) → (let r : Reply = Status place epoid receipt in r) ≡ Told why → ⊥
status_tells_not place epoid receipt why is = cc

grant_tells_not : (consumer merchant : PartyId) (nonce until : ℕ) (session : List ℕ) (why : Refusal) → (let r : Reply = Grant consumer merchant nonce until session in r) ≡ Told why → ⊥
grant_tells_not consumer merchant nonce until session why is = cc

done_tells_not : (acct : AcctId) (at amount : ℕ) (why : Refusal) → (let r : Reply = Done acct at amount in r) ≡ Told why → ⊥
done_tells_not acct at amount why is = cc

same_told : (a b : Refusal) → (let r : Reply = Told a in r) ≡ Told b → a ≡ b
same_told a b is = cc

-- ---- what is recorded, and for what

module _ (H : List Entry) (head : Head) (cap kind : ℕ) (body : List ℕ) (moment : ℕ) where
  -- an order is settled now
  abbrev Settles : Decision → Entry → Type 0
  Settles d e = (p : Presented) × MaySettle H cap body p × (d ≡ result head p (settled H head p moment) (Some (settlement_entry (settled H head p moment)))) × (settlement_entry (settled H head p moment) ≡ e)

  abbrev Enrols : Entry → Type 0
  Enrols e = (asked : Enrolment) × (enrolment_of body ≡ Ok asked) × (asked.tag ≡ hmac_of head.operator (codes "enro" ++ signed_part body))
      × (e ≡ enrol_entry asked) × LegalAfter H e × (length H < cap)

  abbrev Funds : Entry → Type 0
  Funds e = (asked : Funding) × (funding_of body ≡ Ok asked) × (asked.tag ≡ hmac_of head.operator (codes "fund" ++ signed_part body))
      × (e ≡ fund_entry asked) × LegalAfter H e × (length H < cap)

  -- for what a decision records an entry
  abbrev RecordedFor : Decision → Entry → Type 0
  RecordedFor d e = ((kind ≡ ORDER_REQUEST) × Settles d e) ⊎ ((kind ≡ ENROL_REQUEST) × Enrols e) ⊎ ((kind ≡ FUND_REQUEST) × Funds e)

  -- a decision without an entry records none
  silent : (d d' : Decision) (e : Entry) → d ≡ d' → d'.entry ≡ None → d.entry ≡ Some e → ⊥
  silent d d' e same none is = none-some e (sym none ∙ sym (ap (λ (x : Decision). x.entry) same) ∙ is)

  entry_is : (d d' : Decision) (mine e : Entry) → d ≡ d' → d'.entry ≡ Some mine → d.entry ≡ Some e → mine ≡ e
  entry_is d d' mine e same some is = same_Some mine e (sym some ∙ sym (ap (λ (x : Decision). x.entry) same) ∙ is)

  recorded_for : (d : Decision) (e : Entry) → Comes H head cap kind body moment (Ok d) → d.entry ≡ Some e → RecordedFor d e
  recorded_for d e (inl (is, (p, authentic, inl (kept, held, same, d_is)))) some = absurd (silent d _ e d_is refl some)
  recorded_for d e (inl (is, (p, authentic, inr (new, room, d_is)))) some =
      inl (is, (p, record { authentic = authentic; new = new; room = room }, d_is, entry_is d _ _ e d_is refl some))
  recorded_for d e (inr (inl (is, (asked, authentic, least, d_is)))) some = absurd (silent d _ e d_is refl some)
  recorded_for d e (inr (inr (inl (is, (asked, buyer, seller, may, d_is))))) some = absurd (silent d _ e d_is refl some)
  recorded_for d e (inr (inr (inr (inl (is, (asked, spelled, right, inl (at, place, d_is))))))) some = absurd (silent d _ e d_is refl some)
  recorded_for d e (inr (inr (inr (inl (is, (asked, spelled, right, inr (legal, room, d_is))))))) some =
      let same : enrol_entry asked ≡ e = entry_is d _ _ e d_is refl some in
      inr (inl (is, (asked, spelled, right, sym same, subst (LegalAfter H) same legal, room)))
  recorded_for d e (inr (inr (inr (inr (is, (asked, spelled, right, inl (at, place, d_is))))))) some = absurd (silent d _ e d_is refl some)
  recorded_for d e (inr (inr (inr (inr (is, (asked, spelled, right, inr (legal, room, d_is))))))) some =
      let same : fund_entry asked ≡ e = entry_is d _ _ e d_is refl some in
      inr (inr (is, (asked, spelled, right, sym same, subst (LegalAfter H) same legal, room)))

  -- the same of a verdict
  Recorded : Entry → Type 0
  Recorded e = (d : Decision) × (verdict H head cap kind body moment ≡ d) × RecordedFor d e

  recorded : (e : Entry) → (verdict H head cap kind body moment).entry ≡ Some e → (d : Decision) × (verdict H head cap kind body moment ≡ d) × RecordedFor d e
  recorded e is = part (steps H head cap kind body moment) refl (comes H head cap kind body moment) is
    where
      part : (r : Answer) → steps H head cap kind body moment ≡ r → Comes H head cap kind body moment r → (told r).entry ≡ Some e
          → (d : Decision) × (verdict H head cap kind body moment ≡ d) × RecordedFor d e
      part (Ok d) same it some = (d, ap told same, recorded_for d e it some)
      part (Err why) same it some = absurd (none-some e some)

  -- ---- how an order is settled

  abbrev SettledAs : Presented → Entry → Type 0
  SettledAs p e = (Pays H p moment × (e ≡ payment_of head p moment)) ⊎ ((why : RefusalReason) × IsTrueReason H p moment why × (payment_steps H p moment ≡ Err why) × (e ≡ refusal_of p moment why))

  -- the entry of a payment is the payment, whatever the house keeps
  paid_entry : (p : Presented) (fee : Option ℕ) → entry_with (settled H head p moment) (outcome.Paid p.consumer.acct p.merchant.acct p.endorsement.key fee) ≡ payment_with fee p moment
  paid_entry p None = refl
  paid_entry p (Some fee) = refl

  settled_as : (p : Presented) → SettledAs p (settlement_entry (settled H head p moment))
  settled_as p = part (payment_steps H p moment) refl (payment_comes H p moment)
    where
      part : (t : Result (Unit {0}) RefusalReason) → payment_steps H p moment ≡ t → PaymentComes H p moment t → SettledAs p (settlement_entry (settled H head p moment))
      part (Ok u) is pays = inl (pays, ap (λ (t : Result (Unit {0}) RefusalReason). entry_with (settled H head p moment) (outcome_of head p t)) is ∙ paid_entry p (charge head p.order.price))
      part (Err why) is true_so = inr (why, true_so, is, ap (λ (t : Result (Unit {0}) RefusalReason). entry_with (settled H head p moment) (outcome_of head p t)) is)

  pays_so : (p : Presented) → Pays H p moment → payment_steps H p moment ≡ Ok tt
  unfolding payment_steps
  pays_so p is =
      step (unless (p.hidden.acct.0 == p.consumer.acct.0) _) _ tt (holds_so _ _ (eq-eqb _ _ (ap (λ (a : AcctId). a.0) is.pays)))
      ∙ step (unless (p.hidden.nonce == p.consumer.nonce) _) _ tt (holds_so _ _ (eq-eqb _ _ is.knows))
      ∙ step (unless (p.endorsement.macct.0 == p.merchant.acct.0) _) _ tt (holds_so _ _ (eq-eqb _ _ (ap (λ (a : AcctId). a.0) is.credited)))
      ∙ step (unless (nat_le 1 p.order.price.0 && nat_le p.order.price.0 MAX_PRICE) _) _ tt (holds_so _ _ (rw (le-leb 1 p.order.price.0 is.priced.0, le-leb p.order.price.0 MAX_PRICE is.priced.1) refl))
      ∙ step (unless (nat_le moment (p.order.epoid.moment + MAX_AGE)) _) _ tt (holds_so _ _ (le-leb _ _ is.in_time.0))
      ∙ step (unless (nat_le p.order.epoid.moment (moment + MAX_AHEAD)) _) _ tt (holds_so _ _ (le-leb _ _ is.in_time.1))
      ∙ holds_so (nat_le p.order.price.0 (balance H p.consumer.acct)) _ (le-leb _ _ is.covered)

  -- ---- an authentic order passes its tests

  endorsement_back : (key bytes : List ℕ) (e : Endorsement) → OpensAs endorsement_of key (codes "endo") bytes (Ok e) → endorsement_in key bytes ≡ Ok e
  unfolding endorsement_in
  endorsement_back key bytes e seals = sealed_so endorsement_of IN_ENDORSEMENT key (codes "endo") bytes e seals

  hidden_back : (key bytes : List ℕ) (h : Hidden) → OpensAs hidden_of key (codes "hide") bytes (Ok h) → hidden_in key bytes ≡ Ok h
  unfolding hidden_in
  hidden_back key bytes h seals = sealed_so hidden_of IN_HIDDEN key (codes "hide") bytes h seals

  presented : (p : Presented) → IsAuthenticOrder H body p → order_steps H head cap body moment ≡ again_or_settle H head cap p moment (settlement_in H p.order.epoid)
  unfolding order_steps
  presented p is =
      let signed = is.signed in
      let ordered = signed.ordered in
      let endorsed = ordered.endorsed in
      let asked = endorsed.asked in
      step (well_formed IN_BODY (endorsed_of body)) _ is.request (ap (well_formed IN_BODY) asked.spelled)
      ∙ step (enrolled_as H MERCHANT is.request.merchant) _ p.merchant (in_role H MERCHANT is.request.merchant p.merchant asked.enrolled asked.sells)
      ∙ step (endorsement_in p.merchant.key is.request.sealed) _ p.endorsement (endorsement_back p.merchant.key is.request.sealed p.endorsement endorsed.opens)
      ∙ step (well_formed IN_ORDER (order_of p.endorsement.order)) _ p.order (ap (well_formed IN_ORDER) ordered.spelled)
      ∙ step (enrolled_as H CONSUMER p.order.consumer) _ p.consumer (in_role H CONSUMER p.order.consumer p.consumer signed.enrolled signed.buys)
      ∙ step (same_merchant is.request.merchant p.order) _ tt (same_merchants is.request.merchant p.order signed.endorser signed.issuer)
      ∙ step (right_tag p.order.tag (order_tag p.consumer.key p.order)) _ tt (tag_so p.order.tag _ signed.signed)
      ∙ step (hidden_in p.consumer.key p.order.hidden) _ p.hidden (hidden_back p.consumer.key p.order.hidden p.hidden is.opens)
      ∙ ap (λ (digest : List ℕ). again_or_settle H head cap (record { merchant = p.merchant; consumer = p.consumer; endorsement = p.endorsement; digest = digest; order = p.order; hidden = p.hidden }) moment (settlement_in H p.order.epoid)) (sym is.hashed)

  of_order : kind ≡ ORDER_REQUEST → steps H head cap kind body moment ≡ order_steps H head cap body moment
  of_order is = ap (λ (k : ℕ). steps H head cap k body moment) is

  no_settlement : (epoid : Epoid) → IsNone (order_in H epoid) → settlement_in H epoid ≡ None
  unfolding settlement_in
  no_settlement epoid none = rw (none_is (order_in H epoid) none) refl

  settles_now : kind ≡ ORDER_REQUEST → (p : Presented) → MaySettle H cap body p
      → verdict H head cap kind body moment ≡ result head p (settled H head p moment) (Some (settlement_entry (settled H head p moment)))
  settles_now kind_is p is =
      ap told (of_order kind_is ∙ presented p is.authentic ∙ ap (again_or_settle H head cap p moment) (no_settlement p.order.epoid is.new)
      ∙ step (room_left H cap) _ tt (room_for H cap is.room))

  -- ---- the laws on orders

  abbrev IsPaidSo : Entry → Type 0
  IsPaidSo e = (kind ≡ ORDER_REQUEST) × ((p : Presented) × IsPayable H cap body moment p × (e ≡ payment_of head p moment))

  paid_so : (e : Entry) (d : Decision) → IsPayment e → RecordedFor d e → IsPaidSo e
  paid_so e d pays (inl (is, (p, settles, d_is, same))) = part (settled_as p)
    where
      part : SettledAs p (settlement_entry (settled H head p moment)) → IsPaidSo e
      part (inl (it, paid)) =
          (is, (p, record { settles = settles; pays = it.pays; knows = it.knows; credited = it.credited; priced = it.priced; in_time = it.in_time; covered = it.covered }, sym same ∙ paid))
      part (inr (why, true_so, is, refused)) = absurd (subst IsPayment (sym same ∙ refused) pays)
  paid_so e d pays (inr (inl (is, (asked, spelled, right, same, legal, room)))) = absurd (subst IsPayment same pays)
  paid_so e d pays (inr (inr (is, (asked, spelled, right, same, legal, room)))) = absurd (subst IsPayment same pays)

  payable_pays : (p : Presented) → IsPayable H cap body moment p → settlement_entry (settled H head p moment) ≡ payment_of head p moment
  payable_pays p is =
      let all : Pays H p moment = record { pays = is.pays; knows = is.knows; credited = is.credited; priced = is.priced; in_time = is.in_time; covered = is.covered } in
      ap (λ (t : Result (Unit {0}) RefusalReason). entry_with (settled H head p moment) (outcome_of head p t)) (pays_so p all) ∙ paid_entry p (charge head p.order.price)

  is_payment : (p : Presented) (fee : Option ℕ) → IsPayment (payment_with fee p moment)
  is_payment p None = tt
  is_payment p (Some fee) = tt

  is_paid : (e : Entry) → IsPaidSo e → ((verdict H head cap kind body moment).entry ≡ Some e) × IsPayment e
  is_paid e (is, (p, payable, same)) =
      let paid : settlement_entry (settled H head p moment) ≡ e = payable_pays p payable ∙ sym same in
      (ap (λ (d : Decision). d.entry) (settles_now is p payable.settles) ∙ ap (λ (x : Entry). let o : Option Entry = Some x in o) paid, subst IsPayment (sym same) (is_payment p (charge head p.order.price)))

  settles_so : (e : Entry) (d : Decision) → IsPayment e ⊎ IsRefusedOrder e → RecordedFor d e → (kind ≡ ORDER_REQUEST) × ((p : Presented) × MaySettle H cap body p)
  settles_so e d either (inl (is, (p, settles, d_is, same))) = (is, (p, settles))
  settles_so e d (inl pays) (inr (inl (is, (asked, spelled, right, same, legal, room)))) = absurd (subst IsPayment same pays)
  settles_so e d (inr refuses) (inr (inl (is, (asked, spelled, right, same, legal, room)))) = absurd (subst IsRefusedOrder same refuses)
  settles_so e d (inl pays) (inr (inr (is, (asked, spelled, right, same, legal, room)))) = absurd (subst IsPayment same pays)
  settles_so e d (inr refuses) (inr (inr (is, (asked, spelled, right, same, legal, room)))) = absurd (subst IsRefusedOrder same refuses)

  is_settled : (p : Presented) → SettledAs p (settlement_entry (settled H head p moment)) → IsPayment (settlement_entry (settled H head p moment)) ⊎ IsRefusedOrder (settlement_entry (settled H head p moment))
  is_settled p (inl (it, paid)) = inl (subst IsPayment (sym paid) (is_payment p (charge head p.order.price)))
  is_settled p (inr (why, true_so, is, refused)) = inr (subst IsRefusedOrder (sym refused) tt)

pub paid_exactly_where : PaidExactlyWhere
paid_exactly_where H head cap kind body moment e =
    (λ both. let r = recorded H head cap kind body moment e both.0 in paid_so H head cap kind body moment e r.0 both.1 r.2, is_paid H head cap kind body moment e)

tells_payment : (p : Presented) (s : Settlement) (cacct macct : AcctId) (fee : Option ℕ) → s.outcome ≡ outcome.Paid cacct macct p.endorsement.key fee
    → TellsPayment p (Receipts (receipt_in_role MERCHANT s) (receipt_in_role CONSUMER s))
unfolding receipt_in_role
tells_payment p s cacct macct fee is = rw is (refl, refl, refl, refl)

pub payable_is_told : PayableIsTold
payable_is_told H head cap body moment p is =
    let all : Pays H p moment = record { pays = is.pays; knows = is.knows; credited = is.credited; priced = is.priced; in_time = is.in_time; covered = is.covered } in
    let paid = ap (outcome_of head p) (pays_so H head cap ORDER_REQUEST body moment p all) in
    subst (TellsPayment p) (sym (ap (λ (d : Decision). d.reply) (settles_now H head cap ORDER_REQUEST body moment refl p is.settles)))
    (tells_payment p (settled H head p moment) p.consumer.acct p.merchant.acct (charge head p.order.price) paid)

pub settled_exactly_where : SettledExactlyWhere
settled_exactly_where H head cap kind body moment = (
  λ all. let r = recorded H head cap kind body moment all.0 all.1 in settles_so H head cap kind body moment all.0 r.0 all.2 r.2,
  λ is. (settlement_entry (settled H head is.1.0 moment), ap (λ (d : Decision). d.entry) (settles_now H head cap kind body moment is.0 is.1.0 is.1.1), is_settled H head cap kind body moment is.1.0 (settled_as H head cap kind body moment is.1.0)),
)

pub refusals_are_true : RefusalsAreTrue
refusals_are_true H legal head cap kind body moment why = part (steps H head cap kind body moment) (comes H head cap kind body moment)
  where
    replies : (d d' : Decision) → d ≡ d' → d.reply ≡ Told why → d'.reply ≡ Told why
    replies d d' same is = sym (ap (λ (x : Decision). x.reply) same) ∙ is

    not_told : (d : Decision) → Comes H head cap kind body moment (Ok d) → d.reply ≡ Told why → ⊥
    not_told d (inl (is, (p, authentic, inl (kept, held, same, d_is)))) told_so = receipts_tell_not _ _ why (replies d _ d_is told_so)
    not_told d (inl (is, (p, authentic, inr (new, room, d_is)))) told_so = receipts_tell_not _ _ why (replies d _ d_is told_so)
    not_told d (inr (inl (is, (asked, authentic, least, d_is)))) told_so = status_tells_not _ _ _ why (replies d _ d_is told_so)
    not_told d (inr (inr (inl (is, (asked, buyer, seller, may, d_is))))) told_so = grant_tells_not _ _ _ _ _ why (replies d _ d_is told_so)
    not_told d (inr (inr (inr (inl (is, (asked, spelled, right, inl (at, place, d_is))))))) told_so = done_tells_not _ _ _ why (replies d _ d_is told_so)
    not_told d (inr (inr (inr (inl (is, (asked, spelled, right, inr (next, room, d_is))))))) told_so = done_tells_not _ _ _ why (replies d _ d_is told_so)
    not_told d (inr (inr (inr (inr (is, (asked, spelled, right, inl (at, place, d_is))))))) told_so = done_tells_not _ _ _ why (replies d _ d_is told_so)
    not_told d (inr (inr (inr (inr (is, (asked, spelled, right, inr (next, room, d_is))))))) told_so = done_tells_not _ _ _ why (replies d _ d_is told_so)

    part : (r : Answer) → Comes H head cap kind body moment r → (told r).reply ≡ Told why → IsTrueRefusal H head cap kind body why
    part (Ok d) it is = absurd (not_told d it is)
    part (Err w) it is = subst (IsTrueRefusal H head cap kind body) (same_told w why is) (it legal)

-- ---- what a refused order is told

pub tells_reason : (s : Settlement) (why : RefusalReason) → s.outcome ≡ outcome.Refused why → TellsReason why (Receipts (receipt_in_role MERCHANT s) (receipt_in_role CONSUMER s))
unfolding receipt_in_role may_see
tells_reason s why is = rw is (
  refl,
  refl,
  merchant (why.code == CONSUMER_ACCOUNT || why.code == CONSUMER_NONCE || why.code == BALANCE_LOW) (why.code == MERCHANT_ACCOUNT),
  consumer (why.code == CONSUMER_ACCOUNT || why.code == CONSUMER_NONCE || why.code == BALANCE_LOW) (why.code == MERCHANT_ACCOUNT) (apart why.code),
)
  where
    Numbers : Type 0
    Numbers = Option (ℕ × ℕ)

    merchant : (own his : Bool) → (let o : Numbers = if (if own then false else if his then true else true) then Some (why.a, why.b) else None in o) ≡ (if own then None else Some (why.a, why.b))
    merchant true his = refl
    merchant false true = refl
    merchant false false = refl

    apart : (code : ℕ) → (code == CONSUMER_ACCOUNT || code == CONSUMER_NONCE || code == BALANCE_LOW) ≡ true → (code == MERCHANT_ACCOUNT) ≡ true → ⊥
    apart code own his = grind (arith, eqb-true)

    consumer : (own his : Bool) → (own ≡ true → his ≡ true → ⊥) → (let o : Numbers = if (if own then true else if his then false else true) then Some (why.a, why.b) else None in o) ≡ (if his then None else Some (why.a, why.b))
    consumer true true none = absurd (none refl refl)
    consumer true false none = refl
    consumer false true none = refl
    consumer false false none = refl

pub refused_for_true_reason : RefusedForTrueReason
refused_for_true_reason H head cap kind body moment e is refused = part (recorded H head cap kind body moment e is)
  where
    not_refused : (p : Presented) (fee : Option ℕ) → IsRefusedOrder (payment_with fee p moment) → ⊥
    not_refused p None is = is
    not_refused p (Some fee) is = is

    of_order_so : (p : Presented) → MaySettle H cap body p → verdict H head cap kind body moment ≡ result head p (settled H head p moment) (Some (settlement_entry (settled H head p moment))) → settlement_entry (settled H head p moment) ≡ e
        → SettledAs H head cap kind body moment p (settlement_entry (settled H head p moment))
        → (p : Presented) × (why : RefusalReason) × MaySettle H cap body p × IsTrueReason H p moment why × (e ≡ refusal_of p moment why) × TellsReason why (verdict H head cap kind body moment).reply
    of_order_so p settles v_is same (inl (pays, paid)) = absurd (not_refused p (charge head p.order.price) (subst IsRefusedOrder (sym same ∙ paid) refused))
    of_order_so p settles v_is same (inr (why, true_so, steps_is, entry_so)) = (
      p,
      why,
      settles,
      true_so,
      sym same ∙ entry_so,
      subst (TellsReason why) (sym (ap (λ (d : Decision). d.reply) v_is)) (tells_reason (settled H head p moment) why (ap (outcome_of head p) steps_is)),
    )

    part : (r : (d : Decision) × (verdict H head cap kind body moment ≡ d) × RecordedFor H head cap kind body moment d e)
        → (p : Presented) × (why : RefusalReason) × MaySettle H cap body p × IsTrueReason H p moment why × (e ≡ refusal_of p moment why) × TellsReason why (verdict H head cap kind body moment).reply
    part (d, v_is, inl (kind_is, (p, settles, d_is, same))) = of_order_so p settles (v_is ∙ d_is) same (settled_as H head cap kind body moment p)
    part (d, v_is, inr (inl (kind_is, (asked, spelled, right, same, legal, room)))) = absurd (subst IsRefusedOrder same refused)
    part (d, v_is, inr (inr (kind_is, (asked, spelled, right, same, legal, room)))) = absurd (subst IsRefusedOrder same refused)

-- ---- an order that was settled before

settlement_at_some : (at : ℕ) (e : Entry) (digest : List ℕ) → digest_held e ≡ Some digest → (s : Settlement) × (settlement_at at e ≡ Some s) × (s.digest ≡ digest)
settlement_at_some at (Enrol id role acct nonce key) digest is = absurd (none-some digest is)
settlement_at_some at (Fund acct amount reference) digest is = absurd (none-some digest is)
settlement_at_some at (Paid held epoid consumer merchant product price cacct macct moment key) digest is = (_, refl, same_Some held digest is)
settlement_at_some at (Charged held epoid consumer merchant product price fee cacct macct moment key) digest is = (_, refl, same_Some held digest is)
settlement_at_some at (Refused held epoid consumer merchant product price code a b moment) digest is = (_, refl, same_Some held digest is)

settlement_kept : (H : List Entry) (p : Epoid) (kept : Kept) (digest : List ℕ) → order_in H p ≡ Some kept → digest_held kept.entry ≡ Some digest
    → (s : Settlement) × (settlement_in H p ≡ Some s) × (s.digest ≡ digest)
unfolding settlement_in
settlement_kept H p kept digest found is =
    let s = settlement_at_some kept.at kept.entry digest is in
    (s.0, rw found s.1, s.2)

pub told_exactly_where : ToldExactlyWhere
told_exactly_where H head cap kind body moment = (λ both. forth (steps H head cap kind body moment) (comes H head cap kind body moment) both.0 both.1, back)
  where
    replies : (d d' : Decision) → d ≡ d' → AreReceipts d.reply → AreReceipts d'.reply
    replies d d' same is = subst (λ (x : Decision). AreReceipts x.reply) same is

    told_so : (d : Decision) → Comes H head cap kind body moment (Ok d) → AreReceipts d.reply → d.entry ≡ None
        → (kind ≡ ORDER_REQUEST) × ((p : Presented) × (kept : Kept) × IsAuthenticOrder H body p × (order_in H p.order.epoid ≡ Some kept) × (digest_held kept.entry ≡ Some p.digest))
    told_so d (inl (is, (p, authentic, inl (s, held, same, d_is)))) told_it none =
        let kept = kept_for H p.order.epoid s held in
        (is, (p, kept.0, authentic, kept.1, kept.2 ∙ ap (λ (x : List ℕ). let o : Option (List ℕ) = Some x in o) same))
    told_so d (inl (is, (p, authentic, inr (new, room, d_is)))) told_it none = absurd (none-some _ (sym none ∙ ap (λ (x : Decision). x.entry) d_is))
    told_so d (inr (inl (is, (asked, authentic, least, d_is)))) told_it none = absurd (replies d _ d_is told_it)
    told_so d (inr (inr (inl (is, (asked, buyer, seller, may, d_is))))) told_it none = absurd (replies d _ d_is told_it)
    told_so d (inr (inr (inr (inl (is, (asked, spelled, right, inl (at, place, d_is))))))) told_it none = absurd (replies d _ d_is told_it)
    told_so d (inr (inr (inr (inl (is, (asked, spelled, right, inr (next, room, d_is))))))) told_it none = absurd (replies d _ d_is told_it)
    told_so d (inr (inr (inr (inr (is, (asked, spelled, right, inl (at, place, d_is))))))) told_it none = absurd (replies d _ d_is told_it)
    told_so d (inr (inr (inr (inr (is, (asked, spelled, right, inr (next, room, d_is))))))) told_it none = absurd (replies d _ d_is told_it)

    forth : (r : Answer) → Comes H head cap kind body moment r → AreReceipts (told r).reply → (told r).entry ≡ None
        → (kind ≡ ORDER_REQUEST) × ((p : Presented) × (kept : Kept) × IsAuthenticOrder H body p × (order_in H p.order.epoid ≡ Some kept) × (digest_held kept.entry ≡ Some p.digest))
    forth (Ok d) it told_it none = told_so d it told_it none
    forth (Err why) it told_it none = absurd told_it

    back : (kind ≡ ORDER_REQUEST) × ((p : Presented) × (kept : Kept) × IsAuthenticOrder H body p × (order_in H p.order.epoid ≡ Some kept) × (digest_held kept.entry ≡ Some p.digest))
        → AreReceipts (verdict H head cap kind body moment).reply × ((verdict H head cap kind body moment).entry ≡ None)
    back (is, (p, kept, authentic, found, held)) =
        let s = settlement_kept H p.order.epoid kept p.digest found held in
        let same : verdict H head cap kind body moment ≡ result head p s.0 None =
        ap told (of_order H head cap kind body moment is ∙ presented H head cap kind body moment p authentic ∙ ap (again_or_settle H head cap p moment) s.1
        ∙ step (same_digest s.0.digest p.digest) _ tt (same_digests s.0.digest p.digest s.2)) in
        (subst (λ (d : Decision). AreReceipts d.reply) (sym same) tt, ap (λ (d : Decision). d.entry) same)

-- ---- a status

pub answered_exactly_where : AnsweredExactlyWhere
answered_exactly_where H head cap kind body moment = (forth (steps H head cap kind body moment) (comes H head cap kind body moment), back)
  where
    replies : (d d' : Decision) → d ≡ d' → IsStatusReply d.reply → IsStatusReply d'.reply
    replies d d' same is = subst (λ (x : Decision). IsStatusReply x.reply) same is

    answered : (d : Decision) → Comes H head cap kind body moment (Ok d) → IsStatusReply d.reply → (kind ≡ STATUS_REQUEST) × ((asked : StatusQuery) × IsAuthentic H body asked × (asked.least ≤ length H))
    answered d (inl (is, (p, authentic, inl (s, held, same, d_is)))) it = absurd (replies d _ d_is it)
    answered d (inl (is, (p, authentic, inr (new, room, d_is)))) it = absurd (replies d _ d_is it)
    answered d (inr (inl (is, (asked, authentic, least, d_is)))) it = (is, (asked, authentic, least))
    answered d (inr (inr (inl (is, (asked, buyer, seller, may, d_is))))) it = absurd (replies d _ d_is it)
    answered d (inr (inr (inr (inl (is, (asked, spelled, right, inl (at, place, d_is))))))) it = absurd (replies d _ d_is it)
    answered d (inr (inr (inr (inl (is, (asked, spelled, right, inr (next, room, d_is))))))) it = absurd (replies d _ d_is it)
    answered d (inr (inr (inr (inr (is, (asked, spelled, right, inl (at, place, d_is))))))) it = absurd (replies d _ d_is it)
    answered d (inr (inr (inr (inr (is, (asked, spelled, right, inr (next, room, d_is))))))) it = absurd (replies d _ d_is it)

    forth : (r : Answer) → Comes H head cap kind body moment r → IsStatusReply (told r).reply → (kind ≡ STATUS_REQUEST) × ((asked : StatusQuery) × IsAuthentic H body asked × (asked.least ≤ length H))
    forth (Ok d) it is = answered d it is
    forth (Err why) it is = absurd is

    back : (kind ≡ STATUS_REQUEST) × ((asked : StatusQuery) × IsAuthentic H body asked × (asked.least ≤ length H)) → IsStatusReply (verdict H head cap kind body moment).reply
    back (is, (asked, authentic, least)) =
        let same : verdict H head cap kind body moment ≡ status_told H head authentic.asker asked =
        ap told (ap (λ (k : ℕ). steps H head cap k body moment) is ∙ passes H head body asked authentic least) in
        subst (λ (d : Decision). IsStatusReply d.reply) (sym same) tt

-- ---- an enrolment

not_zero : (n : ℕ) → n ≢ 0 → not (n == 0) ≡ true
not_zero n some = part (n == 0) refl
  where
    part : (b : Bool) → (n == 0) ≡ b → not b ≡ true
    part true is = absurd (some (eqb-true n 0 is))
    part false is = refl

numbers_so : (H : List Entry) (id : PartyId) (acct : AcctId) → id.0 ≢ 0 → acct.0 ≢ 0 → IsNone (party_in H id) → IsNone (holder_in H acct) → numbers_free H id acct ≡ Ok tt
unfolding numbers_free
numbers_so H id acct some_id some_acct no_party no_account =
    rw (none_is (party_in H id) no_party, none_is (holder_in H acct) no_account) (rw (not_zero id.0 some_id, not_zero acct.0 some_acct) refl)

module _ (H : List Entry) (legal : Legal H) (head : Head) (cap kind : ℕ) (body : List ℕ) (moment : ℕ) where
  enrolled_so : (e : Entry) (d : Decision) → IsEnrolment e → RecordedFor H head cap kind body moment d e → (kind ≡ ENROL_REQUEST) × Enrols H head cap kind body moment e
  enrolled_so e d enrols (inl (is, (p, settles, d_is, same))) = absurd (neither (is_settled H head cap kind body moment p (settled_as H head cap kind body moment p)) (subst IsEnrolment (sym same) enrols))
    where
      neither_so : (x : Entry) → IsPayment x ⊎ IsRefusedOrder x → IsEnrolment x → ⊥
      neither_so (Enrol id role acct nonce key) (inl no_pay) is = absurd no_pay
      neither_so (Enrol id role acct nonce key) (inr no_pay) is = absurd no_pay
      neither_so x any is = absurd is

      neither : IsPayment (settlement_entry (settled H head p moment)) ⊎ IsRefusedOrder (settlement_entry (settled H head p moment)) → IsEnrolment (settlement_entry (settled H head p moment)) → ⊥
      neither = neither_so (settlement_entry (settled H head p moment))
  enrolled_so e d enrols (inr (inl both)) = both
  enrolled_so e d enrols (inr (inr (is, (asked, spelled, right, same, next, room)))) = absurd (subst IsEnrolment same enrols)

  enrol_steps_so : (asked : Enrolment) → enrolment_of body ≡ Ok asked → asked.tag ≡ hmac_of head.operator (codes "enro" ++ signed_part body) → LegalAfter H (enrol_entry asked) → length H < cap
      → enrol_steps H head cap body ≡ Ok (done asked.acct (length H) (balance (H ++ enrol_entry asked ∷ []) asked.acct) (Some (enrol_entry asked)))
  unfolding enrol_steps
  enrol_steps_so asked spelled right next room =
      let unheld : place_in H (enrol_entry asked) ≡ None = sym (enrol_place H legal asked) ∙ ap (λ (o : Option Party). option_and_then (party_place asked) o) (none_is (party_in H asked.id) next.3) in
      step (well_formed IN_BODY (enrolment_of body)) _ asked (ap (well_formed IN_BODY) spelled)
      ∙ step (right_tag asked.tag (hmac_of head.operator (codes "enro" ++ signed_part body))) _ tt (tag_so asked.tag _ right)
      ∙ ap (again_or_enrol H cap asked) unheld
      ∙ step (numbers_free H asked.id asked.acct) _ tt (numbers_so H asked.id asked.acct next.0 next.1 next.3 next.4)
      ∙ step (room_left H cap) _ tt (room_for H cap room)

  enrols_so : (e : Entry) → (kind ≡ ENROL_REQUEST) × Enrols H head cap kind body moment e → ((verdict H head cap kind body moment).entry ≡ Some e) × IsEnrolment e
  enrols_so e (is, (asked, spelled, right, same, next, room)) =
      let recorded_it = ap told (ap (λ (k : ℕ). steps H head cap k body moment) is ∙ enrol_steps_so asked spelled right (subst (LegalAfter H) same next) room) in
      (ap (λ (d : Decision). d.entry) recorded_it ∙ ap (λ (x : Entry). let o : Option Entry = Some x in o) (sym same), subst IsEnrolment (sym same) tt)

  -- ---- a fund

  funded_so : (e : Entry) (d : Decision) → IsFund e → RecordedFor H head cap kind body moment d e → (kind ≡ FUND_REQUEST) × Funds H head cap kind body moment e
  funded_so e d funds (inl (is, (p, settles, d_is, same))) = absurd (neither (is_settled H head cap kind body moment p (settled_as H head cap kind body moment p)) (subst IsFund (sym same) funds))
    where
      neither_so : (x : Entry) → IsPayment x ⊎ IsRefusedOrder x → IsFund x → ⊥
      neither_so (Fund acct amount reference) (inl no_pay) is = absurd no_pay
      neither_so (Fund acct amount reference) (inr no_pay) is = absurd no_pay
      neither_so x any is = absurd is

      neither : IsPayment (settlement_entry (settled H head p moment)) ⊎ IsRefusedOrder (settlement_entry (settled H head p moment)) → IsFund (settlement_entry (settled H head p moment)) → ⊥
      neither = neither_so (settlement_entry (settled H head p moment))
  funded_so e d funds (inr (inl (is, (asked, spelled, right, same, next, room)))) = absurd (subst IsFund same funds)
  funded_so e d funds (inr (inr both)) = both

  new_reference : (reference : List ℕ) → IsNone (funded_in H reference) → reference_new H reference ≡ Ok tt
  unfolding reference_new
  new_reference reference none = rw (none_is (funded_in H reference) none) refl

  held_account : (acct : AcctId) → IsSome (holder_in H acct) → account_held H acct ≡ Ok tt
  unfolding account_held
  held_account acct some = holds_so _ _ some

  within_total : (amount : ℕ) → total H + amount ≤ MAX_TOTAL → total_within H amount ≡ Ok tt
  unfolding total_within
  within_total amount within = holds_so _ _ (le-leb (total H + amount) MAX_TOTAL within)

  fund_steps_so : (asked : Funding) → funding_of body ≡ Ok asked → asked.tag ≡ hmac_of head.operator (codes "fund" ++ signed_part body) → LegalAfter H (fund_entry asked) → length H < cap
      → fund_steps H head cap body ≡ Ok (done asked.acct (length H) (balance (H ++ fund_entry asked ∷ []) asked.acct) (Some (fund_entry asked)))
  unfolding fund_steps
  fund_steps_so asked spelled right next room =
      let unheld : place_in H (fund_entry asked) ≡ None = sym (fund_place H legal asked) ∙ ap (λ (o : Option Funded). option_and_then (funded_place asked) o) (none_is (funded_in H asked.reference) next.3) in
      step (well_formed IN_BODY (funding_of body)) _ asked (ap (well_formed IN_BODY) spelled)
      ∙ step (right_tag asked.tag (hmac_of head.operator (codes "fund" ++ signed_part body))) _ tt (tag_so asked.tag _ right)
      ∙ ap (again_or_fund H cap asked) unheld
      ∙ step (reference_new H asked.reference) _ tt (new_reference asked.reference next.3)
      ∙ step (account_held H asked.acct) _ tt (held_account asked.acct next.0)
      ∙ step (total_within H asked.amount) _ tt (within_total asked.amount next.4)
      ∙ step (room_left H cap) _ tt (room_for H cap room)

  funds_so : (e : Entry) → (kind ≡ FUND_REQUEST) × Funds H head cap kind body moment e → ((verdict H head cap kind body moment).entry ≡ Some e) × IsFund e
  funds_so e (is, (asked, spelled, right, same, next, room)) =
      let recorded_it = ap told (ap (λ (k : ℕ). steps H head cap k body moment) is ∙ fund_steps_so asked spelled right (subst (LegalAfter H) same next) room) in
      (ap (λ (d : Decision). d.entry) recorded_it ∙ ap (λ (x : Entry). let o : Option Entry = Some x in o) (sym same), subst IsFund (sym same) tt)

pub enrolled_exactly_where : EnrolledExactlyWhere
enrolled_exactly_where H legal head cap kind body moment e =
    (λ both. let r = recorded H head cap kind body moment e both.0 in enrolled_so H legal head cap kind body moment e r.0 both.1 r.2, enrols_so H legal head cap kind body moment e)

pub funded_exactly_where : FundedExactlyWhere
funded_exactly_where H legal head cap kind body moment e =
    (λ both. let r = recorded H head cap kind body moment e both.0 in funded_so H legal head cap kind body moment e r.0 both.1 r.2, funds_so H legal head cap kind body moment e)

-- The keys of each reply, and what it tells.
use Rattle.std.proofs.Common.{◌≡◌, ◌≢◌, ◌↔◌, inl, inr, ℕ, ◌+◌, ◌++◌, ◌∷◌, [], Bool, true, false, List, length, Option, None, Some, IsNone, Ok, Err, arith, refl, sym, ap, subst, ◌∙◌, eq-eqb}
use Rattle.std.proofs.lemmas.Bool.{eqb-true, and_parts}
use Rattle.std.proofs.lemmas.Option.{same_Some, none-some}
use Rattle.std.proofs.lemmas.List.{append-nil}
use Rattle.std.proofs.lemmas.Slice.Eq.{bytes_eq-Decides}
use Rattle.std.specs.Option.{option_or, option_and_then}
use Rattle.std.specs.Prelude.{◌==◌, if◌then◌else◌}
use Rattle.nb_units.specs.declared.frames.TheConstants.{ORDER_REQUEST, STATUS_REQUEST, TICKET_REQUEST, ENROL_REQUEST, FUND_REQUEST}
use Rattle.nb_units.specs.declared.epoid.Epoid.{Epoid}
use Rattle.nb_units.specs.declared.ids.AcctId.{AcctId}
use Rattle.nb_units.specs.declared.ids.PartyId.{PartyId}
use Rattle.nb_book.specs.Money.{balance}
use Rattle.nb_entry.specs.declared.entry.Entry.{Entry}
use Rattle.nb_entry.specs.declared.entry.Entry.TheVariants.{Enrol, Fund, Paid, Charged, Refused}
use Rattle.nb_entry.specs.declared.entry.TheConstants.{CONSUMER, MERCHANT}
use Rattle.nb_book.specs.declared.kept.Kept.{Kept}
use Rattle.nb_book.specs.Searches.{first_from, order_at, order_in}
use Rattle.nb_endorse.specs.declared.receipt.Receipt.{Receipt}
use Rattle.nb_escrow.specs.declared.decision.Decision.{Decision}
use Rattle.nb_body.specs.declared.enrolment.Enrolment.{Enrolment}
use Rattle.nb_body.specs.declared.funding.Funding.{Funding}
use Rattle.nb_escrow.specs.declared.head.Head.{Head}
use Rattle.nb_escrow.specs.declared.order.Presented.{Presented}
use Rattle.nb_escrow.specs.declared.settlement.PaymentOutcome.TheVariants as outcome
use Rattle.nb_escrow.specs.declared.settlement.RefusalReason.{RefusalReason}
use Rattle.nb_escrow.specs.declared.settlement.Settlement.{Settlement}
use Rattle.nb_escrow.specs.Held.{same_entry, place_at, place_in, done}
use Rattle.nb_escrow.specs.Enrolments.{enrol_entry}
use Rattle.nb_escrow.specs.Fundings.{fund_entry}
use Rattle.nb_escrow.specs.Orders.{settled, result}
use Rattle.nb_escrow.specs.Payable.{IsAuthenticOrder, shown_to_consumer, shown_to_merchant}
use Rattle.nb_escrow.specs.Replies.{HasKeysOfParties, KeysAreTheParties, receipt_at, NamesOrder, TellsOrder, ReceiptsNameTheOrder, OperatorAsks, TellsEntry, DoneTellsTheEntry, IsReceiptFor, TellsStatus, StatusTellsTheOrder, OtherKindsAreRefused}
use Rattle.nb_escrow.specs.Settlements.{settlement, settlement_at, settlement_of, settlement_in, settlement_entry, receipt_saying, receipt_in_role, receipt_of_party}
use Rattle.nb_escrow.specs.Verdict.{steps, told}
use Rattle.nb_escrow.proofs.Exactly.{none_is, tells_reason}
use Rattle.nb_escrow.proofs.Judging.{Answer, Comes, comes, digest_at}
use Rattle.nb_escrow.proofs.Telling.{found_next, settles_entry, settlement_back}

-- ---- keys

pub keys_are_the_parties : KeysAreTheParties
keys_are_the_parties H head cap kind body moment = part (steps H head cap kind body moment) (comes H head cap kind body moment)
  where
    Fits : Decision → Type 0
    Fits d = HasKeysOfParties H head body d.reply d.keys

    fits : (d : Decision) → Comes H head cap kind body moment (Ok d) → Fits d
    fits d (inl (is, (p, authentic, inl (kept, held, same, d_is)))) = subst Fits (sym d_is) (p, authentic, refl)
    fits d (inl (is, (p, authentic, inr (new, room, d_is)))) = subst Fits (sym d_is) (p, authentic, refl)
    fits d (inr (inl (is, (asked, authentic, least, d_is)))) = subst Fits (sym d_is) (asked, authentic, refl)
    fits d (inr (inr (inl (is, (asked, buyer, seller, may, d_is))))) = subst Fits (sym d_is) (asked, buyer, seller, may, refl)
    fits d (inr (inr (inr (inl (is, (asked, spelled, right, inl (at, place, d_is))))))) = subst Fits (sym d_is) refl
    fits d (inr (inr (inr (inl (is, (asked, spelled, right, inr (next, room, d_is))))))) = subst Fits (sym d_is) refl
    fits d (inr (inr (inr (inr (is, (asked, spelled, right, inl (at, place, d_is))))))) = subst Fits (sym d_is) refl
    fits d (inr (inr (inr (inr (is, (asked, spelled, right, inr (next, room, d_is))))))) = subst Fits (sym d_is) refl

    part : (r : Answer) → Comes H head cap kind body moment r → Fits (told r)
    part (Ok d) it = fits d it
    part (Err why) it = refl

-- ---- the receipts of an order

abbrev some_receipt : Receipt → Option Receipt
some_receipt r = Some r

-- the receipts of an entry are those of the settlement that it is read as
receipts_so : (at : ℕ) (e : Entry) (s : Settlement) → settlement_at at e ≡ Some s
    → (receipt_at shown_to_merchant at e ≡ Some (receipt_in_role MERCHANT s)) × (receipt_at shown_to_consumer at e ≡ Some (receipt_in_role CONSUMER s))
unfolding receipt_in_role
receipts_so at (Enrol id role acct nonce key) s is = absurd (none-some s is)
receipts_so at (Fund acct amount reference) s is = absurd (none-some s is)
receipts_so at (Paid digest epoid consumer merchant product price cacct macct moment key) s is =
    let mine = settlement at digest epoid consumer merchant product price moment (outcome.Paid cacct macct key None) in
    (ap (λ (x : Settlement). some_receipt (receipt_in_role MERCHANT x)) (same_Some mine s is), ap (λ (x : Settlement). some_receipt (receipt_in_role CONSUMER x)) (same_Some mine s is))
receipts_so at (Charged digest epoid consumer merchant product price fee cacct macct moment key) s is =
    let mine = settlement at digest epoid consumer merchant product price moment (outcome.Paid cacct macct key (Some fee)) in
    (ap (λ (x : Settlement). some_receipt (receipt_in_role MERCHANT x)) (same_Some mine s is), ap (λ (x : Settlement). some_receipt (receipt_in_role CONSUMER x)) (same_Some mine s is))
receipts_so at (Refused digest epoid consumer merchant product price code a b moment) s is =
    let why : RefusalReason = record { code = code; a = a; b = b } in
    let mine = settlement at digest epoid consumer merchant product price moment (outcome.Refused why) in
    let tells = tells_reason mine why refl in (
      ap (λ (o : Option (ℕ × ℕ)). some_receipt (receipt_saying mine code None o)) (sym tells.2) ∙ ap (λ (x : Settlement). some_receipt (receipt_in_role MERCHANT x)) (same_Some mine s is),
      ap (λ (o : Option (ℕ × ℕ)). some_receipt (receipt_saying mine code None o)) (sym tells.3) ∙ ap (λ (x : Settlement). some_receipt (receipt_in_role CONSUMER x)) (same_Some mine s is),
    )

-- a settlement that was found stands in an entry
kept_so : (H : List Entry) (p : Epoid) (s : Settlement) → settlement_in H p ≡ Some s → (kept : Kept) × (order_in H p ≡ Some kept) × (settlement_at kept.at kept.entry ≡ Some s)
unfolding settlement_in
kept_so H p s is = part (order_in H p) refl is
  where
    part : (o : Option Kept) → order_in H p ≡ o → option_and_then settlement_of o ≡ Some s → (kept : Kept) × (order_in H p ≡ Some kept) × (settlement_at kept.at kept.entry ≡ Some s)
    part None found is = absurd (none-some s is)
    part (Some kept) found is = (kept, found, is)

-- an entry that settles an order is found behind entries of which none does
order_next : (H : List Entry) (s : Settlement) → s.at ≡ length H → IsNone (order_in H s.epoid)
    → order_in (H ++ settlement_entry s ∷ []) s.epoid ≡ Some (record { at = s.at; entry = settlement_entry s })
order_next H s at none =
    let kept : Kept = record { at = s.at; entry = settlement_entry s } in
    let next : (n : ℕ) → n ≡ 0 + length H → order_at s.epoid n (settlement_entry s) ≡ Some kept =
    λ n is. rw (settles_entry s s.outcome) (ap (λ (k : ℕ). let o : Option Kept = Some (record { at = k; entry = settlement_entry s }) in o) (omega (arith, is, at))) in
    found_next (order_at s.epoid) (settlement_entry s) [] kept 0 H (none_is (order_in H s.epoid) none) next

-- a receipt of a settlement names its order
named : (role : ℕ) (H : List Entry) (head : Head) (p : Presented) (moment : ℕ) → NamesOrder p.order (length H) moment (receipt_in_role role (settled H head p moment))
unfolding receipt_in_role
named role H head p moment = (refl, refl, refl, refl, refl, refl, refl)

pub receipts_name_the_order : ReceiptsNameTheOrder
receipts_name_the_order H head cap kind body moment = part (steps H head cap kind body moment) (comes H head cap kind body moment)
  where
    Tells : Decision → Type 0
    Tells d = TellsOrder H body moment d.entry d.reply

    before : (p : Presented) (s : Settlement) → IsAuthenticOrder H body p → settlement_in H p.order.epoid ≡ Some s → s.digest ≡ p.digest → Tells (result head p s None)
    before p s authentic held same =
        let kept = kept_so H p.order.epoid s held in
        let receipts = receipts_so kept.0.at kept.0.entry s kept.2 in
        let found : order_in (H ++ []) p.order.epoid ≡ Some kept.0 = ap (λ (xs : List Entry). order_in xs p.order.epoid) (append-nil H) ∙ kept.1 in
        (p, kept.0, authentic, found, digest_at kept.0.at kept.0.entry s kept.2 ∙ ap (λ (x : List ℕ). let o : Option (List ℕ) = Some x in o) same, receipts.0, receipts.1, λ some. absurd cc)

    now : (p : Presented) → IsAuthenticOrder H body p → IsNone (order_in H p.order.epoid) → Tells (result head p (settled H head p moment) (Some (settlement_entry (settled H head p moment))))
    now p authentic new =
        let s = settled H head p moment in
        let kept : Kept = record { at = length H; entry = settlement_entry s } in
        let back : settlement_at (length H) (settlement_entry s) ≡ Some s = settlement_back s s.outcome in
        let receipts = receipts_so (length H) (settlement_entry s) s back in
        (p, kept, authentic, order_next H s refl new, digest_at (length H) (settlement_entry s) s back, receipts.0, receipts.1, λ some. (named MERCHANT H head p moment, named CONSUMER H head p moment))

    tells : (d : Decision) → Comes H head cap kind body moment (Ok d) → Tells d
    tells d (inl (is, (p, authentic, inl (s, held, same, d_is)))) = subst Tells (sym d_is) (before p s authentic held same)
    tells d (inl (is, (p, authentic, inr (new, room, d_is)))) = subst Tells (sym d_is) (now p authentic new)
    tells d (inr (inl (is, (asked, authentic, least, d_is)))) = subst Tells (sym d_is) tt
    tells d (inr (inr (inl (is, (asked, buyer, seller, may, d_is))))) = subst Tells (sym d_is) tt
    tells d (inr (inr (inr (inl (is, (asked, spelled, right, inl (at, place, d_is))))))) = subst Tells (sym d_is) tt
    tells d (inr (inr (inr (inl (is, (asked, spelled, right, inr (next, room, d_is))))))) = subst Tells (sym d_is) tt
    tells d (inr (inr (inr (inr (is, (asked, spelled, right, inl (at, place, d_is))))))) = subst Tells (sym d_is) tt
    tells d (inr (inr (inr (inr (is, (asked, spelled, right, inr (next, room, d_is))))))) = subst Tells (sym d_is) tt

    part : (r : Answer) → Comes H head cap kind body moment r → Tells (told r)
    part (Ok d) it = tells d it
    part (Err why) it = tt

-- ---- an entry of the operator's

same_party : (a b : PartyId) → (a.0 == b.0) ≡ true → a ≡ b
same_party a b is = ap (λ (n : ℕ). let id : PartyId = record { 0 = n } in id) (eqb-true a.0 b.0 is)

same_acct : (a b : AcctId) → (a.0 == b.0) ≡ true → a ≡ b
same_acct a b is = ap (λ (n : ℕ). let id : AcctId = record { 0 = n } in id) (eqb-true a.0 b.0 is)

-- an enrolment, a fund that is held as an equal entry is this one
same_enrol : (x : Entry) (asked : Enrolment) → same_entry x (enrol_entry asked) ≡ true → x ≡ enrol_entry asked
same_enrol (Enrol id role acct nonce key) asked is =
    let last = and_parts _ _ is in
    let fourth = and_parts _ _ last.0 in
    let third = and_parts _ _ fourth.0 in
    let first = and_parts _ _ third.0 in
    ap (λ (x : PartyId). let e : Entry = Enrol x role acct nonce key in e) (same_party id asked.id first.0)
    ∙ ap (λ (x : ℕ). let e : Entry = Enrol asked.id x acct nonce key in e) (eqb-true role asked.role first.1)
    ∙ ap (λ (x : AcctId). let e : Entry = Enrol asked.id asked.role x nonce key in e) (same_acct acct asked.acct third.1)
    ∙ ap (λ (x : ℕ). let e : Entry = Enrol asked.id asked.role asked.acct x key in e) (eqb-true nonce asked.nonce fourth.1)
    ∙ ap (λ (x : List ℕ). let e : Entry = Enrol asked.id asked.role asked.acct asked.nonce x in e) ((bytes_eq-Decides key asked.key).0 last.1)
same_enrol (Fund acct amount reference) asked is = absurd cc
same_enrol (Paid digest epoid consumer merchant product price cacct macct moment key) asked is = absurd cc
same_enrol (Charged digest epoid consumer merchant product price fee cacct macct moment key) asked is = absurd cc
same_enrol (Refused digest epoid consumer merchant product price code a b moment) asked is = absurd cc

same_fund : (x : Entry) (asked : Funding) → same_entry x (fund_entry asked) ≡ true → x ≡ fund_entry asked
same_fund (Enrol id role acct nonce key) asked is = absurd cc
same_fund (Fund acct amount reference) asked is =
    let last = and_parts _ _ is in
    let first = and_parts _ _ last.0 in
    ap (λ (x : AcctId). let e : Entry = Fund x amount reference in e) (same_acct acct asked.acct first.0)
    ∙ ap (λ (x : ℕ). let e : Entry = Fund asked.acct x reference in e) (eqb-true amount asked.amount first.1)
    ∙ ap (λ (x : List ℕ). let e : Entry = Fund asked.acct asked.amount x in e) ((bytes_eq-Decides reference asked.reference).0 last.1)
same_fund (Paid digest epoid consumer merchant product price cacct macct moment key) asked is = absurd cc
same_fund (Charged digest epoid consumer merchant product price fee cacct macct moment key) asked is = absurd cc
same_fund (Refused digest epoid consumer merchant product price code a b moment) asked is = absurd cc

-- an entry that is found stands where it is found
stands : (e : Entry) → ((x : Entry) → same_entry x e ≡ true → x ≡ e) → (first : ℕ) (es : List Entry) (at : ℕ) → first_from (place_at e) first es ≡ Some at
    → (before : List Entry) × (after : List Entry) × (es ≡ before ++ e ∷ after) × (first + length before ≡ at)
stands e same first [] at found = absurd (none-some at found)
stands e same first (x ∷ es) at found = part (same_entry x e) refl found (λ rest. stands e same (first + 1) es at rest)
  where
    part : (b : Bool) → same_entry x e ≡ b → option_or (if b then Some first else None) (first_from (place_at e) (first + 1) es) ≡ Some at
        → (first_from (place_at e) (first + 1) es ≡ Some at → (before : List Entry) × (after : List Entry) × (es ≡ before ++ e ∷ after) × (first + 1 + length before ≡ at))
        → (before : List Entry) × (after : List Entry) × (x ∷ es ≡ before ++ e ∷ after) × (first + length before ≡ at)
    part true is found rest = ([], es, ap (λ (y : Entry). y ∷ es) (same x is), omega (arith, same_Some first at found))
    part false is found rest =
        let behind = rest found in
        (x ∷ behind.0, behind.1, ap (λ (ys : List Entry). x ∷ ys) behind.2, omega (arith, behind.3))

pub done_tells_the_entry : DoneTellsTheEntry
done_tells_the_entry H head most kind body moment = part (steps H head most kind body moment) (comes H head most kind body moment)
  where
    Tells : Decision → Type 0
    Tells d = TellsEntry H head kind body d.entry d.reply

    held : (acct : AcctId) (e : Entry) (at : ℕ) → OperatorAsks head kind body acct e → ((x : Entry) → same_entry x e ≡ true → x ≡ e) → place_in H e ≡ Some at
        → Tells (done acct at (balance H acct) None)
    held acct e at asks same place =
        let s = stands e same 0 H at place in (
          e,
          asks,
          (s.0, s.1, append-nil H ∙ s.2, omega (arith, s.3)),
          ap (λ (xs : List Entry). balance xs acct) (sym (append-nil H)),
          λ some. absurd cc,
        )

    now : (acct : AcctId) (e : Entry) → OperatorAsks head kind body acct e → Tells (done acct (length H) (balance (H ++ e ∷ []) acct) (Some e))
    now acct e asks = (e, asks, (H, [], refl, refl), refl, λ some. (refl, refl))

    tells : (d : Decision) → Comes H head most kind body moment (Ok d) → Tells d
    tells d (inl (is, (p, authentic, inl (s, kept, same, d_is)))) = subst Tells (sym d_is) tt
    tells d (inl (is, (p, authentic, inr (new, room, d_is)))) = subst Tells (sym d_is) tt
    tells d (inr (inl (is, (asked, authentic, least, d_is)))) = subst Tells (sym d_is) tt
    tells d (inr (inr (inl (is, (asked, buyer, seller, may, d_is))))) = subst Tells (sym d_is) tt
    tells d (inr (inr (inr (inl (is, (asked, spelled, right, inl (at, place, d_is))))))) =
        subst Tells (sym d_is) (held asked.acct (enrol_entry asked) at (inl (is, (asked, spelled, right, refl, refl))) (λ x. same_enrol x asked) place)
    tells d (inr (inr (inr (inl (is, (asked, spelled, right, inr (next, room, d_is))))))) =
        subst Tells (sym d_is) (now asked.acct (enrol_entry asked) (inl (is, (asked, spelled, right, refl, refl))))
    tells d (inr (inr (inr (inr (is, (asked, spelled, right, inl (at, place, d_is))))))) =
        subst Tells (sym d_is) (held asked.acct (fund_entry asked) at (inr (is, (asked, spelled, right, refl, refl))) (λ x. same_fund x asked) place)
    tells d (inr (inr (inr (inr (is, (asked, spelled, right, inr (next, room, d_is))))))) =
        subst Tells (sym d_is) (now asked.acct (fund_entry asked) (inr (is, (asked, spelled, right, refl, refl))))

    part : (r : Answer) → Comes H head most kind body moment r → Tells (told r)
    part (Ok d) it = tells d it
    part (Err why) it = tt

-- ---- a status

apart : false ≡ true → ⊥
apart e = cc

-- the receipt of a party, where an entry settled its order so
receipt_for : (id : PartyId) (at : ℕ) (e : Entry) (s : Settlement) (r : Receipt) → settlement_at at e ≡ Some s
    → (receipt_of_party id (Some s) ≡ Some r) ↔ IsReceiptFor id (record { at = at; entry = e }) r
unfolding receipt_in_role
receipt_for id at e s r is = part (s.consumer.0 == id.0) (s.merchant.0 == id.0) refl refl
  where
    buyer : receipt_at shown_to_consumer at e ≡ Some (receipt_in_role CONSUMER s)
    buyer = (receipts_so at e s is).1

    seller : receipt_at shown_to_merchant at e ≡ Some (receipt_in_role MERCHANT s)
    seller = (receipts_so at e s is).0

    of_buyer : receipt_at shown_to_consumer at e ≡ Some r → receipt_in_role CONSUMER s ≡ r
    of_buyer found = same_Some (receipt_in_role CONSUMER s) r (sym buyer ∙ found)

    of_seller : receipt_at shown_to_merchant at e ≡ Some r → receipt_in_role MERCHANT s ≡ r
    of_seller found = same_Some (receipt_in_role MERCHANT s) r (sym seller ∙ found)

    part : (b c : Bool) → (s.consumer.0 == id.0) ≡ b → (s.merchant.0 == id.0) ≡ c
        → ((if b then Some (receipt_in_role CONSUMER s) else if c then Some (receipt_in_role MERCHANT s) else None) ≡ Some r) ↔ IsReceiptFor id (record { at = at; entry = e }) r
    part true c buys sells = (
      λ told_so. let same = same_Some (receipt_in_role CONSUMER s) r told_so in
          inl (buyer ∙ told_so, sym (ap (λ (x : Receipt). x.consumer) same) ∙ same_party s.consumer id buys),
      λ mine. back mine,
    )
      where
        back : IsReceiptFor id (record { at = at; entry = e }) r → Some (receipt_in_role CONSUMER s) ≡ Some r
        back (inl (found, named)) = sym buyer ∙ found
        back (inr (found, other, named)) = absurd (other (sym (ap (λ (x : Receipt). x.consumer) (of_seller found)) ∙ same_party s.consumer id buys))
    part false true buys sells = (
      λ told_so. let same = same_Some (receipt_in_role MERCHANT s) r told_so in
          inr (
            seller ∙ told_so,
            λ named. apart (sym buys ∙ eq-eqb s.consumer.0 id.0 (ap (λ (x : PartyId). x.0) (ap (λ (x : Receipt). x.consumer) same ∙ named))),
            sym (ap (λ (x : Receipt). x.merchant) same) ∙ same_party s.merchant id sells,
          ),
      λ mine. back mine,
    )
      where
        back : IsReceiptFor id (record { at = at; entry = e }) r → Some (receipt_in_role MERCHANT s) ≡ Some r
        back (inl (found, named)) = absurd (apart (sym buys ∙ eq-eqb s.consumer.0 id.0 (ap (λ (x : PartyId). x.0) (ap (λ (x : Receipt). x.consumer) (of_buyer found) ∙ named))))
        back (inr (found, other, named)) = sym seller ∙ found
    part false false buys sells = (λ told_so. absurd (none-some r told_so), λ mine. absurd (back mine))
      where
        back : IsReceiptFor id (record { at = at; entry = e }) r → ⊥
        back (inl (found, named)) = apart (sym buys ∙ eq-eqb s.consumer.0 id.0 (ap (λ (x : PartyId). x.0) (ap (λ (x : Receipt). x.consumer) (of_buyer found) ∙ named)))
        back (inr (found, other, named)) = apart (sym sells ∙ eq-eqb s.merchant.0 id.0 (ap (λ (x : PartyId). x.0) (ap (λ (x : Receipt). x.merchant) (of_seller found) ∙ named)))

-- the same of any entry
receipt_of_entry : (id : PartyId) (at : ℕ) (e : Entry) (r : Receipt) → (receipt_of_party id (settlement_at at e) ≡ Some r) ↔ IsReceiptFor id (record { at = at; entry = e }) r
receipt_of_entry id at (Enrol who role acct nonce key) r = (λ is. absurd (none-some r is), λ mine. absurd (none_of mine))
  where
    none_of : IsReceiptFor id (record { at = at; entry = Enrol who role acct nonce key }) r → ⊥
    none_of (inl (found, named)) = none-some r found
    none_of (inr (found, other, named)) = none-some r found
receipt_of_entry id at (Fund acct amount reference) r = (λ is. absurd (none-some r is), λ mine. absurd (none_of mine))
  where
    none_of : IsReceiptFor id (record { at = at; entry = Fund acct amount reference }) r → ⊥
    none_of (inl (found, named)) = none-some r found
    none_of (inr (found, other, named)) = none-some r found
receipt_of_entry id at (Paid digest epoid consumer merchant product price cacct macct moment key) r = receipt_for id at (Paid digest epoid consumer merchant product price cacct macct moment key) _ r refl
receipt_of_entry id at (Charged digest epoid consumer merchant product price fee cacct macct moment key) r = receipt_for id at (Charged digest epoid consumer merchant product price fee cacct macct moment key) _ r refl
receipt_of_entry id at (Refused digest epoid consumer merchant product price code a b moment) r = receipt_for id at (Refused digest epoid consumer merchant product price code a b moment) _ r refl

-- and of the entry that settles an identifier
receipt_in : (H : List Entry) (id : PartyId) (p : Epoid) (r : Receipt) → (receipt_of_party id (settlement_in H p) ≡ Some r) ↔ ((kept : Kept) × (order_in H p ≡ Some kept) × IsReceiptFor id kept r)
unfolding settlement_in
receipt_in H id p r = (forth (order_in H p) refl, back)
  where
    forth : (o : Option Kept) → order_in H p ≡ o → receipt_of_party id (option_and_then settlement_of o) ≡ Some r → (kept : Kept) × (order_in H p ≡ Some kept) × IsReceiptFor id kept r
    forth None found is = absurd (none-some r is)
    forth (Some kept) found is = (kept, found, (receipt_of_entry id kept.at kept.entry r).0 is)

    back : (kept : Kept) × (order_in H p ≡ Some kept) × IsReceiptFor id kept r → receipt_of_party id (option_and_then settlement_of (order_in H p)) ≡ Some r
    back (kept, found, mine) = rw found ((receipt_of_entry id kept.at kept.entry r).1 mine)

pub status_tells_the_order : StatusTellsTheOrder
status_tells_the_order H head most kind body moment = part (steps H head most kind body moment) (comes H head most kind body moment)
  where
    Tells : Decision → Type 0
    Tells d = TellsStatus H body d.reply

    tells : (d : Decision) → Comes H head most kind body moment (Ok d) → Tells d
    tells d (inl (is, (p, authentic, inl (s, held, same, d_is)))) = subst Tells (sym d_is) tt
    tells d (inl (is, (p, authentic, inr (new, room, d_is)))) = subst Tells (sym d_is) tt
    tells d (inr (inl (is, (asked, authentic, least, d_is)))) = subst Tells (sym d_is) (asked, authentic, refl, refl, receipt_in H asked.asker asked.epoid)
    tells d (inr (inr (inl (is, (asked, buyer, seller, may, d_is))))) = subst Tells (sym d_is) tt
    tells d (inr (inr (inr (inl (is, (asked, spelled, right, inl (at, place, d_is))))))) = subst Tells (sym d_is) tt
    tells d (inr (inr (inr (inl (is, (asked, spelled, right, inr (next, room, d_is))))))) = subst Tells (sym d_is) tt
    tells d (inr (inr (inr (inr (is, (asked, spelled, right, inl (at, place, d_is))))))) = subst Tells (sym d_is) tt
    tells d (inr (inr (inr (inr (is, (asked, spelled, right, inr (next, room, d_is))))))) = subst Tells (sym d_is) tt

    part : (r : Answer) → Comes H head most kind body moment r → Tells (told r)
    part (Ok d) it = tells d it
    part (Err why) it = tt

-- ---- a kind that is not served

otherwise : {A : Type 0} (a b : ℕ) (x y : A) → a ≢ b → (if a == b then x else y) ≡ y
otherwise a b x y apart = part (a == b) refl
  where
    part : (c : Bool) → (a == b) ≡ c → (if c then x else y) ≡ y
    part true is = absurd (apart (eqb-true a b is))
    part false is = refl

pub other_kinds_are_refused : OtherKindsAreRefused
other_kinds_are_refused H head cap kind body moment one two three four five =
    ap told (otherwise kind ORDER_REQUEST _ _ one ∙ otherwise kind STATUS_REQUEST _ _ two ∙ otherwise kind TICKET_REQUEST _ _ three ∙ otherwise kind ENROL_REQUEST _ _ four
    ∙ otherwise kind FUND_REQUEST _ _ five)

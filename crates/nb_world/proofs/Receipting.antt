-- The receipts of an entry are those of the settlement that it is.
use Rattle.std.proofs.Common.{◌≡◌, ℕ, List, Option, None, Some, refl, sym, ap, ◌∙◌}
use Rattle.std.specs.Option.{option_and_then}
use Rattle.nb_units.specs.declared.epoid.Epoid.{Epoid}
use Rattle.nb_entry.specs.declared.entry.Entry.{Entry}
use Rattle.nb_entry.specs.declared.entry.Entry.TheVariants.{Enrol, Fund, Paid, Charged, Refused}
use Rattle.nb_entry.specs.declared.entry.TheConstants.{CONSUMER, MERCHANT}
use Rattle.nb_book.specs.declared.kept.Kept.{Kept}
use Rattle.nb_book.specs.Searches.{order_in}
use Rattle.nb_endorse.specs.declared.receipt.Receipt.{Receipt}
use Rattle.nb_escrow.specs.declared.settlement.PaymentOutcome.TheVariants as outcome
use Rattle.nb_escrow.specs.declared.settlement.RefusalReason.{RefusalReason}
use Rattle.nb_escrow.specs.declared.settlement.Settlement.{Settlement}
use Rattle.nb_escrow.specs.Payable.{shown_to_consumer, shown_to_merchant}
use Rattle.nb_escrow.specs.Replies.{receipt_at}
use Rattle.nb_escrow.specs.Settlements.{settlement, settlement_at, settlement_of, settlement_in, receipt_saying, receipt_in_role}
use Rattle.nb_escrow.proofs.Exactly.{tells_reason}
use Rattle.nb_world.specs.Headline.{ReceiptsOfSettlements}
use Rattle.nb_world.proofs.Chains.{same_some}

-- the receipt is that of the settlement that the entry at this place is
IsOf : ℕ → ℕ → Entry → Receipt → Type 0
IsOf role at e r = (s : Settlement) × (settlement_at at e ≡ Some s) × (r ≡ receipt_in_role role s)

consumers : (at : ℕ) (e : Entry) (r : Receipt) → receipt_at shown_to_consumer at e ≡ Some r → IsOf CONSUMER at e r
unfolding IsOf receipt_in_role
consumers at (Enrol id role acct nonce key) r is = absurd cc
consumers at (Fund acct amount reference) r is = absurd cc
consumers at (Paid digest epoid consumer merchant product price cacct macct moment key) r is =
    (settlement at digest epoid consumer merchant product price moment (outcome.Paid cacct macct key None), refl, sym (same_some _ r is))
consumers at (Charged digest epoid consumer merchant product price fee cacct macct moment key) r is =
    (settlement at digest epoid consumer merchant product price moment (outcome.Paid cacct macct key (Some fee)), refl, sym (same_some _ r is))
consumers at (Refused digest epoid consumer merchant product price code a b moment) r is =
    let why : RefusalReason = record { code = code; a = a; b = b } in
    let s : Settlement = settlement at digest epoid consumer merchant product price moment (outcome.Refused why) in
    let tells = tells_reason s why refl in
    (s, refl, sym (same_some _ r is) ∙ ap (λ (o : Option (ℕ × ℕ)). receipt_saying s code None o) (sym tells.3))

merchants : (at : ℕ) (e : Entry) (r : Receipt) → receipt_at shown_to_merchant at e ≡ Some r → IsOf MERCHANT at e r
unfolding IsOf receipt_in_role
merchants at (Enrol id role acct nonce key) r is = absurd cc
merchants at (Fund acct amount reference) r is = absurd cc
merchants at (Paid digest epoid consumer merchant product price cacct macct moment key) r is =
    (settlement at digest epoid consumer merchant product price moment (outcome.Paid cacct macct key None), refl, sym (same_some _ r is))
merchants at (Charged digest epoid consumer merchant product price fee cacct macct moment key) r is =
    (settlement at digest epoid consumer merchant product price moment (outcome.Paid cacct macct key (Some fee)), refl, sym (same_some _ r is))
merchants at (Refused digest epoid consumer merchant product price code a b moment) r is =
    let why : RefusalReason = record { code = code; a = a; b = b } in
    let s : Settlement = settlement at digest epoid consumer merchant product price moment (outcome.Refused why) in
    let tells = tells_reason s why refl in
    (s, refl, sym (same_some _ r is) ∙ ap (λ (o : Option (ℕ × ℕ)). receipt_saying s code None o) (sym tells.2))

found : (role : ℕ) (entries : List Entry) (order : Epoid) (kept : Kept) (r : Receipt) → order_in entries order ≡ Some kept → IsOf role kept.at kept.entry r
    → (s : Settlement) × (settlement_in entries order ≡ Some s) × (r ≡ receipt_in_role role s)
unfolding IsOf settlement_in
found role entries order kept r is of = (of.0, ap (λ (o : Option Kept). option_and_then settlement_of o) is ∙ of.1, of.2)

pub receipts_of_settlements : ReceiptsOfSettlements
receipts_of_settlements entries order kept r is = (
  (λ told. found CONSUMER entries order kept r is (consumers kept.at kept.entry r told)),
  (λ told. found MERCHANT entries order kept r is (merchants kept.at kept.entry r told)),
)

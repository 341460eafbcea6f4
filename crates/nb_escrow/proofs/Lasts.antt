-- What is found first stays first.
use Rattle.std.proofs.Common.{◌≡◌, ℕ, ◌+◌, List, [], ◌∷◌, ◌++◌, Option, Some, None, IfSome, refl, sym, ap, subst, ◌∙◌, arith}
use Rattle.std.specs.Option.{option_or, option_and_then}
use Rattle.nb_entry.specs.declared.entry.Entry.{Entry}
use Rattle.nb_book.specs.declared.kept.Kept.{Kept}
use Rattle.nb_book.specs.Searches.{first_from, party_at, holder_at, funded_at, order_at, order_in}
use Rattle.nb_endorse.specs.declared.receipt.TheConstants.{PAID_CODE}
use Rattle.nb_escrow.specs.declared.settlement.PaymentOutcome.{PaymentOutcome}
use Rattle.nb_escrow.specs.declared.settlement.PaymentOutcome.TheVariants.{Paid, Refused}
use Rattle.nb_escrow.specs.declared.settlement.Settlement.{Settlement}
use Rattle.nb_escrow.specs.Settlements.{IsPaymentOutcome, settlement_of, settlement_in, code_of, key_of, shown_in_role, receipt_saying, receipt_in_role}
use Rattle.nb_escrow.specs.Lasting.{PartyStays, HolderStays, FundStays, OrderStays, SettlementStays, CodeSays, ReceiptsSayTheSettlement}
use Rattle.nb_escrow.proofs.Settling.{outcome_found}

first_stays : {A : Type 0} (answer : ℕ → Entry → Option A) (at : ℕ) (H more : List Entry) (x : A)
    → first_from answer at H ≡ Some x → first_from answer at (H ++ more) ≡ Some x
first_stays answer at [] more x is = absurd cc
first_stays answer at (e ∷ H) more x is = either (answer at e) refl (first_stays answer (at + 1) H more x)
  where
    either : (o : Option _) → answer at e ≡ o → (first_from answer (at + 1) H ≡ Some x → first_from answer (at + 1) (H ++ more) ≡ Some x)
        → option_or (answer at e) (first_from answer (at + 1) (H ++ more)) ≡ Some x
    either (Some y) here rest = ap (λ o. option_or o (first_from answer (at + 1) (H ++ more))) here ∙ ap (λ o. option_or o (first_from answer (at + 1) H)) (sym here) ∙ is
    either None here rest = ap (λ o. option_or o (first_from answer (at + 1) (H ++ more))) here ∙ rest (ap (λ o. option_or o (first_from answer (at + 1) H)) (sym here) ∙ is)

pub party_stays : PartyStays
party_stays H more id party is = first_stays (party_at id) 0 H more party is

pub holder_stays : HolderStays
holder_stays H more acct holder is = first_stays (holder_at acct) 0 H more holder is

pub fund_stays : FundStays
fund_stays H more reference fund is = first_stays (funded_at reference) 0 H more fund is

pub order_stays : OrderStays
order_stays H more order kept is = first_stays (order_at order) 0 H more kept is

-- the entry of a settlement that is found
found_of : (o : Option Kept) (s : Settlement) → option_and_then settlement_of o ≡ Some s → (kept : Kept) × (o ≡ Some kept) × (settlement_of kept ≡ Some s)
found_of None s is = absurd cc
found_of (Some kept) s is = (kept, refl, is)

pub settlement_stays : SettlementStays
unfolding settlement_in
settlement_stays H more order s is =
    let found = found_of (order_in H order) s is in
    ap (λ o. option_and_then settlement_of o) (order_stays H more order found.0 found.1) ∙ found.2

-- ---- what a receipt says

says : (outcome : PaymentOutcome) (role : ℕ) (s : Settlement) → IsPaymentOutcome outcome → CodeSays outcome (receipt_saying s (code_of outcome) (key_of outcome) (shown_in_role role outcome))
says (Paid cacct macct key fee) role s fits = (refl, refl)
says (Refused reason) role s fits = (refl, (λ same. let paid : reason.code ≡ PAID_CODE = same in omega (arith, fits.0)), refl)

lawful : (o : Option Settlement) (s : Settlement) → o ≡ Some s → IfSome o (λ (x : Settlement). IsPaymentOutcome x.outcome) → IsPaymentOutcome s.outcome
lawful None s is all = absurd cc
lawful (Some x) s is all = let same : x ≡ s = cc in subst (λ (y : Settlement). IsPaymentOutcome y.outcome) same all

pub receipts_say_the_settlement : ReceiptsSayTheSettlement
unfolding settlement_in receipt_in_role
receipts_say_the_settlement H legal order role s is =
    let found = found_of (order_in H order) s is in
    says s.outcome role s (lawful (settlement_of found.0) s found.2 (outcome_found H legal order found.0 (sym found.1)))

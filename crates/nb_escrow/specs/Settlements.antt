-- How an order was settled, and what its two parties are told of it.
use Rattle.std.specs.Prelude.{ℕ, ◌==◌, ◌||◌, Bool, true, List, Option, Some, None, if◌then◌else◌}
use Rattle.std.specs.Option.{option_and_then}
use Rattle.nb_units.specs.declared.epoid.Epoid.{Epoid}
use Rattle.nb_units.specs.declared.ids.PartyId.{PartyId}
use Rattle.nb_units.specs.declared.ids.Price.{Price}
use Rattle.nb_entry.specs.declared.entry.Entry.{Entry}
use Rattle.nb_entry.specs.declared.entry.Entry.TheVariants as entries
use Rattle.nb_entry.specs.declared.entry.TheConstants.{CONSUMER, MERCHANT}
use Rattle.nb_book.specs.declared.kept.Kept.{Kept}
use Rattle.nb_book.specs.declared.reason.TheConstants.{CONSUMER_ACCOUNT, MERCHANT_ACCOUNT, BALANCE_LOW, CONSUMER_NONCE}
use Rattle.nb_book.specs.Searches.{order_in}
use Rattle.nb_units.specs.Reasons.{IsReason}
use Rattle.nb_endorse.specs.declared.receipt.TheConstants.{PAID_CODE}
use Rattle.nb_endorse.specs.declared.receipt.Receipt.{Receipt}
use Rattle.nb_escrow.specs.declared.settlement.PaymentOutcome.{PaymentOutcome}
use Rattle.nb_escrow.specs.declared.settlement.PaymentOutcome.TheVariants.{Paid, Refused}
use Rattle.nb_escrow.specs.declared.settlement.Settlement.{Settlement}

-- a reason's code is one that a receipt may have
abbrev pub IsPaymentOutcome : PaymentOutcome → Type 0
IsPaymentOutcome (Paid cacct macct key fee) = Unit {0}
IsPaymentOutcome (Refused reason) = IsReason reason.code

-- a settlement of these parts
abbrev pub settlement : ℕ → List ℕ → Epoid → PartyId → PartyId → ℕ → Price → ℕ → PaymentOutcome → Settlement
settlement at digest epoid consumer merchant product price moment outcome = record {
  at = at;
  digest = digest;
  epoid = epoid;
  consumer = consumer;
  merchant = merchant;
  product = product;
  price = price;
  moment = moment;
  outcome = outcome;
}

-- how an entry at this place settled its order: a payment or a refusal did
abbrev pub settlement_at : ℕ → Entry → Option Settlement
settlement_at at (entries.Paid digest epoid consumer merchant product price cacct macct moment key) =
    Some (settlement at digest epoid consumer merchant product price moment (Paid cacct macct key None))
settlement_at at (entries.Charged digest epoid consumer merchant product price fee cacct macct moment key) =
    Some (settlement at digest epoid consumer merchant product price moment (Paid cacct macct key (Some fee)))
settlement_at at (entries.Refused digest epoid consumer merchant product price code a b moment) =
    Some (settlement at digest epoid consumer merchant product price moment (Refused (record { code = code; a = a; b = b })))
settlement_at at other = None

-- the same of an entry that was found with its place
abbrev pub settlement_of : Kept → Option Settlement
settlement_of kept = settlement_at kept.at kept.entry

-- for the contracts of private functions alone: what became of the order that an entry settles
abbrev pub outcome_in : Entry → Option PaymentOutcome
outcome_in (entries.Paid digest epoid consumer merchant product price cacct macct moment key) = Some (Paid cacct macct key None)
outcome_in (entries.Charged digest epoid consumer merchant product price fee cacct macct moment key) = Some (Paid cacct macct key (Some fee))
outcome_in (entries.Refused digest epoid consumer merchant product price code a b moment) = Some (Refused (record { code = code; a = a; b = b }))
outcome_in other = None

-- the settlement of the order that an entry at this place settles, with this outcome
abbrev pub settlement_with : PaymentOutcome → ℕ → Entry → Option Settlement
settlement_with outcome at (entries.Paid digest epoid consumer merchant product price cacct macct moment key) =
    Some (settlement at digest epoid consumer merchant product price moment outcome)
settlement_with outcome at (entries.Charged digest epoid consumer merchant product price fee cacct macct moment key) =
    Some (settlement at digest epoid consumer merchant product price moment outcome)
settlement_with outcome at (entries.Refused digest epoid consumer merchant product price code a b moment) =
    Some (settlement at digest epoid consumer merchant product price moment outcome)
settlement_with outcome at other = None

-- how the order of this identifier was settled, if it was
unfoldable pub settlement_in : List Entry → Epoid → Option Settlement
settlement_in H epoid = option_and_then settlement_of (order_in H epoid)

-- the entry that records a settlement with this outcome
abbrev pub entry_with : Settlement → PaymentOutcome → Entry
entry_with s (Paid cacct macct key None) = entries.Paid s.digest s.epoid s.consumer s.merchant s.product s.price cacct macct s.moment key
entry_with s (Paid cacct macct key (Some fee)) = entries.Charged s.digest s.epoid s.consumer s.merchant s.product s.price fee cacct macct s.moment key
entry_with s (Refused reason) = entries.Refused s.digest s.epoid s.consumer s.merchant s.product s.price reason.code reason.a reason.b s.moment

-- the entry that records a settlement
abbrev pub settlement_entry : Settlement → Entry
settlement_entry s = entry_with s s.outcome

-- the code of a receipt: paid, or the reason's
abbrev pub code_of : PaymentOutcome → ℕ
code_of (Paid cacct macct key fee) = PAID_CODE
code_of (Refused reason) = reason.code

-- the key of the goods goes with a payment alone
abbrev pub key_of : PaymentOutcome → Option (List ℕ)
key_of (Paid cacct macct key fee) = Some key
key_of (Refused reason) = None

-- whom a reason's numbers are shown to: what is the consumer's own to the consumer alone, what is the merchant's own to
-- the merchant alone, and price and moments to both
unfoldable pub may_see : ℕ → ℕ → Bool
may_see role code =
    if code == CONSUMER_ACCOUNT || code == CONSUMER_NONCE || code == BALANCE_LOW then role == CONSUMER
    else if code == MERCHANT_ACCOUNT then role == MERCHANT
    else true

-- what the party in this role is shown
abbrev pub shown_in_role : ℕ → PaymentOutcome → Option (ℕ × ℕ)
shown_in_role role (Paid cacct macct key fee) = None
shown_in_role role (Refused reason) = if may_see role reason.code then Some (reason.a, reason.b) else None

-- a receipt of the order with this code, and key or numbers
abbrev pub receipt_saying : Settlement → ℕ → Option (List ℕ) → Option (ℕ × ℕ) → Receipt
receipt_saying s code key shown = record {
  code = code;
  consumer = s.consumer;
  merchant = s.merchant;
  product = s.product;
  price = s.price;
  epoid = s.epoid;
  at = s.at;
  moment = s.moment;
  key = key;
  shown = shown;
}

-- the receipt of the party in this role
unfoldable pub receipt_in_role : ℕ → Settlement → Receipt
receipt_in_role role s = receipt_saying s (code_of s.outcome) (key_of s.outcome) (shown_in_role role s.outcome)

-- the receipt of this party, where the settlement names it
abbrev pub receipt_of_party : PartyId → Option Settlement → Option Receipt
receipt_of_party id None = None
receipt_of_party id (Some s) =
    if s.consumer.0 == id.0 then Some (receipt_in_role CONSUMER s)
    else if s.merchant.0 == id.0 then Some (receipt_in_role MERCHANT s)
    else None

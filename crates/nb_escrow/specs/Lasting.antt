-- What was found in a list of entries is found in every longer one; and what the code of a receipt says of a settlement.
use Rattle.std.specs.Prelude.{◌≡◌, ◌≢◌, ℕ, List, ◌++◌, Some, None}
use Rattle.nb_units.specs.declared.epoid.Epoid.{Epoid}
use Rattle.nb_units.specs.declared.ids.AcctId.{AcctId}
use Rattle.nb_units.specs.declared.ids.PartyId.{PartyId}
use Rattle.nb_entry.specs.declared.entry.Entry.{Entry}
use Rattle.nb_book.specs.declared.funded.Funded.{Funded}
use Rattle.nb_book.specs.declared.kept.Kept.{Kept}
use Rattle.nb_book.specs.declared.party.Party.{Party}
use Rattle.nb_book.specs.Legal.{Legal}
use Rattle.nb_book.specs.Searches.{party_in, holder_in, funded_in, order_in}
use Rattle.nb_endorse.specs.declared.receipt.Receipt.{Receipt}
use Rattle.nb_endorse.specs.declared.receipt.TheConstants.{PAID_CODE}
use Rattle.nb_escrow.specs.declared.settlement.PaymentOutcome.{PaymentOutcome}
use Rattle.nb_escrow.specs.declared.settlement.PaymentOutcome.TheVariants.{Paid, Refused}
use Rattle.nb_escrow.specs.declared.settlement.Settlement.{Settlement}
use Rattle.nb_escrow.specs.Settlements.{settlement_in, receipt_in_role}

-- a party that is found is found as the same, whatever is recorded behind
abbrev pub PartyStays : Type 0
PartyStays = (H more : List Entry) (id : PartyId) (party : Party) → party_in H id ≡ Some party → party_in (H ++ more) id ≡ Some party

-- so is who holds an account
abbrev pub HolderStays : Type 0
HolderStays = (H more : List Entry) (acct : AcctId) (holder : PartyId) → holder_in H acct ≡ Some holder → holder_in (H ++ more) acct ≡ Some holder

-- law: a fund that is found in a list of entries is found as the same in every longer one
abbrev pub FundStays : Type 0
FundStays = (H more : List Entry) (reference : List ℕ) (fund : Funded) → funded_in H reference ≡ Some fund → funded_in (H ++ more) reference ≡ Some fund

-- law: so is the entry that settles an order
abbrev pub OrderStays : Type 0
OrderStays = (H more : List Entry) (order : Epoid) (kept : Kept) → order_in H order ≡ Some kept → order_in (H ++ more) order ≡ Some kept

-- and so is the settlement of an order
abbrev pub SettlementStays : Type 0
SettlementStays = (H more : List Entry) (order : Epoid) (s : Settlement) → settlement_in H order ≡ Some s → settlement_in (H ++ more) order ≡ Some s

-- the code of a receipt is that of a payment, and it has the payment's key; or it is the reason's, which is no payment's, and it has no key
abbrev pub CodeSays : PaymentOutcome → Receipt → Type 0
CodeSays (Paid cacct macct key fee) r = (r.code ≡ PAID_CODE) × (r.key ≡ Some key)
CodeSays (Refused reason) r = (r.code ≡ reason.code) × (r.code ≢ PAID_CODE) × (r.key ≡ None)

-- over every Legal list the receipts of a settlement say what it is
abbrev pub ReceiptsSayTheSettlement : Type 0
ReceiptsSayTheSettlement = (H : List Entry) → Legal H → (order : Epoid) (role : ℕ) (s : Settlement) → settlement_in H order ≡ Some s → CodeSays s.outcome (receipt_in_role role s)

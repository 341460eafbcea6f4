-- What may come next keeps the rules of entries.
use Rattle.std.proofs.Common.{ℕ, List, arith}
use Rattle.nb_units.specs.declared.ids.PartyId.{PartyId}
use Rattle.nb_units.specs.declared.ids.Price.{Price}
use Rattle.nb_units.specs.declared.epoid.Epoid.{Epoid}
use Rattle.nb_units.specs.Reasons.{IsReason}
use Rattle.nb_entry.specs.declared.entry.Entry.{Entry}
use Rattle.nb_entry.specs.declared.entry.Entry.TheVariants.{Enrol, Fund, Paid, Charged, Refused}
use Rattle.nb_book.specs.Legal.{ReasonIsTrue}
use Rattle.nb_book.specs.Laws.{LegalKeepsRules}

reason_code : (H : List Entry) (epoid : Epoid) (consumer merchant : PartyId) (price : Price) (code a b moment : ℕ) → ReasonIsTrue H epoid consumer merchant price code a b moment → IsReason code
reason_code H order consumer merchant price code a b moment is = grind arith

pub legal_keeps_rules : LegalKeepsRules
legal_keeps_rules H (Enrol id role acct nonce key) next = next.2
legal_keeps_rules H (Fund acct amount reference) next = tt
legal_keeps_rules H (Paid digest order consumer merchant product price cacct macct moment key) next = tt
legal_keeps_rules H (Charged digest order consumer merchant product price fee cacct macct moment key) next = tt
legal_keeps_rules H (Refused digest order consumer merchant product price code a b moment) next = reason_code H order consumer merchant price code a b moment next.2

use Rattle.std.proofs.Common.{◌≤◌, List, Option, Some, None, sym, subst}
use Rattle.std.specs.Option.{IfSome, option_map}
use Rattle.nb_units.specs.declared.ids.PartyId.{PartyId}
use Rattle.nb_book.specs.declared.account.Account.{Account}
use Rattle.nb_entry.specs.declared.entry.Entry.{Entry}
use Rattle.nb_book.specs.Ledger.{Ledger}
use Rattle.nb_book.specs.Searches.{holder_in}
use Rattle.nb_book.specs.Money.{balance, total}
use Rattle.nb_book.proofs.Balances.{balance_le_total}
use Rattle.nb_book.proofs.book.Book.account.Goals as goal

pub returns-clause-within : goal.returns-clause-within
returns-clause-within c =
    subst (λ (l : Ledger). IfSome c.account.result (λ account. account.balance ≤ total l.entries)) c.self.view_is
    (subst (λ (found : Option Account). IfSome found (λ account. account.balance ≤ total H)) (sym c.account.ensures) (part (holder_in H c.args.id))) where
      H : List Entry
      H = c.self.inside.list.entries.items

      part : (who : Option PartyId) → IfSome (option_map (λ (p : PartyId). record { party = p; balance = balance H c.args.id }) who) (λ (account : Account). account.balance ≤ total H)
      part None = tt
      part (Some p) = balance_le_total H c.self.invariant.legal c.args.id

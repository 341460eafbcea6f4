use Rattle.std.proofs.Common.{◌≤◌, subst}
use Rattle.nb_book.specs.Ledger.{Ledger}
use Rattle.nb_book.specs.Money.{total}
use Rattle.nb_book.proofs.Balances.{balance_le_total}
use Rattle.nb_book.proofs.book.Book.balance_of.Goals as goal

pub returns-clause-within : goal.returns-clause-within
returns-clause-within c =
    subst (λ (l : Ledger). c.balance_of.result ≤ total l.entries) c.self.view_is
    (rw c.balance_of.ensures (balance_le_total c.self.inside.list.entries.items c.self.invariant.legal c.args.party.now.acct))

use Rattle.std.proofs.Common.{◌≡◌, ℕ, sym, subst}
use Rattle.nb_book.specs.Money.{balance}
use Rattle.nb_book.proofs.Balances.{balance-none}
use Rattle.nb_escrow.proofs.Holding.{unheld}
use Rattle.nb_escrow.proofs.checks.balance_now.Goals as goal

pub returns-in-None-clause-balance : goal.returns-in-None-clause-balance
returns-in-None-clause-balance c =
    subst (λ (n : ℕ). c.fees.result ≡ balance c.args.book.now.entries (record { 0 = n })) (sym c.if-acct-eq0.true) c.fees.ensures.balance

pub returns-in-None-2-clause-balance : goal.returns-in-None-2-clause-balance
returns-in-None-2-clause-balance c =
    sym (balance-none c.args.book.now.entries c.in-None.ensures.legal c.args.acct c.if-acct-eq0.false (unheld c.args.book.now.entries c.args.acct c.in-None.ensures.found))

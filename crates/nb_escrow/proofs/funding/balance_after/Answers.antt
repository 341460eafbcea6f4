use Rattle.std.proofs.Common.{ℕ, ◌+◌, ap, sym, ◌∙◌}
use Rattle.nb_escrow.proofs.Holding.{fund_adds}
use Rattle.nb_escrow.proofs.funding.balance_after.Goals as goal

pub returns : goal.returns
returns c = ap (λ (n : ℕ). n + c.args.asked.now.amount) c.balance_now.ensures.balance ∙ sym (fund_adds c.args.book.now.entries c.balance_now.ensures.legal c.args.asked.now c.requires.held)

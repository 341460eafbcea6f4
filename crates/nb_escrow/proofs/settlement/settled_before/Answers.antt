use Rattle.std.proofs.Common.{sym, ◌∙◌}
use Rattle.nb_escrow.proofs.Settling.{none_found, outcome_found}
use Rattle.nb_escrow.proofs.settlement.settled_before.Goals as goal

pub returns-in-Some-clause-new : goal.returns-in-Some-clause-new
returns-in-Some-clause-new c =
    λ none. none_found c.args.book.now.entries c.in-Some.ensures.legal c.args.epoid.now c.in-Some.kept c.in-Some.ensures.found (sym c.of.ensures ∙ none)

pub returns-in-Some-clause-outcome : goal.returns-in-Some-clause-outcome
returns-in-Some-clause-outcome c = rw c.of.ensures (outcome_found c.args.book.now.entries c.in-Some.ensures.legal c.args.epoid.now c.in-Some.kept c.in-Some.ensures.found)

use Rattle.std.proofs.Common.{ℕ, List, subst}
use Rattle.nb_judge.specs.Ruling.{Rules}
use Rattle.nb_judge.proofs.case.judge.Goals as goal

pub returns : goal.returns
returns c = subst (λ (x : List ℕ × List ℕ). Rules (record c.args.c.now { receipt = x.0; sealed = x.1 }) c.judge.result) (λ i. (c.as_slice.ensures.value i, c.as_slice-2.ensures i)) c.judge.ensures

use Rattle.std.proofs.Common.{arith}
use Rattle.nb_system.proofs.Parts.{tear_nothing}
use Rattle.nb_system.proofs.disk.write_part.Goals as goal

pub returns-in-Took-eq0-clause-none : goal.returns-in-Took-eq0-clause-none
returns-in-Took-eq0-clause-none g c =
    let took = c.in-Took-eq0 in
    λ _. (grind arith, tear_nothing _ _ _ _ _ _ _ took.field-0-test c.loop.invariant.content took.ensures.gives.1)

use Rattle.nb_turn.specs.Passes.{Belongs}
use Rattle.bench.proofs.turning.take_turns.Given as goal

abbrev pub invariant-loop : goal.invariant-loop
invariant-loop g l = Belongs l.pass l.turn

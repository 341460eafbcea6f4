use Rattle.nb_desk.specs.Desks.{IsAt}
use Rattle.bench.proofs.asking.ask_part.Given as goal

abbrev pub invariant-loop-group : goal.invariant-loop-group
invariant-loop-group g l = IsAt l.pass l.desk

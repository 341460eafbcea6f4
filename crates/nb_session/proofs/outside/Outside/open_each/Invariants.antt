use Rattle.std.proofs.Common.{◌≤◌}
use Rattle.std.specs.Prelude.{vec_len}
use Rattle.nb_session.specs.Steps.{HasPlaces}
use Rattle.nb_session.proofs.outside.Outside.open_each.Given as goal

-- as many were opened as were looked at, at most
abbrev pub invariant-loop-ask : goal.invariant-loop-ask
invariant-loop-ask l = record {
  count : vec_len l.self.opened ≤ l.ask-index;
  places : HasPlaces l.self;
}

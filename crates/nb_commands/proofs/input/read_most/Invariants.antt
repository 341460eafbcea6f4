use Rattle.std.proofs.Common.{◌+◌, ◌-◌, ◌≤◌, ◌≡◌, length}
use Rattle.std.specs.Io.KnownBytes.{Consumes}
use Rattle.nb_commands.specs.declared.input.TheConstants.{PIECE}
use Rattle.nb_commands.proofs.input.read_most.Given as goal

-- what was taken so far is kept
abbrev pub invariant-reading : goal.invariant-reading
invariant-reading g l = record {
  took : Consumes (g.S.Source.left l.fn.source) (g.S.Source.left l.source) l.bytes.items;
  count : g.S.Source.faults l.fn.source ≤ g.S.Source.faults l.source;
  within : length l.bytes.items ≤ l.limit + 1;
  long : length l.piece ≡ PIECE;
}

abbrev pub decreases-reading : goal.decreases-reading
decreases-reading g l = l.limit + 1 - length l.bytes.items

-- Each turn so far was interrupted, and left the content.
use Rattle.std.proofs.Common.{◌≡◌, ◌≤◌}
use Rattle.nb_system.proofs.disk.write_part.Given as goal

abbrev pub invariant-loop : goal.invariant-loop
invariant-loop g l = record {
  grows : l.initial.faults ≤ l.faults;
  content : g.F.PositionalFile.content l.file ≡ g.F.PositionalFile.content l.initial.file;
  faithful : g.F.PositionalFile.faithful l.file;
  named : g.F.PositionalFile.named l.file;
}

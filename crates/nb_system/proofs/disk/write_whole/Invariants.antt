-- What was written so far is the front of the piece, and each turn writes a byte or more.
use Rattle.std.proofs.Common.{◌≡◌, length, take, ◌-◌, ◌≤◌}
use Rattle.nb_port.specs.Disk.{wrote_at}
use Rattle.nb_system.specs.File.{Within}
use Rattle.nb_system.proofs.disk.write_whole.Given as goal

abbrev pub invariant-writing : goal.invariant-writing
invariant-writing g l = record {
  grows : l.initial.faults ≤ l.faults;
  within : l.done ≤ length l.piece;
  so_far : Within (g.F.PositionalFile.content l.initial.file) l.place
      → g.F.PositionalFile.content l.file ≡ wrote_at (g.F.PositionalFile.content l.initial.file) l.place (take l.done l.piece);
  faithful : g.F.PositionalFile.faithful l.file;
  named : g.F.PositionalFile.named l.file;
}

abbrev pub decreases-writing : goal.decreases-writing
decreases-writing g l = length l.piece - l.done

-- What was read so far stands there, and each turn reads a byte or more.
use Rattle.std.proofs.Common.{◌≡◌, length, ◌-◌, ◌≤◌}
use Rattle.nb_system.proofs.Parts.{ReadSo}
use Rattle.nb_system.proofs.disk.read_whole.Given as goal

abbrev pub invariant-loop-done : goal.invariant-loop-done
invariant-loop-done g l = record {
  grows : l.initial.faults ≤ l.faults;
  within : l.done ≤ length l.buf;
  room : length l.buf ≡ length l.initial.buf;
  content : g.F.PositionalFile.content l.file ≡ g.F.PositionalFile.content l.initial.file;
  faithful : g.F.PositionalFile.faithful l.file;
  named : g.F.PositionalFile.named l.file;
  so_far : ReadSo (g.F.PositionalFile.content l.initial.file) l.place l.buf l.done;
}

abbrev pub decreases-loop-done : goal.decreases-loop-done
decreases-loop-done g l = length l.initial.buf - l.done

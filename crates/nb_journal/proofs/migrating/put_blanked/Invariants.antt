use Rattle.std.proofs.Common.{◌≡◌, ◌-◌, ◌≤◌, length, take}
use Rattle.nb_port.specs.Disk.{wrote_at}
use Rattle.nb_journal.specs.Migrating.{blanked}
use Rattle.nb_journal.proofs.migrating.put_blanked.Given as goal

abbrev pub invariant-loop-place : goal.invariant-loop-place
invariant-loop-place g l = record {
  behind : 8 ≤ l.place;
  within : l.place ≤ length l.image;
  wrote : g.D.Disk.tells.content l.disk ≡ wrote_at (g.D.Disk.tells.content l.fn.disk) 0 (take l.place (blanked l.image));
  faults : g.D.Disk.tells.faults l.fn.disk ≤ g.D.Disk.tells.faults l.disk;
}

abbrev pub decreases-loop-place : goal.decreases-loop-place
decreases-loop-place g l = length l.image - l.place

use Rattle.std.proofs.Common.{◌≡◌, ◌≤◌, IfSome, length}
use Rattle.nb_journal.specs.Time.{Untouched}
use Rattle.nb_journal.specs.Scanning.{AreItems, ReadSoFar}
use Rattle.nb_journal.specs.Window.{Sees}
use Rattle.nb_journal.proofs.opening.items.read_items.Given as goal

abbrev pub invariant-loop-item : goal.invariant-loop-item
invariant-loop-item g l = record {
  count : l.item ≡ length l.items.items;
  items : AreItems l.cap l.items.items l.place;
  reads : IfSome (g.D.Disk.tells.content l.fn.disk) (λ image. ReadSoFar image l.cap l.items.items l.place);
  nothing : Untouched g.D.Disk.tells l.fn.disk l.disk;
  sees : Sees (g.D.Disk.tells.content l.disk) l.window;
  faults : g.D.Disk.tells.faults l.fn.disk ≤ g.D.Disk.tells.faults l.disk;
}

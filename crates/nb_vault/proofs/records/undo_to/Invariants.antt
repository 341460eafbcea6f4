use Rattle.std.proofs.Common.{◌≡◌, ◌-◌, length, take}
use Rattle.nb_vault.proofs.records.undo_to.Given as goal

abbrev pub invariant-undoing : goal.invariant-undoing
invariant-undoing l = record {
  entries : l.book.entries ≡ take (length l.initial.book.entries - l.counter) l.initial.book.entries;
  cap : l.book.cap ≡ l.initial.book.cap;
}

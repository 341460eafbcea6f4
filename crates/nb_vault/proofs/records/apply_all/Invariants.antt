use Rattle.std.proofs.Common.{◌≡◌, ◌++◌, take}
use Rattle.nb_vault.proofs.records.apply_all.Given as goal

abbrev pub invariant-loop-entry : goal.invariant-loop-entry
invariant-loop-entry l = record {
  entries : l.book.entries ≡ l.initial.book.entries ++ take l.entry-index l.entries;
  cap : l.book.cap ≡ l.initial.book.cap;
}

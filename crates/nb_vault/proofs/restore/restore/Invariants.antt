use Rattle.std.proofs.Common.{◌≡◌, take}
use Rattle.std.specs.List.{AllByRecursion}
use Rattle.nb_book.specs.Legal.{IsOfRate}
use Rattle.nb_vault.specs.Holdings.{Joins}
use Rattle.nb_vault.proofs.restore.restore.Given as goal

abbrev pub invariant-loop-i : goal.invariant-loop-i
invariant-loop-i l = record {
  joins : Joins (take l.i l.items) l.book.entries;
  each : AllByRecursion (IsOfRate l.charter.version l.charter.rate) l.book.entries;
  cap : l.book.cap ≡ l.initial.book.cap;
}

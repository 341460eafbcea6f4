use Rattle.std.proofs.Common.{◌≡◌}
use Rattle.std.specs.List.{AllByRecursion}
use Rattle.nb_book.specs.Legal.{IsOfRate}
use Rattle.nb_vault.proofs.Restoring.{ReadOn}
use Rattle.nb_vault.proofs.restore.restore_item.Given as goal

abbrev pub invariant-loop-n : goal.invariant-loop-n
invariant-loop-n l = record {
  so_far : ReadOn l.item l.initial.book.entries l.book.entries l.cut.place l.n;
  bytes : l.cut.bytes ≡ l.item;
  each : AllByRecursion (IsOfRate l.charter.version l.charter.rate) l.book.entries;
  cap : l.book.cap ≡ l.initial.book.cap;
}

use Rattle.std.proofs.Common.{◌≡◌, ◌≤◌, length, take}
use Rattle.nb_book.specs.Legal.{LegalUnder}
use Rattle.nb_simulator.proofs.setup.book_of.Given as goal

-- the book has the entries so far
abbrev pub invariant-loop-entry : goal.invariant-loop-entry
invariant-loop-entry l = record {
  entries : l.book.entries ≡ take l.entry-index l.entries;
  cap : l.book.cap ≡ l.cap;
  legal : LegalUnder l.head.version l.head.rate l.book.entries;
  within : length l.book.entries ≤ l.cap;
}

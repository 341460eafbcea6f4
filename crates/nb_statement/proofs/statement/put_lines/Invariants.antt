use Rattle.std.proofs.Common.{◌≡◌, ◌≤◌, ◌++◌, [], length, take, vec_capacity}
use Rattle.nb_book.specs.Money.{balance}
use Rattle.nb_vault.specs.Vaults.{entries_in}
use Rattle.nb_statement.specs.Movements.{movements}
use Rattle.nb_statement.specs.Statement.{Stands, lines_behind}
use Rattle.nb_statement.proofs.statement.put_lines.Given as goal

-- what was sent and what waits are what waited and the lines of the entries so far, with the number of their movements and their balance
abbrev pub invariant-entries : goal.invariant-entries
invariant-entries g l = record {
  stands : Stands (g.K.Sink.sent l.fn.sink) (g.K.Sink.sent l.sink) l.waits.items (l.fn.waits.items ++ lines_behind l.acct [] (take l.at (entries_in l.vault)));
  count : g.K.Sink.faults l.fn.sink ≤ g.K.Sink.faults l.sink;
  number : l.number ≡ length (movements l.acct (take l.at (entries_in l.vault)));
  few : l.number ≤ l.at;
  balance : l.balance ≡ balance (take l.at (entries_in l.vault)) l.acct;
  room : vec_capacity l.waits ≡ vec_capacity l.fn.waits;
}

use Rattle.std.proofs.Common.{◌≡◌, ◌++◌, take}
use Rattle.std.specs.Vec.{vec_capacity}
use Rattle.nb_vault.specs.Parts.{lines_of}
use Rattle.nb_vault.proofs.telling.push_lines.Given as goal

abbrev pub invariant-loop-entry : goal.invariant-loop-entry
invariant-loop-entry l = record {
  items : l.lines.items ≡ l.initial.lines.items ++ lines_of l.fate l.by l.turn (take l.entry-index l.entries);
  room : vec_capacity l.lines ≡ vec_capacity l.initial.lines;
}

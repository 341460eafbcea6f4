use Rattle.std.proofs.Common.{◌≡◌, map, take}
use Rattle.clap.specs.Words.{app_of}
use Rattle.nb_words.specs.Table.{with_positions}
use Rattle.nb_words.proofs.table.with_positions.Given as goal

-- those that were looked at stand behind the command's own
abbrev pub invariant-adding : goal.invariant-adding
invariant-adding l = app_of l.more ≡ with_positions (app_of l.fn.command) (map (λ id. id.now) (take l.position-index l.positions)) l.required

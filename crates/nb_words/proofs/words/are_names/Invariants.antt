use Rattle.std.proofs.Common.{map, take, string_bytes}
use Rattle.std.specs.List.{AllByRecursion}
use Rattle.nb_words.specs.Words.{IsName}
use Rattle.nb_words.proofs.words.are_names.Given as goal

-- those that were looked at are names
abbrev pub invariant-looking : goal.invariant-looking
invariant-looking l = AllByRecursion IsName (map string_bytes (take l.word-index l.words))

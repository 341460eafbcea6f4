use Rattle.std.proofs.Common.{◌≡◌, ◌++◌, map, length}
use Rattle.nb_script.specs.Words.{parts}
use Rattle.nb_script.proofs.words.Words.of.Given as goal

-- the words so far and those of the rest are those of the line
abbrev pub invariant-words : goal.invariant-words
invariant-words l = map (λ word. word.now) l.each.items ++ parts 32 l.rest ≡ parts 32 l.fn.line

-- the rest gets shorter
abbrev pub decreases-words : goal.decreases-words
decreases-words l = length l.rest

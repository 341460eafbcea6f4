use Rattle.nb_index.proofs.Walking.{Stands}
use Rattle.nb_index.proofs.index.FixedIndex.find.Given as goal

-- where the walk stands
abbrev pub invariant-loop-number : goal.invariant-loop-number
invariant-loop-number l = Stands l.self-inside.key l.self-inside.lasts.len l.self-inside.puts.items l.key l.slot l.number

abbrev pub decreases-loop-number : goal.decreases-loop-number
decreases-loop-number l = l.number

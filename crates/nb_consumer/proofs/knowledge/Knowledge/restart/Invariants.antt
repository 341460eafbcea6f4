use Rattle.std.proofs.Common.{◌≡◌, drop}
use Rattle.nb_consumer.specs.State.{new_buyer}
use Rattle.nb_consumer.specs.Restart.{restarted_from}
use Rattle.nb_consumer.proofs.knowledge.Knowledge.restart.Given as goal

-- what is known behind the items so far and those that are left is what is known behind all
abbrev pub invariant-loop-i : goal.invariant-loop-i
invariant-loop-i l = restarted_from l.i l.known (drop l.i l.items) ≡ restarted_from 0 (new_buyer l.fn.wallet) l.items

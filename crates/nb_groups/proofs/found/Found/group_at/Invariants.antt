use Rattle.std.proofs.Common.{◌≡◌, drop}
use Rattle.nb_groups.specs.Quote.{group_at}
use Rattle.nb_groups.proofs.found.Found.group_at.Given as goal

-- no offer so far has the price
abbrev pub invariant-loop-next : goal.invariant-loop-next
invariant-loop-next l = group_at l.price (drop l.next-index l.self) ≡ group_at l.price l.self

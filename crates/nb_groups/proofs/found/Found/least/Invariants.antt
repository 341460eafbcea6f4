use Rattle.std.proofs.Common.{◌≡◌, drop}
use Rattle.nb_groups.specs.Quote.{least}
use Rattle.nb_groups.proofs.found.Found.least.Given as goal

-- the least of what was found and of the offers to come is that of all
abbrev pub invariant-loop-offer : goal.invariant-loop-offer
invariant-loop-offer l = least l.least (drop l.offer-index l.self) ≡ least l.price l.self

use Rattle.std.proofs.Common.{◌≡◌, ◌++◌, ◌≤◌, length, drop}
use Rattle.nb_groups.specs.Offers.{offers_for}
use Rattle.nb_groups.proofs.offers.Offers.offers_for.Given as goal

-- the offers so far and those for the groups to come are all, and there is at most one for each group
abbrev pub invariant-loop-group : goal.invariant-loop-group
invariant-loop-group l = record {
  all : l.found ++ offers_for l.self.offers l.product (drop l.group-index l.groups) ≡ offers_for l.self.offers l.product l.groups;
  few : length l.found ≤ l.group-index;
}

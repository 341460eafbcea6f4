use Rattle.std.proofs.Common.{◌≡◌, take}
use Rattle.nb_goods.specs.Goods.{joined}
use Rattle.nb_goods.proofs.opened.front_of.Given as goal

-- the front of the parts so far
abbrev pub invariant-loop-part : goal.invariant-loop-part
invariant-loop-part l = l.front ≡ take 32 (joined (take l.part-index l.parts))

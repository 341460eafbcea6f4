use Rattle.std.proofs.Common.{◌≡◌, take, drop}
use Rattle.nb_goods.specs.Goods.{joined}
use Rattle.nb_goods.proofs.joined.divided.Given as goal

-- the parts so far were divided
abbrev pub invariant-loop-part : goal.invariant-loop-part
invariant-loop-part l = (l.front.items ≡ take 32 (joined (take l.part-index l.parts))) × (l.text.items ≡ drop 32 (joined (take l.part-index l.parts)))

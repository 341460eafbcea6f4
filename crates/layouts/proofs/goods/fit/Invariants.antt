use Rattle.std.proofs.Common.{◌≡◌, ◌≤◌, take, length}
use Rattle.nb_goods.specs.Goods.{joined}
use Rattle.layouts.proofs.goods.fit.Given as goal

-- the bytes of the parts so far
abbrev pub invariant-loop-part : goal.invariant-loop-part
invariant-loop-part l = record {
  total : l.total ≡ length (joined (take l.part-index l.parts));
  short : l.total ≤ 67108896;
}

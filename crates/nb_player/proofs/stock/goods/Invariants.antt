use Rattle.std.proofs.Common.{◌≡◌}
use Rattle.nb_player.specs.Stock.{goods_of}
use Rattle.nb_player.proofs.stock.goods.Given as goal

abbrev pub invariant-loop-i : goal.invariant-loop-i
invariant-loop-i l = l.goods.items ≡ goods_of l.i

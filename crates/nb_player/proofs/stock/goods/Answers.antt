use Rattle.std.proofs.Common.{◌++◌, ◌∷◌, [], ◌%◌, sym, ap, ◌∙◌}
use Rattle.nb_player.specs.declared.stock.TheConstants.{CYCLE}
use Rattle.nb_player.proofs.Stocking.{goods_more, no_goods}
use Rattle.nb_player.proofs.stock.goods.Goals as goal

pub loop-i-init : goal.loop-i-init
loop-i-init c = c.in_ok-goods.ensures.items ∙ sym no_goods

pub loop-i-preserved : goal.loop-i-preserved
loop-i-preserved c = c.in_ok-push.ensures.items ∙ ap (λ bytes. bytes ++ c.loop-i.i % CYCLE ∷ []) c.loop-i.invariant ∙ sym (goods_more c.loop-i.i)

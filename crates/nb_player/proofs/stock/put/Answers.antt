use Rattle.std.proofs.Common.{◌≡◌, length, ap, ◌∙◌, arith}
use Rattle.nb_player.proofs.Stocking.{goods_length}
use Rattle.nb_player.proofs.stock.put.Goals as goal

pub unreachable-requires : goal.unreachable-requires
unreachable-requires c =
    let told = rw c.in-Err-BadPrice.field-0-is at c.in-Err-BadPrice.ensures in
    told.2 (c.requires.0.0, c.requires.0.1)

pub unreachable-requires-in-Err-TooLong : goal.unreachable-requires-in-Err-TooLong
unreachable-requires-in-Err-TooLong c =
    let told = rw c.in-Err-TooLong.field-0-is at c.in-Err-TooLong.ensures in
    let long : length c.in_ok-goods.goods.items ≡ c.args.shelf.now.length = ap length c.in_ok-goods.ensures ∙ goods_length c.args.shelf.now.length in
    omega (arith, told.3, c.requires.0.2)

pub unreachable-requires-in-Err-Taken : goal.unreachable-requires-in-Err-Taken
unreachable-requires-in-Err-Taken c =
    let told = rw c.in-Err-Taken.field-0-is at c.in-Err-Taken.ensures in
    told.4 c.requires.1

use Rattle.std.proofs.Common.{get_or, take}
use Rattle.std.proofs.lemmas.List.{take_more}
use Rattle.nb_player.proofs.Adding.{adds_more}
use Rattle.nb_player.proofs.rows.add_purchases.Goals as goal

pub loop-number-preserved : goal.loop-number-preserved
loop-number-preserved c =
    let ns = c.args.numbers.now in
    let i = c.loop-number.number-index in
    rw (take_more ns i 0 c.loop-number-test.true)
    (adds_more c.args.purchases.now.keys c.args.consumer (take i ns) c.loop-number.purchases c.insert.new.self (get_or ns i 0) c.loop-number.invariant c.in_ok-_new.ensures.ordered c.in_ok-_new.ensures.updates)

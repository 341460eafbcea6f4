use Rattle.std.proofs.Common.{take}
use Rattle.nb_player.specs.Report.{AddsPurchases}
use Rattle.nb_player.proofs.rows.add_purchases.Given as goal

abbrev pub invariant-loop-number : goal.invariant-loop-number
invariant-loop-number l = AddsPurchases l.fn.purchases.keys l.consumer (take l.number-index l.numbers) l.purchases.keys

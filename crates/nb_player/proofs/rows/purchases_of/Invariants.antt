use Rattle.std.proofs.Common.{take}
use Rattle.nb_player.specs.Report.{ArePurchases}
use Rattle.nb_player.proofs.rows.purchases_of.Given as goal

abbrev pub invariant-loop-i : goal.invariant-loop-i
invariant-loop-i l = ArePurchases (take l.i l.world.world.consumers) l.purchases.keys

use Rattle.std.proofs.Common.{◌≡◌, ◌++◌, length}
use Rattle.std.specs.List.{flat_map}
use Rattle.nb_player.specs.Report.{purchase_line}
use Rattle.nb_player.proofs.report.put_purchases.Given as goal

abbrev pub invariant-rows : goal.invariant-rows
invariant-rows l = l.text.items ++ flat_map (purchase_line l.world.world.consumers) l.purchases.keys ≡ l.fn.text.items ++ flat_map (purchase_line l.world.world.consumers) l.fn.purchases.keys

abbrev pub decreases-rows : goal.decreases-rows
decreases-rows l = length l.purchases.keys

use Rattle.std.proofs.Common.{◌≡◌, ◌++◌, length}
use Rattle.std.specs.List.{flat_map}
use Rattle.nb_player.specs.Report.{account_line}
use Rattle.nb_player.proofs.report.put_accounts.Given as goal

abbrev pub invariant-rows : goal.invariant-rows
invariant-rows l = l.text.items ++ flat_map (account_line l.world.world.durable) l.accounts.keys ≡ l.fn.text.items ++ flat_map (account_line l.world.world.durable) l.fn.accounts.keys

abbrev pub decreases-rows : goal.decreases-rows
decreases-rows l = length l.accounts.keys

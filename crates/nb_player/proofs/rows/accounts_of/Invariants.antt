use Rattle.std.proofs.Common.{take}
use Rattle.nb_player.specs.Report.{AreAccounts}
use Rattle.nb_player.proofs.rows.accounts_of.Given as goal

abbrev pub invariant-loop-i : goal.invariant-loop-i
invariant-loop-i l = AreAccounts (take l.i l.book.entries) l.accounts.keys

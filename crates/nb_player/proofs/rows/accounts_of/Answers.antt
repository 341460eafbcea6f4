use Rattle.std.proofs.Common.{sym, take}
use Rattle.nb_player.proofs.Adding.{account_more, next_taken}
use Rattle.nb_player.proofs.rows.accounts_of.Goals as goal

pub loop-i-preserved : goal.loop-i-preserved
loop-i-preserved c =
    let H = c.args.book.now.entries in
    rw (next_taken H c.loop-i.i c.in-Some.entry (sym c.in-Some.ensures))
    (account_more (take c.loop-i.i H) c.in-Some.entry c.loop-i.accounts.keys c.add_account.new.accounts.keys c.loop-i.invariant c.in_ok-add_account-in-Some.ensures)

use Rattle.nb_player.proofs.Adding.{opens}
use Rattle.nb_player.proofs.rows.add_account.Goals as goal

pub returns-in-Enrol : goal.returns-in-Enrol
returns-in-Enrol c =
    let e = c.in-Enrol in
    rw e.is (opens e.acct c.args.accounts.now c.insert.new.self e.id e.role e.nonce e.key c.in_ok-_new.ensures.ordered c.in_ok-_new.ensures.updates)

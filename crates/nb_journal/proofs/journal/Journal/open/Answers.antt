use Rattle.std.proofs.Common.{◌≡◌, length, rules}
use Rattle.nb_journal.proofs.Opens.{opens}
use Rattle.nb_journal.proofs.journal.Journal.open.Goals as goal

pub returns-in-Ok-clause-gives : goal.returns-in-Ok-clause-gives
returns-in-Ok-clause-gives g c =
    let found = c.in-Whole.ensures.gives in
    let count : c.len.result ≡ length c.in-Whole.items.items = search rules in
    opens g.D.Disk.tells c.args.disk c.read_contents.new.disk c.args.room c.in-Whole.place c.len.result _ found.0 found.1 found.3 c.in-Whole.ensures.nothing.same found.2 count c.in-Ok.ensures.ok

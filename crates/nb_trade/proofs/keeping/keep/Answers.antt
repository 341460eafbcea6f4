use Rattle.nb_journal.proofs.Growing.{append_grows}
use Rattle.nb_trade.proofs.keeping.keep.Goals as goal

pub returns-in-Ok : goal.returns-in-Ok
returns-in-Ok g c = append_grows g.D.Disk.tells c.args.journal.now c.append.new.self c.args.item.now c.in-Ok.ensures.gives c.append.ensures.limits c.append.ensures.count c.append.ensures.any_moment

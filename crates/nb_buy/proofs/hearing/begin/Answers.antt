use Rattle.nb_consumer.specs.Table.{started}
use Rattle.nb_buy.specs.Bought.{point}
use Rattle.nb_buy.specs.Run.{Starts}
use Rattle.nb_buy.specs.declared.peer.Peer.TheVariants.{House}
use Rattle.nb_buy.specs.Steps.{lines_of}
use Rattle.nb_buy.proofs.Carrying.{step_short, carried}
use Rattle.nb_buy.proofs.OverLines.{line_none}
use Rattle.nb_buy.proofs.hearing.begin.Goals as goal

pub act-done-requires-clause-short : goal.act-done-requires-clause-short
act-done-requires-clause-short g c = step_short c.args.consumer.now c.start.new.self (started c.args.consumer.now c.args.start.now) c.in-Ok.step c.in-Ok.ensures.answers

pub returns-in-Ok-clause-carries : goal.returns-in-Ok-clause-carries
returns-in-Ok-clause-carries g c =
    let lines = lines_of (g.L.Link.seen c.args.server.now) (g.L.Link.seen c.args.seller.now) c.args.sides.now in
    carried g.D.Disk.tells c.args.start.now (point c.args.journal.now c.args.consumer.now lines)
    (point c.act-done.new.journal c.start.new.self (lines_of (g.L.Link.seen c.act-done.new.server) (g.L.Link.seen c.act-done.new.seller) c.act-done.new.sides))
    lines House Starts c.in-Ok.step c.act-done.result c.in-Ok.ensures.answers (line_none lines.house) (line_none lines.seller) c.act-done.ensures.acts

use Rattle.nb_commands.specs.Init.{charter_with}
use Rattle.nb_commands.proofs.Making.{head_whole, made_of, rate_ruled}
use Rattle.nb_commands.proofs.init.make_journal.Goals as goal

pub returns-in-Ok-clause-made : goal.returns-in-Ok-clause-made
returns-in-Ok-clause-made g c =
    let made = c.in-Ok.ensures in
    let head = c.in-Whole.head in
    let took = c.in-Whole.ensures.gives in
    let rate = c.args.rate in
    (head, made.gives.0.0, took, made_of g.D.Disk.tells c.args.disk.now c.make_with.new.disk (charter_with head rate) c.args.cap (head_whole head rate took.whole) (rate_ruled head rate c.requires.rate) made.gives.0.0 made.gives.1 made.gives.2 made.gives.3 made.bytes)

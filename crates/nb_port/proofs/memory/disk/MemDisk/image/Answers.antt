use Rattle.std.proofs.Common.{arith}
use Rattle.std.proofs.lemmas.Grind.{common_steps}
use Rattle.nb_port.proofs.Stops.{image_at_left, image_at_since}
use Rattle.nb_port.proofs.memory.disk.MemDisk.image.Goals as goal

pub returns-clause-left : goal.returns-clause-left
returns-clause-left c =
    image_at_left c.args.self.now.start c.args.self.now.steps c.args.moment c.args.fill c.as_slice-3.result.now c.of.result
    (grind (arith, common_steps)) c.of.ensures

pub returns-clause-since : goal.returns-clause-since
returns-clause-since c =
    image_at_since c.args.self.now.start c.args.self.now.steps c.args.moment c.args.fill c.as_slice-3.result.now c.of.result
    c.requires (grind (arith, common_steps)) c.of.ensures

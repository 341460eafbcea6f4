use Rattle.std.proofs.Common.{arith}
use Rattle.std.proofs.lemmas.Grind.{common_steps}
use Rattle.nb_port.proofs.Tears.{put_in_parts}
use Rattle.nb_port.proofs.memory.replay.put.Goals as goal

pub returns-clause-items : goal.returns-clause-items
returns-clause-items c =
    grind (arith, common_steps, put_in_parts c.args.bytes.now.items c.args.place c.min-at.result c.min.result c.args.piece.now)

use Rattle.nb_port.specs.Images.{Quiet}
use Rattle.nb_port.proofs.Stops.{either_way, quiet_pause, quiet_none}
use Rattle.nb_port.proofs.memory.record.record_pause.Goals as goal

pub returns-clause-quiet : goal.returns-clause-quiet
returns-clause-quiet c = either_way (Quiet c.args.steps.now.items) _ _ _ _ c.record.ensures.steps (quiet_pause _) (quiet_none _)

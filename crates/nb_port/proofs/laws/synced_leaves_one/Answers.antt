use Rattle.std.proofs.Common.{[], ◌∷◌}
use Rattle.nb_port.specs.declared.memory.step.DiskStep.TheVariants.{Pause, Synced}
use Rattle.nb_port.proofs.Stops.{ahead, behind}
use Rattle.nb_port.proofs.laws.synced_leaves_one.Goals as goal

pub returns : goal.returns
returns c start steps image = (ahead start steps (Pause ∷ Synced ∷ []) image, behind start steps (Pause ∷ Synced ∷ []) image)

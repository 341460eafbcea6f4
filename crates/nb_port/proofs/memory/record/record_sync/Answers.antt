use Rattle.std.proofs.Common.{[], ◌∷◌}
use Rattle.nb_port.specs.declared.memory.step.DiskStep.TheVariants.{Pause, Synced}
use Rattle.nb_port.specs.Images.{Syncs, Settles}
use Rattle.nb_port.proofs.Stops.{either_way, when_ok, syncs_done, syncs_none, settles}
use Rattle.nb_port.proofs.memory.record.record_sync.Goals as goal

pub returns-clause-syncs : goal.returns-clause-syncs
returns-clause-syncs c = either_way (Syncs c.args.steps.now.items) _ _ _ _ c.record.ensures.steps (syncs_done _) (syncs_none _)

pub returns-clause-only : goal.returns-clause-only
returns-clause-only c =
    when_ok Settles c.args.steps.now.items (Pause ∷ Synced ∷ []) _ c.record.result c.record.ensures.steps (settles c.args.steps.now.items)

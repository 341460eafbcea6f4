use Rattle.std.proofs.Common.{ℕ, List, [], ◌∷◌, length, refl}
use Rattle.std.specs.Prelude.{is_ok}
use Rattle.nb_port.specs.declared.memory.step.DiskStep.{DiskStep}
use Rattle.nb_port.specs.declared.memory.step.DiskStep.TheVariants.{Pause, Tore}
use Rattle.nb_port.specs.Images.{Writes, Lands}
use Rattle.nb_port.proofs.Stops.{either_way, writes_torn, writes_none, lands_same}
use Rattle.nb_port.proofs.memory.record.record_tear.Goals as goal

pub returns-clause-writes : goal.returns-clause-writes
returns-clause-writes c =
    let old : List DiskStep = c.args.steps.now.items in
    let place = c.args.place in
    let bytes = c.args.piece.now in
    either_way (Writes place (length bytes) old) old (Tore place bytes ∷ Pause ∷ []) c.record.new.steps.items (is_ok c.record.result)
    (rw (← c.in_ok-bytes.ensures) c.record.ensures.steps)
    (writes_torn place bytes old) (writes_none place (length bytes) old)

pub returns-clause-content : goal.returns-clause-content
returns-clause-content c =
    let old : List DiskStep = c.args.steps.now.items in
    let place = c.args.place in
    let bytes = c.args.piece.now in
    either_way (Lands (λ (c : List ℕ). c) old) old (Tore place bytes ∷ Pause ∷ []) c.record.new.steps.items (is_ok c.record.result)
    (rw (← c.in_ok-bytes.ensures) c.record.ensures.steps)
    (lands_same place bytes old) (λ start. refl)

use Rattle.std.proofs.Common.{ℕ, List, [], ◌∷◌, length}
use Rattle.std.specs.Prelude.{is_ok}
use Rattle.nb_port.specs.declared.memory.step.DiskStep.{DiskStep}
use Rattle.nb_port.specs.declared.memory.step.DiskStep.TheVariants.{Pause, Wrote}
use Rattle.nb_port.specs.Images.{Writes, Lands}
use Rattle.nb_port.specs.Disk.{put_at}
use Rattle.nb_port.proofs.Stops.{either_way, when_ok, writes_done, writes_none, lands_put}
use Rattle.nb_port.proofs.memory.record.record_write.Goals as goal

pub returns-clause-writes : goal.returns-clause-writes
returns-clause-writes c =
    let old : List DiskStep = c.args.steps.now.items in
    let place = c.args.place in
    let bytes = c.args.piece.now in
    either_way (Writes place (length bytes) old) old (Wrote place bytes ∷ Pause ∷ []) c.record.new.steps.items (is_ok c.record.result)
    (rw (← c.in_ok-bytes.ensures) c.record.ensures.steps)
    (writes_done place bytes old) (writes_none place (length bytes) old)

pub returns-clause-ok : goal.returns-clause-ok
returns-clause-ok c =
    let old : List DiskStep = c.args.steps.now.items in
    let place = c.args.place in
    let bytes = c.args.piece.now in
    when_ok (Lands (λ (c : List ℕ). put_at c place bytes) old) old (Wrote place bytes ∷ Pause ∷ []) c.record.new.steps.items c.record.result
    (rw (← c.in_ok-bytes.ensures) c.record.ensures.steps)
    (lands_put place bytes old)

use Rattle.std.proofs.Common.{sym, ap, ◌∙◌, subst, arith, ◌≢◌, ◌≤◌, List}
use Rattle.nb_turns.specs.declared.line.Line.{Line}
use Rattle.nb_commands.specs.declared.ending.Ending.{Ending}
use Rattle.nb_commands.specs.declared.ending.TheConstants.{DISK_FAILED, NO_JOURNAL}
use Rattle.nb_batch.specs.Batch.{Outside}
use Rattle.nb_journal.specs.Time.{Unwritten}
use Rattle.nb_answers.specs.Ending.{EndsEarly, ended}
use Rattle.nb_answers.specs.Batch.{BatchLines, EndsWhole}
use Rattle.nb_commands.proofs.Opening.{unopened_end}
use Rattle.nb_answers.proofs.Completeness.{early_end, opened_end, unopened_whole, whole_end}
use Rattle.nb_answers.proofs.Running.{batch_lines}
use Rattle.nb_answers.proofs.batch.answer_batch.Goals as goal

pub returns-in-Err-clause-whole : goal.returns-in-Err-clause-whole
returns-in-Err-clause-whole g c = λ input no_sink. subst EndsWhole (sym c.unopened.ensures) (unopened_whole c.in-Err.fault)

pub returns-in-Err-clause-opens : goal.returns-in-Err-clause-opens
returns-in-Err-clause-opens g c = λ journal no_disk.
    subst (λ (ending : Ending). (ending.status ≢ NO_JOURNAL) × (ending.status ≢ DISK_FAILED)) (sym c.unopened.ensures)
    (unopened_end g.D.Disk.tells c.args.disk c.in-Err.fault c.in-Err.disk c.in-Err.ensures.whole c.in-Err.ensures.gives journal no_disk)

pub returns-clause-batch : goal.returns-clause-batch
returns-clause-batch g c =
    let before : Outside = record { left = g.S.Source.left c.args.source.now; sent = g.K.Sink.sent c.args.sink.now; moments = g.C.Clock.moments c.args.clock.now } in
    let after : Outside = record { left = g.S.Source.left c.answer_frames-end.new.source; sent = g.K.Sink.sent c.answer_frames-end.new.sink; moments = g.C.Clock.moments c.answer_frames-end.new.clock } in
    subst (λ (ending : Ending). BatchLines g.D.Disk.tells c.args.by c.args.disk c.into_parts-disk.result.0 before after c.into_parts-disk.result.1.items ending) (sym c.ended.ensures)
    (subst (λ (lines : List Line). BatchLines g.D.Disk.tells c.args.by c.args.disk c.into_parts-disk.result.0 before after lines (ended c.answer_frames-end.result)) (sym c.into_parts-disk.ensures.lines)
    (subst (λ (disk : g.row.D.Denot). BatchLines g.D.Disk.tells c.args.by c.args.disk disk before after c.answer_frames-end.new.house.lines (ended c.answer_frames-end.result)) (sym c.into_parts-disk.ensures.disk)
    (batch_lines g.D.Disk.tells c.args.by g.met.D.Disk.only_now c.answer_frames-end.result c.args.disk c.in-Ok.house c.answer_frames-end.new.house before after
    c.in-Ok.ensures.gives c.in-Ok.ensures.nothing c.in-Ok.ensures.count c.answer_frames-end.ensures.served c.witness.ensures.keeps c.answer_frames-end.ensures.origin)))

pub returns-clause-counts : goal.returns-clause-counts
returns-clause-counts g c = (
  c.answer_frames-end.ensures.source,
  c.answer_frames-end.ensures.sink,
  subst (λ (disk : g.row.D.Denot). g.D.Disk.tells.faults c.args.disk ≤ g.D.Disk.tells.faults disk) (sym c.into_parts-disk.ensures.disk) (omega (arith, c.in-Ok.ensures.count, c.answer_frames-end.ensures.disk)),
)

pub returns-clause-whole : goal.returns-clause-whole
returns-clause-whole g c = λ input no_sink.
    let before : Outside = record { left = g.S.Source.left c.args.source.now; sent = g.K.Sink.sent c.args.sink.now; moments = g.C.Clock.moments c.args.clock.now } in
    let after : Outside = record { left = g.S.Source.left c.answer_frames-end.new.source; sent = g.K.Sink.sent c.answer_frames-end.new.sink; moments = g.C.Clock.moments c.answer_frames-end.new.clock } in
    subst EndsWhole (sym c.ended.ensures)
    (whole_end g.D.Disk.tells c.args.by c.in-Ok.house c.answer_frames-end.new.house c.answer_frames-end.result before after (g.S.Source.faults c.args.source.now) (g.S.Source.faults c.answer_frames-end.new.source) (g.K.Sink.faults c.args.sink.now) (g.K.Sink.faults c.answer_frames-end.new.sink)
    c.answer_frames-end.ensures.served c.answer_frames-end.ensures.fault input no_sink)

pub returns-clause-opens : goal.returns-clause-opens
returns-clause-opens g c = λ journal no_disk. subst (λ (ending : Ending). (ending.status ≢ NO_JOURNAL) × (ending.status ≢ DISK_FAILED)) (sym c.ended.ensures) (opened_end c.answer_frames-end.result)

pub returns-clause-closed : goal.returns-clause-closed
returns-clause-closed g c = λ early.
    let same = c.answer_frames-end.ensures.starved (early_end c.answer_frames-end.result (subst EndsEarly c.ended.ensures early)) in
    (same.1, same.2, same.3)

pub returns-clause-unwritten : goal.returns-clause-unwritten
returns-clause-unwritten g c = λ early.
    let same = (c.answer_frames-end.ensures.starved (early_end c.answer_frames-end.result (subst EndsEarly c.ended.ensures early))).0 in
    subst (λ (disk : g.row.D.Denot). Unwritten g.D.Disk.tells c.args.disk disk) (sym (c.into_parts-disk.ensures.disk ∙ ap (λ house. house.disk) same)) c.in-Ok.ensures.nothing

use Rattle.std.proofs.Common.{◌≡◌, ◌≢◌, ℕ, ◌<◌, ◌≤◌, ◌^◌, ◌⊎◌, List, [], Option, Some, None, refl, sym, ap₂, subst, arith, inl, inr}
use Rattle.nb_port.specs.Tells.{DiskTells}
use Rattle.nb_book.specs.Money.{total}
use Rattle.nb_journal.specs.Making.{without_fee}
use Rattle.nb_turns.specs.declared.line.Line.{Line}
use Rattle.nb_batch.specs.declared.answering.Answerer.TheVariants.{House}
use Rattle.nb_batch.specs.Batch.{Outside}
use Rattle.nb_play.specs.Drill.{head_of}
use Rattle.nb_play.specs.Feed.{Feed, cap_of, told_by, whole}
use Rattle.nb_commands.specs.declared.ending.Ending.{Ending}
use Rattle.nb_commands.specs.declared.ending.TheConstants.{CLEAN, SOURCE_FAILED, OUT_OF_MEMORY, NO_JOURNAL, DISK_FAILED}
use Rattle.nb_commands.specs.Opening.{IsJournal}
use Rattle.nb_answers.specs.Batch.{BatchLines, EndsWhole, IsWholeInput}
use Rattle.nb_answers.specs.Drill.{Answers, TellsLine, fed, line_with, recorded, tally}
use Rattle.nb_answers.proofs.Drills.{fits, other, told, wanting, whole_input}
use Rattle.nb_answers.proofs.drilling.answer.Goals.{then-ending-eq-CLEAN-2-via-then-ending-eq-CLEAN-2, then-ending-eq-CLEAN-2-via-else-ending-eq-CLEAN-2+then-ending-eq-SOURCE_FAILED}
use Rattle.nb_answers.proofs.drilling.answer.Goals as goal

-- what a new source and a new clock tell is what a drill begins with
fed_so : {D : Type 0} (tells : DiskTells D) (made new : D) (seed orders : ℕ) (source : Feed) (clock : ℕ) (after : Outside) (lines : List Line) (end : Ending) → source ≡ whole seed orders → clock ≡ 0
    → BatchLines tells House made new (record { left = Some source.left; sent = None; moments = told_by clock }) after lines end → BatchLines tells House made new (fed seed orders) after lines end
fed_so tells made new seed orders source clock after lines end is none b =
    let begins : Feed → ℕ → Outside = λ s k. record { left = Some s.left; sent = None; moments = told_by k } in
    subst (λ (before : Outside). BatchLines tells House made new before after lines end) (ap₂ begins is none) b

-- its frames are whole
whole_so : (seed orders : ℕ) (source : Feed) → orders ≤ 100000 → source ≡ whole seed orders → IsWholeInput (Some source.left)
whole_so seed orders source few is = subst (λ (s : Feed). IsWholeInput (Some s.left)) (sym is) (whole_input seed orders few)

pub tell-requires : goal.tell-requires
tell-requires g c =
    let r = c.answer_batch-disk.result in
    let after : Outside = record { left = Some c.answer_batch-disk.new.source.left; sent = None; moments = told_by c.answer_batch-disk.new.clock } in
    let batch = fed_so g.D.Disk.tells c.args.disk r.disk c.args.seed c.args.orders c.new-source.result c.new-clock.result after r.lines.items r.ending c.new-source.ensures c.new-clock.ensures c.answer_batch-disk.ensures.batch in
    subst (λ (lines : List Line). total (recorded lines) < 2 ^ 64) (sym c.as_slice.ensures.value)
    (fits g.D.Disk.tells c.args.disk r.disk c.args.seed c.args.orders c.requires after r.ending r.lines.items batch None None)

pub returns-then-tells-clause-answered : goal.returns-then-tells-clause-answered
returns-then-tells-clause-answered g c =
    let r = c.answer_batch-disk.result in
    let after : Outside = record { left = Some c.answer_batch-disk.new.source.left; sent = None; moments = told_by c.answer_batch-disk.new.clock } in
    let batch = fed_so g.D.Disk.tells c.args.disk r.disk c.args.seed c.args.orders c.new-source.result c.new-clock.result after r.lines.items r.ending c.new-source.ensures c.new-clock.ensures c.answer_batch-disk.ensures.batch in
    told g.D.Disk.tells c.args.disk r.disk c.args.seed c.args.orders c.requires after r.ending r.lines.items batch (g.K.Sink.sent c.args.sink.now) (g.K.Sink.sent c.tell.new.sink) c.tell.result c.answer_batch-disk.new.clock
    c.if-ending-eq-CLEAN.true (c.tells.ensures.told c.if-tells.true)
    (subst (λ (lines : List Line). TellsLine (g.K.Sink.sent c.args.sink.now) (g.K.Sink.sent c.tell.new.sink) (line_with c.args.orders (tally (recorded lines))) c.tell.result) c.as_slice.ensures.value c.tell.ensures.line)

pub returns-then-ending-eq-CLEAN-2-clause-answered : goal.returns-then-ending-eq-CLEAN-2-clause-answered
returns-then-ending-eq-CLEAN-2-clause-answered g c =
    let r = c.answer_batch-disk.result in
    let sent : Option (List ℕ) = g.K.Sink.sent c.args.sink.now in
    let after : Outside = record { left = Some c.answer_batch-disk.new.source.left; sent = None; moments = told_by c.answer_batch-disk.new.clock } in
    let batch = fed_so g.D.Disk.tells c.args.disk r.disk c.args.seed c.args.orders c.new-source.result c.new-clock.result after r.lines.items r.ending c.new-source.ensures c.new-clock.ensures c.answer_batch-disk.ensures.batch in
    let ended : (r.ending.status ≡ CLEAN) ⊎ (r.ending.status ≡ SOURCE_FAILED) = elim c.then-ending-eq-CLEAN-2.branch [
      | then-ending-eq-CLEAN-2-via-then-ending-eq-CLEAN-2 w ↦ inl w.if-ending-eq-CLEAN-2.true
      | then-ending-eq-CLEAN-2-via-else-ending-eq-CLEAN-2+then-ending-eq-SOURCE_FAILED w ↦ inr w.if-ending-eq-SOURCE_FAILED.true
    ] in
    subst (λ (ending : Ending). Answers g.D.Disk.tells c.args.disk r.disk sent sent c.args.seed c.args.orders ending) (sym c.at_no_place.ensures)
    (wanting g.D.Disk.tells c.args.disk r.disk c.args.seed c.args.orders c.requires after r.ending r.lines.items batch sent sent ended refl)

pub returns-clause-answered : goal.returns-clause-answered
returns-clause-answered g c =
    let r = c.answer_batch-disk.result in
    let sent : Option (List ℕ) = g.K.Sink.sent c.args.sink.now in
    let after : Outside = record { left = Some c.answer_batch-disk.new.source.left; sent = None; moments = told_by c.answer_batch-disk.new.clock } in
    let batch = fed_so g.D.Disk.tells c.args.disk r.disk c.args.seed c.args.orders c.new-source.result c.new-clock.result after r.lines.items r.ending c.new-source.ensures c.new-clock.ensures c.answer_batch-disk.ensures.batch in
    other g.D.Disk.tells c.args.disk r.disk c.args.seed c.args.orders c.requires after r.ending r.lines.items batch sent sent
    (c.answer_batch-disk.ensures.whole (whole_so c.args.seed c.args.orders c.new-source.result c.requires c.new-source.ensures) (λ rose. omega (arith, rose)))
    c.if-ending-eq-CLEAN-2.false c.if-ending-eq-SOURCE_FAILED.false refl

pub returns-clause-complete : goal.returns-clause-complete
returns-clause-complete g c = λ fresh no_sink no_disk.
    let r = c.answer_batch-disk.result in
    let journal : IsJournal (g.D.Disk.tells.content c.args.disk) = record { image = fresh.0; charter = without_fee (head_of c.args.seed); cap = cap_of c.args.orders; entries = []; is = fresh.1; stands = fresh.2 } in
    let opens = c.answer_batch-disk.ensures.opens journal no_disk in
    by r.ending (c.answer_batch-disk.ensures.whole (whole_so c.args.seed c.args.orders c.new-source.result c.requires c.new-source.ensures) (λ rose. omega (arith, rose)))
    c.if-ending-eq-SOURCE_FAILED.false opens.0 opens.1
  where
    by : (end : Ending) → EndsWhole end → (end.status ≡ SOURCE_FAILED → ⊥) → end.status ≢ NO_JOURNAL → end.status ≢ DISK_FAILED → (end.status ≡ CLEAN) ⊎ (end.status ≡ OUT_OF_MEMORY)
    by end (inl is) source journal disk = inl is
    by end (inr (inl is)) source journal disk = inr is
    by end (inr (inr (inl is))) source journal disk = absurd (source is)
    by end (inr (inr (inr (inl is)))) source journal disk = absurd (journal is)
    by end (inr (inr (inr (inr is)))) source journal disk = absurd (disk is)

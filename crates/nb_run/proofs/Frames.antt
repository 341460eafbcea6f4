-- Answering the frames of the input, as a run tells of it.
use Rattle.std.proofs.Common.{◌≡◌, ◌≢◌, ◌⊎◌, inl, inr, ⊎_elim, ℕ, List}
use Rattle.nb_port.specs.Tells.{DiskTells}
use Rattle.nb_port.specs.Faults.{Rose}
use Rattle.nb_journal.specs.Time.{Unwritten}
use Rattle.nb_turns.specs.declared.line.Line.{Line}
use Rattle.nb_batch.specs.declared.answering.Answerer.{Answerer}
use Rattle.nb_commands.specs.declared.ending.Ending.{Ending}
use Rattle.nb_commands.specs.declared.ending.Outcome.TheVariants.{Done}
use Rattle.nb_commands.specs.declared.ending.TheConstants.{CLEAN, SOURCE_FAILED, OUT_OF_MEMORY, DISK_FAILED, NO_JOURNAL}
use Rattle.nb_commands.specs.Opening.{IsJournal}
use Rattle.nb_answers.specs.Batch.{BatchLines, EndsWhole, IsWholeInput}
use Rattle.nb_answers.specs.Ending.{EndsEarly}
use Rattle.nb_run.specs.Run.{AnswersFrames, Around, DiskFailed, SinkFailed, SourceFailed, outside}

-- where nothing failed, and the journal was opened, all is done, or memory was wanting
all_done : (ending : Ending) → EndsWhole ending → ending.status ≢ SOURCE_FAILED → (ending.status ≢ NO_JOURNAL) × (ending.status ≢ DISK_FAILED) → (ending.status ≡ CLEAN) ⊎ (ending.status ≡ OUT_OF_MEMORY)
all_done ending (inl clean) source opens = inl clean
all_done ending (inr (inl starved)) source opens = inr starved
all_done ending (inr (inr (inl failed))) source opens = absurd (source failed)
all_done ending (inr (inr (inr (inl none)))) source opens = absurd (opens.0 none)
all_done ending (inr (inr (inr (inr failed)))) source opens = absurd (opens.1 failed)

module _ {S K D C : Type 0} (tells : DiskTells D) (by : Answerer) (before after : Around S K D C) (ending : Ending) (lines : List Line) where
  pub answers_frames : BatchLines tells by before.disk after.disk (outside before) (outside after) lines ending
      → (EndsEarly ending → (after.source ≡ before.source) × (after.sink ≡ before.sink) × (after.clock ≡ before.clock))
      → (EndsEarly ending → Unwritten tells before.disk after.disk)
      → (ending.status ≡ SOURCE_FAILED → Rose before.source_faults after.source_faults)
      → (IsWholeInput before.left → (Rose before.sink_faults after.sink_faults → ⊥) → EndsWhole ending)
      → (IsJournal (tells.content before.disk) → (Rose (tells.faults before.disk) (tells.faults after.disk) → ⊥) → (ending.status ≢ NO_JOURNAL) × (ending.status ≢ DISK_FAILED))
      → AnswersFrames tells before after (Done ending) by
  answers_frames batch closed unwritten source whole opens = record {
    came = ⊎_elim (λ unopened. inl unopened.0) (λ answered. inr answered.0) batch;
    source = λ early. (closed early).0;
    sink = λ early. (closed early).1;
    clock = λ early. (closed early).2;
    unwritten = unwritten;
    complete = λ journal input no_source no_sink no_disk. all_done ending (whole input no_sink) (λ failed. no_source (source failed)) (opens journal no_disk);
  }

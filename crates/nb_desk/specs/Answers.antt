-- All that a vault promises of one answer.
use Rattle.std.specs.Prelude.{◌≡◌, ◌⊎◌, ℕ, ◌≤◌, List}
use Rattle.nb_port.specs.Tells.{DiskTells}
use Rattle.nb_journal.specs.Time.{LeavesOnly}
use Rattle.nb_turns.specs.Turns.{Request}
use Rattle.nb_turns.specs.declared.line.Line.{Line}
use Rattle.nb_turn.specs.declared.chronicle.View.{View}
use Rattle.nb_turn.specs.Views.{reseen, gave}
use Rattle.nb_vault.specs.declared.answer.AnswerAll.{AnswerAll}
use Rattle.nb_vault.specs.declared.answer.AnswerAll.TheVariants as all
use Rattle.nb_vault.specs.declared.origin.Origin.{Origin}
use Rattle.nb_vault.specs.Vaults.{Chronicled, Keeps, TurnOf, DurableWhere, SameWhere, FaultWithin, StandsForState, state_of}
use Rattle.nb_desk.specs.declared.asked.AskedAll.{AskedAll}
use Rattle.nb_desk.specs.declared.asked.AskedAll.TheVariants as asked

-- the vault before and after a turn, whose places and replies these are
pub record Answers {D : Type 0} (tells : DiskTells D) (old new : Chronicled D) (by : ℕ) (requests : List Request) (found : List ℕ) (out out' : List ℕ) (answer : AnswerAll) : Type 0 where
  pub kept : Keeps tells old
  pub keeps : Keeps tells new
  pub turn : TurnOf tells old new by requests found out out' answer
  pub origin : new.origin ≡ old.origin
  pub any_moment : LeavesOnly tells old.disk new.disk (λ image. StandsForState old image ⊎ StandsForState new image)
  pub durable : DurableWhere tells new answer
  pub quiet : state_of new ≡ state_of old → tells.content new.disk ≡ tells.content old.disk
  pub same : SameWhere old new answer
  pub fault : FaultWithin tells old new answer
  pub count : tells.faults old.disk ≤ tells.faults new.disk

-- for the contracts of private functions alone: what was answered for a pass that had the turn and gave it back, and knew v and then w
abbrev pub AnswersAs : {D : Type 0} → DiskTells D → Chronicled D → ℕ → View Origin Line → View Origin Line → List Request → List ℕ → List ℕ → List ℕ → AnswerAll → Type 0
AnswersAs {D} tells old by v w requests found out out' answer =
    (new : Chronicled D) × Answers tells old new by requests found out out' answer × (w ≡ gave (reseen new.lines v))

-- the same by what the desk tells of it
abbrev pub AnswersHeld : {D : Type 0} → DiskTells D → Chronicled D → ℕ → View Origin Line → View Origin Line → List Request → List ℕ → List ℕ → List ℕ → AskedAll → Type 0
AnswersHeld tells old by v w requests found out out' asked.Served = AnswersAs tells old by v w requests found out out' all.Answered
AnswersHeld tells old by v w requests found out out' (asked.DiskFault before after) = AnswersAs tells old by v w requests found out out' (all.DiskFault before after)
AnswersHeld tells old by v w requests found out out' (asked.Worn faults) = AnswersAs tells old by v w requests found out out' (all.Worn faults)
AnswersHeld tells old by v w requests found out out' (asked.Busy word) = ⊥

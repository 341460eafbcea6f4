-- What an answer of a desk tells: one turn of its vault, over what the pass knew.
use Rattle.std.specs.Prelude.{◌≡◌, ◌⊎◌, ℕ, ◌≤◌, List, [], ◌∷◌, ◌++◌}
use Rattle.std.specs.List.{AllByRecursion}
use Rattle.nb_port.specs.Tells.{DiskTells}
use Rattle.nb_journal.specs.Time.{LeavesOnly}
use Rattle.nb_entry.specs.declared.entry.Entry.{Entry}
use Rattle.nb_turns.specs.declared.limits.TheConstants.{MAX_FAULTS}
use Rattle.nb_turns.specs.declared.line.Line.{Line}
use Rattle.nb_turns.specs.Turns.{Request, Outcome, Decides, Fails, Refuses}
use Rattle.nb_turns.specs.Lines.{StateOver, lines_by}
use Rattle.nb_turns.specs.Callers.{Turned, Follows, behind}
use Rattle.nb_turn.specs.declared.chronicle.View.{View}
use Rattle.nb_turn.specs.Views.{found_one, found_more, took, gave}
use Rattle.nb_vault.specs.declared.answer.AnswerAll.{AnswerAll}
use Rattle.nb_vault.specs.declared.answer.AnswerAll.TheVariants as all
use Rattle.nb_vault.specs.declared.origin.Origin.{Origin}
use Rattle.nb_vault.specs.Vaults.{Chronicled, Keeps, Went, DurableWhere, SameWhere, FaultWithin, StandsForState, house_in, state_of}
use Rattle.nb_desk.specs.declared.asked.Asked.{Asked}
use Rattle.nb_desk.specs.declared.asked.Asked.TheVariants as one
use Rattle.nb_desk.specs.declared.asked.AskedAll.{AskedAll}
use Rattle.nb_desk.specs.declared.asked.AskedAll.TheVariants as asked
use Rattle.nb_desk.specs.Desks.{MeetsVault}

-- a turn of a pass: what was asked, how it went, the lines of others since the pass saw the last, and its own
abbrev pub turned : List Request → Outcome → List Line → List Line → Turned
turned requests outcome others added = record { requests = requests; outcome = outcome; others = others; added = added }

-- A pass that knew v took a turn that went so, and knows w since. There was a vault as the pass took it, and is one as the pass gave it back
pub record Asks {D : Type 0} (tells : DiskTells D) (by : ℕ) (v w : View Origin Line) (requests : List Request) (outcome : Outcome) (found : List ℕ) (out out' : List ℕ) (answer : AnswerAll) : Type 0 where
  pub old : Chronicled D
  pub new : Chronicled D
  -- it was what the desk was opened with, and its lines began with all that the pass had seen. What others made since is neither the
  -- pass's nor of one that was joined into it: for each of them its own lines are exactly the vault's lines of its number
  pub meets : MeetsVault v old
  -- it made one turn, and the pass has seen all its lines
  pub went : Went tells old new by requests outcome found out out'
  pub same_origin : new.origin ≡ old.origin
  pub seen_is : w.seen ≡ new.lines
  -- so the pass has seen the lines of others and its own, which are those of such a turn, under the next turn's number, and nothing else
  pub follows : Follows (house_in old) old.origin.entries by v.seen (turned requests outcome meets.others went.added)
  pub seen : w.seen ≡ behind v.seen (turned requests outcome meets.others went.added)
  pub own : lines_by by w.seen ≡ lines_by by v.seen ++ went.added
  -- its states are states over these lines
  pub over_before : StateOver old.origin.entries old.lines (state_of old)
  pub over_behind : StateOver old.origin.entries w.seen (state_of new)
  -- and the vault is one: its lines are sound and backed by its disk, their turns never fall, its entries are Legal. What its disk leaves
  -- at a stop is what its own call tells
  pub kept : Keeps tells old
  pub keeps : Keeps tells new
  pub any_moment : LeavesOnly tells old.disk new.disk (λ image. StandsForState old image ⊎ StandsForState new image)
  pub durable : DurableWhere tells new answer
  pub quiet : state_of new ≡ state_of old → tells.content new.disk ≡ tells.content old.disk
  pub same : SameWhere old new answer
  pub fault : FaultWithin tells old new answer
  pub count : tells.faults old.disk ≤ tells.faults new.disk

-- how the requests of a turn were answered, by the answer of a desk whose turn was taken
abbrev pub Gives : {D : Type 0} → DiskTells D → ℕ → View Origin Line → View Origin Line → List Request → List ℕ → List ℕ → List ℕ → AskedAll → Type 0
Gives tells by v w requests found out out' asked.Served = (over : List Entry) × Asks tells by v w requests (Decides over) found out out' all.Answered
Gives tells by v w requests found out out' (asked.DiskFault before after) = Asks tells by v w requests (Fails before after) found out out' (all.DiskFault before after)
Gives tells by v w requests found out out' (asked.Worn faults) = (faults ≡ MAX_FAULTS) × Asks tells by v w requests Refuses found out out' (all.Worn faults)
Gives tells by v w requests found out out' (asked.Busy word) = ⊥

-- what else a pass knows behind a turn that its one swap found free
abbrev pub GoesOn : View Origin Line → View Origin Line → Type 0
GoesOn v w = w ≡ gave (took w.seen v)

-- the same, behind any number of swaps that found it held
abbrev pub GoesOnAtLast : View Origin Line → View Origin Line → Type 0
GoesOnAtLast v w = (more : List (ℕ × ℕ)) × AllByRecursion (λ (f : ℕ × ℕ). f ≡ (0, 1)) more × (w ≡ gave (took w.seen (found_more more v)))

-- how they were answered where the pass tried once: it is Busy where its swap found the turn held, and then nothing was asked
abbrev pub Tries : {D : Type 0} → DiskTells D → ℕ → View Origin Line → View Origin Line → List Request → List ℕ → List ℕ → List ℕ → AskedAll → Type 0
Tries tells by v w requests found out out' (asked.Busy word) = (word ≡ 1) × (w ≡ found_one 0 1 v) × (found ≡ []) × (out' ≡ out)
Tries tells by v w requests found out out' other = GoesOn v w × Gives tells by v w requests found out out' other

-- the answer to one request, as that to a turn
abbrev pub all_asked : Asked → AskedAll
all_asked (one.Served at) = asked.Served
all_asked (one.Busy word) = asked.Busy word
all_asked (one.DiskFault before after) = asked.DiskFault before after
all_asked (one.Worn faults) = asked.Worn faults

-- and the places that it tells
abbrev pub place_asked : Asked → List ℕ
place_asked (one.Served at) = at ∷ []
place_asked other = []

-- How a vault takes in an entry that another vault has at a place of its list.
use Rattle.std.specs.Prelude.{◌≡◌, ◌⊎◌, ℕ, ◌<◌, List, [], ◌∷◌, length, Option, None, Some, false, slice_get}
use Rattle.nb_units.specs.declared.charter.Charter.{Charter}
use Rattle.nb_port.specs.Tells.{DiskTells}
use Rattle.nb_entry.specs.declared.entry.Entry.{Entry}
use Rattle.nb_book.specs.Legal.{NextUnder}
use Rattle.nb_turns.specs.declared.limits.TheConstants.{MAX_FAULTS}
use Rattle.nb_turns.specs.Turns.{Request, House, Decides, Fails, Refuses}
use Rattle.nb_vault.specs.declared.answer.AnswerAll.{AnswerAll}
use Rattle.nb_vault.specs.declared.answer.AnswerAll.TheVariants as all
use Rattle.nb_vault.specs.declared.taking.TakeIn.{TakeIn}
use Rattle.nb_vault.specs.declared.taking.TakeIn.TheVariants as takes
use Rattle.nb_vault.specs.Vaults.{Chronicled, WentBy, entries_in}

-- the entry may come next in a journal of this charter, and there is room for it
abbrev pub MayFollow : Charter → ℕ → List Entry → Entry → Type 0
MayFollow charter cap over e = NextUnder charter.version charter.rate over e × (length over < cap)

-- what comes of an entry for this place, by the entries that stand here, where the disk does not fail
abbrev pub IsJudged : Charter → ℕ → List Entry → ℕ → Entry → TakeIn → Type 0
IsJudged charter cap over place e takes.Same = slice_get over place ≡ Some e
IsJudged charter cap over place e takes.Other = (place < length over) × (slice_get over place ≡ Some e → ⊥)
IsJudged charter cap over place e takes.Ahead = length over < place
IsJudged charter cap over place e takes.Illegal = (place ≡ length over) × (MayFollow charter cap over e → ⊥)
IsJudged charter cap over place e takes.Taken = (place ≡ length over) × MayFollow charter cap over e
IsJudged charter cap over place e _ = ⊥

-- what is recorded of it
abbrev pub entry_taken : Entry → TakeIn → Option Entry
entry_taken e takes.Taken = Some e
entry_taken e _ = None

-- a house that records what it is told, whatever it is asked, and says nothing
abbrev pub house_told : Option Entry → House
house_told told = record { rules = λ (over : List Entry) (request : Request). record { reply = []; entry = told }; fault = λ (before after : ℕ). []; worn = [] }

-- the one request of its turn
abbrev pub nothing_asked : List Request
nothing_asked = record { kind = 0; body = []; moment = 0 } ∷ []

-- what was in doubt is settled, and the entry is judged by what stands then: it is recorded, or nothing is. Where nothing was in doubt and nothing
-- is recorded, no call of the disk failed
pub record DecidesIn {D : Type 0} (tells : DiskTells D) (old new : Chronicled D) (by place : ℕ) (e : Entry) (how : TakeIn) : Type 0 where
  pub over : List Entry
  pub went : WentBy (house_told (entry_taken e how)) tells old new by nothing_asked (Decides over) (length over ∷ []) [] []
  pub judged : IsJudged old.origin.charter old.origin.cap over place e how
  pub still : old.stale ≡ false → entry_taken e how ≡ None → tells.faults new.disk ≡ tells.faults old.disk

-- the entry is the next one behind what stands after settling, and could not be made durable
pub record DoubtsIn {D : Type 0} (tells : DiskTells D) (old new : Chronicled D) (by place : ℕ) (e : Entry) (before after : ℕ) : Type 0 where
  pub went : WentBy (house_told (Some e)) tells old new by nothing_asked (Fails before after) [] [] []
  pub judged : IsJudged old.origin.charter old.origin.cap (entries_in new) place e takes.Taken

-- by cases on the answer. Where the disk failed, what was in doubt could not be settled: that is a turn which failed though it had nothing to
-- record. Or the entry itself could not be made durable
abbrev pub TakesIn : {D : Type 0} → DiskTells D → Chronicled D → Chronicled D → ℕ → ℕ → Entry → TakeIn → Type 0
TakesIn tells old new by place e (takes.DiskFault before after) =
    WentBy (house_told None) tells old new by nothing_asked (Fails before after) [] [] [] ⊎ DoubtsIn tells old new by place e before after
TakesIn tells old new by place e (takes.Worn faults) = (faults ≡ MAX_FAULTS) × WentBy (house_told None) tells old new by nothing_asked Refuses [] [] []
TakesIn tells old new by place e how = DecidesIn tells old new by place e how

-- the answer, as one to requests
abbrev pub all_in : TakeIn → AnswerAll
all_in (takes.DiskFault before after) = all.DiskFault before after
all_in (takes.Worn faults) = all.Worn faults
all_in how = all.Answered

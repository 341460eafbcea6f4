-- One gate opens all entries of a turn, or none of them.
use Rattle.std.specs.Prelude.{◌≡◌, ◌⊎◌, ℕ, List, ◌++◌}
use Rattle.nb_port.specs.Tells.{DiskTells}
use Rattle.nb_entry.specs.declared.entry.Entry.{Entry}
use Rattle.nb_journal.specs.Time.{LeavesOnly}
use Rattle.nb_turns.specs.Turns.{Request, Outcome, Decides, Fails, Refuses, SettlesInto, Doubts, recorded}
use Rattle.nb_vault.specs.Holdings.{StandsFor}
use Rattle.nb_vault.specs.Vaults.{Chronicled, StandsForState, Went, entries_in, house_in, state_of}

-- the entries over which a turn that went so writes what it records: those that it was decided over
abbrev pub IsWrittenOver : {D : Type 0} → Chronicled D → Chronicled D → List Request → Outcome → List Entry → Type 0
IsWrittenOver old new requests (Decides over) entries = entries ≡ over
IsWrittenOver old new requests (Fails before after) entries = Doubts (house_in old) (state_of old) requests (state_of new) × (entries ≡ entries_in new)
IsWrittenOver old new requests Refuses entries = ⊥

-- these are the entries that the turn was decided over, which are those from before, without what was in doubt or with it, and all that
-- the verdicts over them record
pub record HasAll {D : Type 0} (old new : Chronicled D) (requests : List Request) (outcome : Outcome) (entries : List Entry) : Type 0 where
  pub over : List Entry
  pub of_turn : IsWrittenOver old new requests outcome over
  pub settled : SettlesInto (state_of old) over
  pub all : entries ≡ over ++ recorded (house_in old) over requests

-- the image stands for the entries from before, without what was in doubt or with it, and has none of those of a turn, or all
pub record HasNoneOrAll {D : Type 0} (old new : Chronicled D) (requests : List Request) (outcome : Outcome) (image : List ℕ) : Type 0 where
  pub entries : List Entry
  pub stands : StandsFor old.origin.charter old.origin.cap entries image
  pub whole : SettlesInto (state_of old) entries ⊎ HasAll old new requests outcome entries

-- so it is of each image that a stop leaves at any moment of a turn
abbrev pub OneGate : {D : Type 0} → DiskTells D → Type 0
OneGate {D} tells =
    (old new : Chronicled D) (by : ℕ) (requests : List Request) (outcome : Outcome) (found out out' : List ℕ)
    → Went tells old new by requests outcome found out out' → new.origin ≡ old.origin
    → LeavesOnly tells old.disk new.disk (λ image. StandsForState old image ⊎ StandsForState new image)
    → LeavesOnly tells old.disk new.disk (HasNoneOrAll old new requests outcome)

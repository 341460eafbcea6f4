-- A primary whose list grows, the records that it ever shipped, and a standby that these reach in any order and any number of times, whose
-- disk may fail at each of them, and which may stop at any moment.
use Rattle.std.specs.Prelude.{◌≡◌, ◌⊎◌, ℕ, Bool, List, [], ◌∷◌, ◌++◌, None, Some, slice_get, if◌then◌else◌}
use Rattle.std.specs.List.{AllByRecursion}
use Rattle.nb_units.specs.declared.charter.Charter.{Charter}
use Rattle.nb_entry.specs.declared.entry.Entry.{Entry}
use Rattle.nb_book.specs.Legal.{NextUnder}
use Rattle.nb_turns.specs.declared.limits.TheConstants.{MAX_FAULTS}
use Rattle.nb_turns.specs.Turns.{State, Decides, Fails, Refuses, Turn}
use Rattle.nb_vault.specs.declared.taking.TakeIn.{TakeIn}
use Rattle.nb_vault.specs.declared.taking.TakeIn.TheVariants as takes
use Rattle.nb_vault.specs.Taking.{IsJudged, entry_taken, house_told, nothing_asked}

-- ---- the standby

-- what a standby with this charter and cap may come to from old, where an entry for a place is taken in so: as a vault does (what was in
-- doubt is settled first, and either may fail)
abbrev pub TakesTo : Charter → ℕ → State → ℕ → Entry → TakeIn → State → Type 0
TakesTo charter cap old place e (takes.DiskFault before after) new =
    Turn (house_told None) old nothing_asked (Fails before after) new
    ⊎ (Turn (house_told (Some e)) old nothing_asked (Fails before after) new × IsJudged charter cap new.entries place e takes.Taken)
TakesTo charter cap old place e (takes.Worn faults) new = (faults ≡ MAX_FAULTS) × Turn (house_told None) old nothing_asked Refuses new
TakesTo charter cap old place e how new =
    (over : List Entry) × Turn (house_told (entry_taken e how)) old nothing_asked (Decides over) new × IsJudged charter cap over place e how

-- the standby behind a stop and a new start: what was in doubt is there, or it is not, and no turn failed yet
abbrev pub restarted : State → Bool → State
restarted old kept = record { entries = if kept then old.entries ++ old.doubt else old.entries; doubt = []; faults = 0 }

-- ---- the world

-- an entry and its place, as it was shipped
pub record Sent : Type 0 where
  pub place : ℕ
  pub entry : Entry

-- the primary's list, what it ever shipped, and the standby
pub record World : Type 0 where
  pub primary : List Entry
  pub sent : List Sent
  pub standby : State

-- the primary records an entry; it ships the one at a place; what was shipped as this number, from 0, reaches the standby, and is taken in so;
-- the standby stops, and what was in doubt is there or not
pub data Event : Type 0 where
  Commits : Entry → Event
  Ships : ℕ → Event
  Delivers : ℕ → TakeIn → Event
  Stops : Bool → Event

-- by the event, from one world to another. The primary's entries are legal under its charter
abbrev pub Steps : Charter → ℕ → World → Event → World → Type 0
Steps charter cap old (Commits e) new =
    NextUnder charter.version charter.rate old.primary e × (new ≡ record { primary = old.primary ++ e ∷ []; sent = old.sent; standby = old.standby })
Steps charter cap old (Ships i) new =
    (e : Entry) × (slice_get old.primary i ≡ Some e) × (new ≡ record { primary = old.primary; sent = old.sent ++ record { place = i; entry = e } ∷ []; standby = old.standby })
Steps charter cap old (Delivers k how) new =
    (s : Sent) × (slice_get old.sent k ≡ Some s) × (state : State) × TakesTo charter cap old.standby s.place s.entry how state
    × (new ≡ record { primary = old.primary; sent = old.sent; standby = state })
Steps charter cap old (Stops kept) new = new ≡ record { primary = old.primary; sent = old.sent; standby = restarted old.standby kept }

-- these events happen one after another, and the world comes to these worlds
abbrev pub Happens : Charter → ℕ → World → List Event → List World → Type 0
Happens charter cap first [] [] = Unit {0}
Happens charter cap first (event ∷ more) (next ∷ worlds) = Steps charter cap first event next × Happens charter cap next more worlds
Happens charter cap first [] (next ∷ worlds) = ⊥
Happens charter cap first (event ∷ more) [] = ⊥

-- ---- what is promised

-- one list begins with the other
abbrev pub BeginsWith : List Entry → List Entry → Type 0
BeginsWith all front = (more : List Entry) × (all ≡ front ++ more)

-- the standby's list is a front of the primary's, and so it is with what is in doubt
abbrev pub IsFront : World → Type 0
IsFront world = BeginsWith world.primary world.standby.entries × BeginsWith world.primary (world.standby.entries ++ world.standby.doubt)

-- where it begins: each record that was shipped by then is of the primary's list, the standby's list is a front of it, and nothing is in doubt
pub record Starts (world : World) : Type 0 where
  pub sent : AllByRecursion (λ (s : Sent). slice_get world.primary s.place ≡ Some s.entry) world.sent
  pub front : BeginsWith world.primary world.standby.entries
  pub none : world.standby.doubt ≡ []

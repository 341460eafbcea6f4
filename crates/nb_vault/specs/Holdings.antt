-- What an image of the disk stands for: a journal with a charter and a cap, whose items spell a Legal list of entries.
use Rattle.std.specs.Prelude.{◌≡◌, ◌⊎◌, ℕ, ◌+◌, ◌≤◌, List, [], ◌∷◌, ◌++◌, length, map, Option, IfSome}
use Rattle.std.specs.List.{flat_map, AllByRecursion}
use Rattle.nb_units.specs.declared.charter.Charter.{Charter}
use Rattle.nb_entry.specs.declared.entry.Entry.{Entry}
use Rattle.nb_book.specs.Legal.{LegalUnder}
use Rattle.nb_entry.specs.Spelling.{entries_bytes, Spells}
use Rattle.nb_port.specs.Disk.{wrote_at, MayTear}
use Rattle.nb_journal.specs.Layout.{front_bytes, appended_bytes, up_to_gate, zeros_behind, AreTerms}
use Rattle.nb_journal.specs.Stands.{Stands}

-- the items spell these entries, from 1 to 32 each
pub record Joins (items : List (List ℕ)) (entries : List Entry) : Type 0 where
  pub groups : List (List Entry)
  pub spelled : items ≡ map entries_bytes groups
  pub each : AllByRecursion (λ (group : List Entry). Spells (entries_bytes group) group) groups
  pub joined : entries ≡ flat_map (λ (group : List Entry). group) groups

-- the image is a journal with this charter, this cap and these entries, which are Legal under its version and its rate
pub record StandsFor (charter : Charter) (cap : ℕ) (entries : List Entry) (image : List ℕ) : Type 0 where
  pub items : List (List ℕ)
  pub terms : AreTerms cap charter
  pub stands : Stands (front_bytes cap charter) items image
  pub joins : Joins items entries
  pub legal : LegalUnder charter.version charter.rate entries
  pub within : length entries ≤ cap

-- it stands for the entries alone, or for these and those in doubt
abbrev pub StandsForEither : Charter → ℕ → List Entry → List Entry → List ℕ → Type 0
StandsForEither charter cap entries doubt image = StandsFor charter cap entries image ⊎ StandsFor charter cap (entries ++ doubt) image

-- where one more item is written: at the gate behind the items that the content stands for
pub record IsGate (charter : Charter) (cap : ℕ) (entries : List Entry) (content : Option (List ℕ)) (gate : ℕ) : Type 0 where
  pub items : List (List ℕ)
  pub joins : Joins items entries
  pub stands : IfSome content (Stands (front_bytes cap charter) items)
  pub place : gate ≡ length (up_to_gate (front_bytes cap charter) items)

-- what is written to record these behind the entries, for the content before and after: nothing where there are none, or one item that is appended
abbrev pub WritesItem : Charter → ℕ → List Entry → List Entry → Option (List ℕ) → Option (List ℕ) → Type 0
WritesItem charter cap entries [] old new = new ≡ old
WritesItem charter cap entries (entry ∷ more) old new =
    (gate : ℕ) × IsGate charter cap entries old gate × (new ≡ wrote_at old gate (appended_bytes gate (entries_bytes (entry ∷ more))))

-- what was written where the disk failed: bytes in the range of such an item may have changed, and no others
abbrev pub TearsItem : Charter → ℕ → List Entry → List Entry → Option (List ℕ) → Option (List ℕ) → Type 0
TearsItem charter cap entries group old new =
    (gate : ℕ) × IsGate charter cap entries old gate × MayTear old new gate (length (entries_bytes group) + 6 + zeros_behind gate (entries_bytes group))

-- an image stands for at most one list
abbrev pub OneList : Type 0
OneList = (image : List ℕ) (charter charter' : Charter) (cap cap' : ℕ) (entries entries' : List Entry) → StandsFor charter cap entries image → StandsFor charter' cap' entries' image
    → (cap ≡ cap') × (charter ≡ charter') × (entries ≡ entries')

-- The entries of a house, in memory and on the disk, between two turns and within one, over what a disk tells.
use Rattle.std.specs.Prelude.{◌≡◌, ◌≢◌, ℕ, ◌≤◌, true, false, Option, List, [], ◌++◌, length, take, Result, Ok, Err, if◌then◌else◌, vec_capacity}
use Rattle.std.specs.List.{AllByRecursion}
use Rattle.nb_units.specs.declared.charter.Charter.{Charter}
use Rattle.nb_port.specs.Tells.{DiskTells}
use Rattle.nb_port.specs.Faults.{Rose}
use Rattle.nb_entry.specs.declared.entry.Entry.{Entry}
use Rattle.nb_entry.specs.declared.spelling.TheConstants.{MAX_ITEM_ENTRIES}
use Rattle.nb_book.specs.Legal.{LegalUnder}
use Rattle.nb_entry.specs.Spelling.{entries_bytes, IsEntry}
use Rattle.nb_journal.specs.declared.journal.Settled.{Settled}
use Rattle.nb_journal.specs.declared.journal.Settled.TheVariants as settles
use Rattle.nb_journal.specs.Layout.{front_bytes, AreTerms}
use Rattle.nb_journal.specs.States.{AtRest, InDoubt}
use Rattle.nb_turns.specs.declared.limits.TheConstants.{MAX_REQUESTS}
use Rattle.nb_vault.specs.declared.records.Records.{Records}
use Rattle.nb_vault.specs.declared.records.Counts.{Counts}
use Rattle.nb_vault.specs.declared.records.TheConstants.{ROOM}
use Rattle.nb_vault.specs.Holdings.{Joins, StandsForEither, WritesItem, TearsItem}

-- the memory of a turn: it has room for the entries of an item, for their bytes, and for the places of its requests
pub record HasRoom {D : Type 0} (r : Records D) : Type 0 where
  pub group : MAX_ITEM_ENTRIES ≤ vec_capacity r.group
  pub item : ROOM ≤ vec_capacity r.item
  pub places : MAX_REQUESTS ≤ vec_capacity r.places

-- the items are those of a journal with these entries, under the charter and the cap of the records
pub record Carries {D : Type 0} (r : Records D) (entries : List Entry) (items : List (List ℕ)) : Type 0 where
  pub joins : Joins items entries
  pub terms : AreTerms r.book.cap r.charter
  pub cap : r.journal.cap ≡ r.book.cap
  pub room : r.journal.room ≡ ROOM
  pub legal : LegalUnder r.charter.version r.charter.rate entries
  pub count : length entries ≤ r.book.cap

-- these entries may be the next item of a journal of this charter
pub record IsGroup (charter : Charter) (cap : ℕ) (entries group : List Entry) : Type 0 where
  pub legal : LegalUnder charter.version charter.rate (entries ++ group)
  pub within : length (entries ++ group) ≤ cap
  pub each : AllByRecursion IsEntry group
  pub most : length group ≤ MAX_ITEM_ENTRIES

-- the group is in doubt, behind these items
pub record IsDoubted {D : Type 0} (tells : DiskTells D) (r : Records D) (items : List (List ℕ)) : Type 0 where
  pub some : r.group.items ≢ []
  pub group : IsGroup r.charter r.book.cap r.book.entries r.group.items
  pub rest : InDoubt tells (front_bytes r.book.cap r.charter) items (entries_bytes r.group.items) r.journal

-- between two turns: the journal holds the entries of the book, and where it is stale the group is in doubt
pub record Rests {D : Type 0} (tells : DiskTells D) (r : Records D) : Type 0 where
  pub items : List (List ℕ)
  pub carries : Carries r r.book.entries items
  pub has : HasRoom r
  pub fresh : r.journal.stale ≡ false → AtRest tells (front_bytes r.book.cap r.charter) items r.journal
  pub doubt : r.journal.stale ≡ true → IsDoubted tells r items

-- the entries before a turn
abbrev pub over_of : {D : Type 0} → Records D → List Entry
over_of r = take r.base r.book.entries

-- within a turn: the journal holds the first entries of the book, the group is those behind them, and its bytes are laid out
pub record Gathers {D : Type 0} (tells : DiskTells D) (r : Records D) : Type 0 where
  pub items : List (List ℕ)
  pub carries : Carries r (over_of r) items
  pub has : HasRoom r
  pub rest : AtRest tells (front_bytes r.book.cap r.charter) items r.journal
  pub base : r.base ≤ length r.book.entries
  pub whole : r.book.entries ≡ over_of r ++ r.group.items
  pub group : IsGroup r.charter r.book.cap (over_of r) r.group.items
  pub bytes : r.item.items ≡ entries_bytes r.group.items

-- the entries in doubt
abbrev pub doubt_of : {D : Type 0} → Records D → List Entry
doubt_of r = if r.journal.stale then r.group.items else []

-- the disk under the journal of these records
abbrev pub disk_under : {D : Type 0} → Records D → D
disk_under r = r.journal.disk

-- an image stands for these entries, without those or with them
abbrev pub WithOrWithout : {D : Type 0} → Records D → List Entry → List Entry → List ℕ → Type 0
WithOrWithout r entries more image = StandsForEither r.charter r.book.cap entries more image

-- the same of the entries in doubt
abbrev pub EitherOf : {D : Type 0} → Records D → List ℕ → Type 0
EitherOf r image = WithOrWithout r r.book.entries (doubt_of r) image

-- charter and cap stay
pub record SameTerms {D : Type 0} (old new : Records D) : Type 0 where
  pub charter : new.charter ≡ old.charter
  pub cap : new.book.cap ≡ old.book.cap

-- the counts of the disk's faults at the beginning of a call that failed and at its end
pub record Failed {D : Type 0} (tells : DiskTells D) (old new : Records D) (counts : Counts) : Type 0 where
  pub before : counts.before ≡ tells.faults (disk_under old)
  pub after : counts.after ≡ tells.faults (disk_under new)
  pub rose : Rose counts.before counts.after

-- what is kept of the group that was in doubt
abbrev pub kept_of : Settled → List Entry → List Entry
kept_of settles.Kept group = group
kept_of other group = []

-- by cases on the result: what was in doubt is kept, or is not there, or is still in doubt
abbrev pub RecordsSettle : {D : Type 0} → DiskTells D → Records D → Records D → Result Settled Counts → Type 0
RecordsSettle tells old new (Ok settled) =
    (new.journal.stale ≡ false) × (new.book.entries ≡ old.book.entries ++ kept_of settled old.group.items) × (settled ≡ settles.Kept → old.journal.stale ≡ true)
RecordsSettle tells old new (Err counts) =
    (old.journal.stale ≡ true) × (new.journal.stale ≡ true) × (new.book.entries ≡ old.book.entries) × Failed tells old new counts

-- by cases on the result: the group is recorded, or it is in doubt and the entries are those before it
abbrev pub RecordGives : {D : Type 0} → DiskTells D → Records D → Records D → Result (Unit {0}) Counts → Type 0
RecordGives tells old new (Ok done) = (new.journal.stale ≡ false) × (new.book.entries ≡ old.book.entries)
RecordGives tells old new (Err counts) =
    (old.group.items ≢ []) × (new.journal.stale ≡ true) × (new.book.entries ≡ over_of old) × Failed tells old new counts

-- what was written of it, for the content before and after
abbrev pub RecordWrites : {D : Type 0} → Records D → Option (List ℕ) → Option (List ℕ) → Result (Unit {0}) Counts → Type 0
RecordWrites old before after (Ok done) = WritesItem old.charter old.book.cap (over_of old) old.group.items before after
RecordWrites old before after (Err counts) = TearsItem old.charter old.book.cap (over_of old) old.group.items before after

-- A vault from within: its fields, and what holds of them. For the contracts of private functions.
use Rattle.std.specs.Prelude.{◌≡◌, ◌≢◌, ◌⊎◌, ℕ, ◌+◌, ◌*◌, ◌≤◌, false, true, List, [], ◌∷◌, ◌++◌, length, take, map, Result, Ok, Err, vec_capacity}
use Rattle.std.specs.Global.{Vec}
use Rattle.nb_port.specs.Tells.{DiskTells}
use Rattle.nb_port.specs.Faults.{Backed}
use Rattle.nb_entry.specs.declared.entry.Entry.{Entry}
use Rattle.nb_escrow.specs.Head.{head_of}
use Rattle.nb_turns.specs.declared.limits.TheConstants.{MAX_FAULTS, MAX_REQUESTS}
use Rattle.nb_turns.specs.declared.line.Line.{Line}
use Rattle.nb_turns.specs.declared.line.Line.TheVariants.{Commit, Adopted, Doubt, Fault}
use Rattle.nb_turns.specs.Lines.{IsClosed, NeverFall, Sound, adopts, commits, doubts, entries_of, failures_in, faults_of, next_turn, open_doubt}
use Rattle.nb_turns.specs.Laws.{AreLegal}
use Rattle.nb_vault.specs.declared.answer.Answer.{Answer}
use Rattle.nb_vault.specs.declared.answer.Answer.TheVariants as one
use Rattle.nb_vault.specs.declared.answer.AnswerAll.{AnswerAll}
use Rattle.nb_vault.specs.declared.answer.AnswerAll.TheVariants as all
use Rattle.nb_vault.specs.declared.parts.Parts.{Parts}
use Rattle.nb_vault.specs.declared.records.Counts.{Counts}
use Rattle.nb_vault.specs.declared.telling.Fate.{Fate}
use Rattle.nb_vault.specs.declared.telling.Fate.TheVariants as fates
use Rattle.nb_vault.specs.Records.{Rests, disk_under, doubt_of, over_of, SameTerms, Failed}
use Rattle.nb_vault.specs.Vaults.{Chronicled, most_lines}

-- what contracts see of it
abbrev pub seen_as : {D : Type 0} → Parts D → Chronicled D
seen_as p = record {
  origin = record { entries = take p.opening p.records.book.entries; charter = p.records.charter; cap = p.records.book.cap; faults = p.count };
  lines = p.lines.items;
  stale = p.records.journal.stale;
  disk = p.records.journal.disk;
}

-- the entries at opening
abbrev pub opening_of : {D : Type 0} → Parts D → List Entry
opening_of p = take p.opening p.records.book.entries

-- there is room for the lines of all that may come: one for each entry, and for each turn that may fail those of a doubt and a fault
pub record HasLines {D : Type 0} (p : Parts D) (entries : List Entry) : Type 0 where
  pub told : length p.lines.items + p.opening ≤ length entries + (MAX_REQUESTS + 1) * p.faults
  pub room : most_lines p.records.book.cap ≤ vec_capacity p.lines

-- how the entries came to be, and those in doubt, as the lines tell it; the disk's counts at opening and now
pub record Tells (opening entries doubt : List Entry) (from to : ℕ) (lines : List Line) : Type 0 where
  pub listed : entries ≡ entries_of opening lines
  pub doubt_is : (doubt ≡ []) ⊎ (doubt ≡ open_doubt lines)
  pub closed : IsClosed lines
  pub sound : Sound lines
  pub backed : Backed from (failures_in lines) to
  pub turns : NeverFall lines
  pub numbers : next_turn lines ≤ length lines

-- the records rest, and the lines tell how they came to be
pub record IsVault {D : Type 0} (tells : DiskTells D) (p : Parts D) : Type 0 where
  pub rests : Rests tells p.records
  pub opened : p.opening ≤ length p.records.book.entries
  pub told : Tells (opening_of p) p.records.book.entries (doubt_of p.records) p.count (tells.faults (disk_under p.records)) p.lines.items
  pub has : HasLines p p.records.book.entries
  pub faults_are : p.faults ≡ faults_of p.lines.items
  pub few : p.faults ≤ MAX_FAULTS
  pub keys : p.head ≡ head_of p.records.charter
  pub lawful : AreLegal p.records.book.cap (opening_of p) p.lines.items
  pub open_most : length (open_doubt p.lines.items) ≤ MAX_REQUESTS

-- and there is room for the drafts of a turn whose replies the vault writes
pub record IsWhole {D : Type 0} (tells : DiskTells D) (p : Parts D) (drafts : Vec (List ℕ)) : Type 0 where
  pub vault : IsVault tells p
  pub room : MAX_REQUESTS ≤ vec_capacity drafts

-- what does not change
pub record SameOrigin {D : Type 0} (old new : Parts D) : Type 0 where
  pub terms : SameTerms old.records new.records
  pub opening : new.opening ≡ old.opening
  pub count : new.count ≡ old.count
  pub head : new.head ≡ old.head

-- ---- lines

-- the line of an entry, by what became of it
abbrev pub line_of : Fate → ℕ → ℕ → Entry → Line
line_of fates.Kept by turn entry = Adopted by turn entry
line_of fates.Recorded by turn entry = Commit by turn entry
line_of fates.InDoubt by turn entry = Doubt by turn entry

-- the lines of several
abbrev pub lines_of : Fate → ℕ → ℕ → List Entry → List Line
lines_of fate by turn entries = map (λ (entry : Entry). line_of fate by turn entry) entries

-- ---- the steps of a turn

-- what was in doubt is settled, and of it these are kept
pub record Readied {D : Type 0} (old new : Parts D) (by turn : ℕ) : Type 0 where
  pub kept : List Entry
  pub kept_is : (kept ≡ []) ⊎ (kept ≡ doubt_of old.records)
  pub most : length kept ≤ MAX_REQUESTS
  pub fresh : new.records.journal.stale ≡ false
  pub entries : new.records.book.entries ≡ old.records.book.entries ++ kept
  pub lines : new.lines.items ≡ old.lines.items ++ adopts by turn kept
  pub faults : new.faults ≡ old.faults

-- it could not be, and the fault is told
pub record Unready {D : Type 0} (tells : DiskTells D) (old new : Parts D) (by turn : ℕ) (counts : Counts) : Type 0 where
  pub was : old.records.journal.stale ≡ true
  pub stale : new.records.journal.stale ≡ true
  pub group : new.records.group.items ≡ old.records.group.items
  pub entries : new.records.book.entries ≡ old.records.book.entries
  pub lines : new.lines.items ≡ old.lines.items ++ Fault by turn counts.before counts.after ∷ []
  pub failed : Failed tells old.records new.records counts
  pub faults : new.faults ≡ old.faults + 1

-- by cases on the result
abbrev pub ReadyGives : {D : Type 0} → DiskTells D → Parts D → Parts D → ℕ → ℕ → Result (Unit {0}) Counts → Type 0
ReadyGives tells old new by turn (Ok done) = Readied old new by turn
ReadyGives tells old new by turn (Err counts) = Unready tells old new by turn counts

-- the group is recorded
pub record Committed {D : Type 0} (old new : Parts D) (by turn : ℕ) : Type 0 where
  pub fresh : new.records.journal.stale ≡ false
  pub entries : new.records.book.entries ≡ over_of old.records ++ old.records.group.items
  pub lines : new.lines.items ≡ old.lines.items ++ commits by turn old.records.group.items
  pub faults : new.faults ≡ old.faults

-- it could not be made durable: it is in doubt, and the fault is told
pub record Doubted {D : Type 0} (tells : DiskTells D) (old new : Parts D) (by turn : ℕ) (counts : Counts) : Type 0 where
  pub some : old.records.group.items ≢ []
  pub stale : new.records.journal.stale ≡ true
  pub group : new.records.group.items ≡ old.records.group.items
  pub entries : new.records.book.entries ≡ over_of old.records
  pub lines : new.lines.items ≡ old.lines.items ++ (doubts by turn old.records.group.items ++ Fault by turn counts.before counts.after ∷ [])
  pub failed : Failed tells old.records new.records counts
  pub faults : new.faults ≡ old.faults + 1

-- by cases on the result
abbrev pub CommitGives : {D : Type 0} → DiskTells D → Parts D → Parts D → ℕ → ℕ → Result (Unit {0}) Counts → Type 0
CommitGives tells old new by turn (Ok done) = Committed old new by turn
CommitGives tells old new by turn (Err counts) = Doubted tells old new by turn counts

-- the places that are handed out with an answer
abbrev pub handed_in : List ℕ → AnswerAll → List ℕ
handed_in places all.Answered = places
handed_in places other = []

-- the answer to one request, by that to its turn and its place
abbrev pub one_of : AnswerAll → ℕ → Answer
one_of all.Answered at = one.Answered at
one_of (all.DiskFault before after) at = one.DiskFault before after
one_of (all.Worn faults) at = one.Worn faults

-- What a drill does: a journal is made, the frames that a seed gives are answered as a batch's are, and one line tells what came of it.
use Rattle.std.specs.Prelude.{◌≡◌, ◌≢◌, ℕ, ◌+◌, ◌≤◌, Bool, true, false, ◌⊎◌, List, [], ◌++◌, Option, None, Some, codes, map}
use Rattle.std.specs.List.{count_by, sum_by, filter_map}
use Rattle.std.specs.Fmt.{decimal}
use Rattle.std.specs.Io.KnownBytes.{Appends}
use Rattle.nb_port.specs.Tells.{DiskTells}
use Rattle.nb_units.specs.Frames.{Frame}
use Rattle.nb_entry.specs.declared.entry.Entry.{Entry}
use Rattle.nb_entry.specs.declared.entry.Entry.TheVariants.{Fund, Paid, Charged, Refused}
use Rattle.nb_book.specs.Money.{accounts, balance, total, fees}
use Rattle.nb_journal.specs.declared.making.InitFault.{InitFault}
use Rattle.nb_journal.specs.declared.making.InitFault.TheVariants as inits
use Rattle.nb_journal.specs.Making.{InitFails, without_fee}
use Rattle.nb_turns.specs.declared.line.Line.{Line}
use Rattle.nb_turns.specs.Lines.{entry_of}
use Rattle.nb_turns.specs.Turns.{Request, Answered}
use Rattle.nb_vault.specs.Holdings.{StandsFor}
use Rattle.nb_batch.specs.declared.answering.Answerer.TheVariants.{House}
use Rattle.nb_batch.specs.Batch.{Outside}
use Rattle.nb_batch.specs.Send.{SentPart}
use Rattle.nb_play.specs.declared.frames.TheConstants.{MOMENT}
use Rattle.nb_play.specs.Drill.{head_of}
use Rattle.nb_play.specs.Feed.{bytes_from, cap_of, count_of, frames_of}
use Rattle.nb_commands.specs.declared.ending.Ending.{Ending}
use Rattle.nb_commands.specs.declared.ending.TheConstants.{CLEAN, SINK_FAILED, OUT_OF_MEMORY, DISK_FAILED, NOT_MADE}
use Rattle.nb_answers.specs.declared.tally.Tally.{Tally}
use Rattle.nb_commands.specs.Ending.{at_no_place}
use Rattle.nb_commands.specs.Init.{IsMade}
use Rattle.nb_answers.specs.Batch.{Batch, NotOpened}

-- ---- the line

-- whether an entry pays an order
abbrev pub is_paid : Entry → Bool
is_paid (Paid digest epoid consumer merchant product price cacct macct moment key) = true
is_paid (Charged digest epoid consumer merchant product price fee cacct macct moment key) = true
is_paid other = false

-- whether an entry refuses an order
abbrev pub is_refused : Entry → Bool
is_refused (Refused digest epoid consumer merchant product price code a b moment) = true
is_refused other = false

-- the sum of all balances, with the fees that the house keeps
abbrev pub held : List Entry → ℕ
held entries = sum_by (balance entries) (accounts entries) + fees entries

-- how many orders there were, how many of them the entries pay and refuse, and what the entries leave in all accounts and to the house, with a line feed
abbrev pub line_of : ℕ → List Entry → List ℕ
line_of orders entries =
    codes "orders " ++ decimal orders ++ codes " paid " ++ decimal (count_by is_paid entries) ++ codes " refused " ++ decimal (count_by is_refused entries)
    ++ codes " total " ++ decimal (held entries) ++ codes "\n"

-- ---- the requests

-- the requests of a drill: its frames, each at the one moment
abbrev pub requests_of : ℕ → ℕ → List Request
requests_of seed orders = map (λ (f : Frame). record { kind = f.kind; body = f.body; moment = MOMENT }) (frames_of seed orders)

-- what a batch of them begins with: their bytes are what is left, nobody hears the replies, and no moment was given yet
abbrev pub fed : ℕ → ℕ → Outside
fed seed orders = record { left = Some (bytes_from seed 0 (count_of orders)); sent = None; moments = Some [] }

-- ---- the whole drill

-- how the run ends where making the journal did not come to its end
abbrev pub unmade : InitFault → Ending
unmade (inits.DiskFault before after) = at_no_place DISK_FAILED
unmade (inits.LookFailed before after) = at_no_place DISK_FAILED
unmade other = at_no_place NOT_MADE

-- the disk has a journal, or failed as it was looked at or as one was made
pub record NotMade {D : Type 0} (tells : DiskTells D) (old new : D) (seed orders : ℕ) (ending : Ending) : Type 0 where
  pub fault : InitFault
  pub ends : ending ≡ unmade fault
  pub why : InitFails tells old new (cap_of orders) (without_fee (head_of seed)) fault

-- the content is the drill's journal, without entries
abbrev pub IsFresh : Option (List ℕ) → ℕ → ℕ → Type 0
IsFresh content seed orders = (image : List ℕ) × (content ≡ Some image) × StandsFor (without_fee (head_of seed)) (cap_of orders) [] image

-- the frames were answered over the disk on which the journal was made, for what the sink told before and tells after
pub record Drilled {D : Type 0} (tells : DiskTells D) (made new : D) (sent sent' : Option (List ℕ)) (seed orders : ℕ) (ending : Ending) : Type 0 where
  -- what came of the batch of the frames, and how it ended
  pub after : Outside
  pub end : Ending
  pub batch : Batch tells House made new (fed seed orders) after end
  -- where the disk tells that this is the drill's journal, the batch begins with its head, its cap and no entry
  pub begins : IsFresh (tells.content made) seed orders → (batch.charter ≡ without_fee (head_of seed)) × (batch.cap ≡ cap_of orders) × (batch.opening ≡ [])
  -- all frames were answered, each at the one moment; or else the status is that of want of memory
  pub all : ending.status ≢ OUT_OF_MEMORY → map (λ (a : Answered). a.request) batch.answered ≡ requests_of seed orders
  -- and then, where the disk told that journal, the line is that of the last list, or where the sink failed a part of it. Behind making it
  -- (`IsMade`) it tells it, if it tells its content at all
  pub line : ending.status ≡ CLEAN → IsFresh (tells.content made) seed orders → Appends sent sent' (line_of orders batch.last.entries)
  pub cut : ending.status ≡ SINK_FAILED → IsFresh (tells.content made) seed orders → SentPart sent sent' (line_of orders batch.last.entries)
  pub nothing : ending.status ≡ OUT_OF_MEMORY → sent' ≡ sent
  pub ends : (ending ≡ at_no_place CLEAN) ⊎ (ending ≡ at_no_place SINK_FAILED) ⊎ (ending ≡ at_no_place OUT_OF_MEMORY)

-- the journal was not opened, nothing was written, and nothing sent; or the frames were answered
abbrev pub Answers : {D : Type 0} → DiskTells D → D → D → Option (List ℕ) → Option (List ℕ) → ℕ → ℕ → Ending → Type 0
Answers tells made new sent sent' seed orders ending =
    (NotOpened tells made new (fed seed orders) (fed seed orders) ending × (sent' ≡ sent)) ⊎ Drilled tells made new sent sent' seed orders ending

-- a journal was made, and the drill went on over it: no count of the disk's faults fell on the way
pub record Made {D : Type 0} (tells : DiskTells D) (old new : D) (sent sent' : Option (List ℕ)) (seed orders : ℕ) (ending : Ending) : Type 0 where
  pub made : D
  pub is_made : IsMade tells old made (without_fee (head_of seed)) (cap_of orders)
  pub counts : (tells.faults old ≤ tells.faults made) × (tells.faults made ≤ tells.faults new)
  pub answers : Answers tells made new sent sent' seed orders ending

-- what a drill comes to
abbrev pub DrillIs : {D : Type 0} → DiskTells D → D → D → Option (List ℕ) → Option (List ℕ) → ℕ → ℕ → Ending → Type 0
DrillIs tells old new sent sent' seed orders ending = (NotMade tells old new seed orders ending × (sent' ≡ sent)) ⊎ Made tells old new sent sent' seed orders ending

-- ---- for the contracts of private functions alone

-- the entries that lines record
abbrev pub recorded : List Line → List Entry
recorded lines = filter_map entry_of lines

-- the tally of these entries. What came in is what all balances and the fees that the house keeps sum to, in a Legal list
abbrev pub tally : List Entry → Tally
tally entries = record { paid = count_by is_paid entries; refused = count_by is_refused entries; total = total entries }

-- a tally with one entry more
abbrev pub and_one : Tally → Entry → Tally
and_one t (Fund acct amount reference) = record t { total = t.total + amount }
and_one t (Paid digest epoid consumer merchant product price cacct macct moment key) = record t { paid = t.paid + 1 }
and_one t (Charged digest epoid consumer merchant product price fee cacct macct moment key) = record t { paid = t.paid + 1 }
and_one t (Refused digest epoid consumer merchant product price code a b moment) = record t { refused = t.refused + 1 }
and_one t other = t

-- the line of a tally
abbrev pub line_with : ℕ → Tally → List ℕ
line_with orders t =
    codes "orders " ++ decimal orders ++ codes " paid " ++ decimal t.paid ++ codes " refused " ++ decimal t.refused ++ codes " total " ++ decimal t.total ++ codes "\n"

-- a line was sent, or a part of it, or there was no memory for it
abbrev pub TellsLine : Option (List ℕ) → Option (List ℕ) → List ℕ → Ending → Type 0
TellsLine sent sent' line ending =
    ((ending ≡ at_no_place CLEAN) × Appends sent sent' line)
    ⊎ ((ending ≡ at_no_place SINK_FAILED) × SentPart sent sent' line)
    ⊎ ((ending ≡ at_no_place OUT_OF_MEMORY) × (sent' ≡ sent))

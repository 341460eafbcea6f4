-- What all workers of a server did, each session against one chronicle.
use Rattle.std.specs.Prelude.{◌≡◌, ◌≢◌, ◌⊎◌, ◌==◌, ℕ, ◌+◌, ◌<◌, ◌≤◌, List, [], ◌∷◌, ◌++◌, Option, None, Some, length, map, take, filter, slice_get, IfSome}
use Rattle.std.specs.List.{flat_map}
use Rattle.nb_port.specs.Tells.{DiskTells}
use Rattle.nb_port.specs.Faults.{Rose, Backed}
use Rattle.nb_link.specs.Link.{LinkSeen}
use Rattle.nb_link.specs.Port.{PortSeen}
use Rattle.nb_book.specs.Legal.{LegalUnder}
use Rattle.nb_turns.specs.declared.line.Line.{Line}
use Rattle.nb_turns.specs.Lines.{Sound, failures_in, maker_of}
use Rattle.nb_turn.specs.declared.chronicle.View.{View}
use Rattle.nb_vault.specs.declared.origin.Origin.{Origin}
use Rattle.nb_vault.specs.Vaults.{Chronicled, Keeps, StandsForState, doubt_in, entries_in}
use Rattle.nb_session.specs.declared.ended.Record.{Record}
use Rattle.nb_session.specs.Session.{Gave, IsTold, around}
use Rattle.nb_server.specs.declared.worker.How.{How}
use Rattle.nb_server.specs.declared.worker.How.TheVariants.{Closed, PortFault, NoMemory}
use Rattle.nb_server.specs.declared.worker.Worker.{Worker}
use Rattle.nb_server.specs.declared.worker.WorkerEnd.{WorkerEnd}

-- ---- one worker

-- what a worker is seen as: its port, and the moments that its clock gave
pub record WorkerSeen : Type 0 where
  pub port : PortSeen
  pub clock : Option (List ℕ)

-- a worker as it is seen
abbrev pub worker_seen : {P C : Type 0} → (P → PortSeen) → (C → Option (List ℕ)) → Worker P C → WorkerSeen
worker_seen seen moments worker = record { port = seen worker.port; clock = moments worker.clock }

-- a session that was served: its link as it was given and as it was taken back, the clock behind it, what the pass knew before it and
-- behind it, and its record
pub record Sessioned : Type 0 where
  pub given : LinkSeen
  pub taken : LinkSeen
  pub clock : Option (List ℕ)
  pub first : View Origin Line
  pub last : View Origin Line
  pub told : Record

-- the records, the links as given and the links as taken back, in the order of the sessions
abbrev pub records_of : List Sessioned → List Record
records_of sessions = map (λ (s : Sessioned). s.told) sessions

-- the links as they were given, in the order of the sessions
abbrev pub links_given : List Sessioned → List LinkSeen
links_given sessions = map (λ (s : Sessioned). s.given) sessions

-- the links as they were taken back, in the order of the sessions
abbrev pub links_taken : List Sessioned → List LinkSeen
links_taken sessions = map (λ (s : Sessioned). s.taken) sessions

-- the moments of records, joined
abbrev pub moments_told : List Record → List ℕ
moments_told records = flat_map (λ (r : Record). r.moments.items) records

-- the links to come, before these were given
abbrev pub with_given : List LinkSeen → Option (List LinkSeen) → Option (List LinkSeen)
with_given links None = None
with_given links (Some rest) = Some (links ++ rest)

-- the links taken back, with these
abbrev pub with_taken : List LinkSeen → Option (List LinkSeen) → Option (List LinkSeen)
with_taken links None = None
with_taken links (Some before) = Some (before ++ links)

-- why a worker stopped, by its port before and behind: no link was left; with links left, its count rose; with links left, there was no
-- memory for one more record
abbrev pub HowIs : PortSeen → PortSeen → How → Type 0
HowIs old new Closed = new.left ≡ 0
HowIs old new PortFault = (0 < new.left) × Rose old.faults new.faults
HowIs old new NoMemory = 0 < new.left

-- ---- against the chronicle

-- a session of the pass number `by`, with this number among its worker's, over the first lines of the chronicle: the first `seen_before`
-- of them are what the pass had seen before it, and the first `seen_after` what it has seen behind it
pub record IsSessionIn {D : Type 0} (tells : DiskTells D) (origin : Origin) (lines : List Line) (by number : ℕ) (clock : Option (List ℕ)) (s : Sessioned) : Type 0 where
  pub told : IsTold tells by number (around s.first s.given clock) (around s.last s.taken s.clock) s.told
  pub origin_is : s.first.origin ≡ Some origin
  pub before : s.first.seen ≡ take s.told.seen_before lines
  pub behind : s.last.seen ≡ take s.told.seen_after lines

-- so is each of these, with numbers from this one on, and each with the clock behind the one before it
abbrev pub SessionsIn : {D : Type 0} → DiskTells D → Origin → List Line → ℕ → ℕ → Option (List ℕ) → List Sessioned → Option (List ℕ) → Type 0
SessionsIn tells origin lines by number clock [] clock' = clock' ≡ clock
SessionsIn tells origin lines by number clock (s ∷ more) clock' =
    IsSessionIn tells origin lines by number clock s × SessionsIn tells origin lines by (number + 1) s.clock more clock'

-- worker n, before and behind, and its end
pub record IsServed {D : Type 0} (tells : DiskTells D) (origin : Origin) (lines : List Line) (n : ℕ) (old new : WorkerSeen) (end : WorkerEnd) : Type 0 where
  pub sessions : List Sessioned
  -- it asked with the pass of its own number, or with the first one's
  pub worker_is : end.worker ≡ n
  pub pass_is : (end.pass ≡ n) ⊎ (end.pass ≡ 0)
  -- its sessions have the numbers from 0 on, in the order of its links, and a record each
  pub are : SessionsIn tells origin lines end.pass 0 old.clock sessions new.clock
  pub records_are : end.records.items ≡ records_of sessions
  -- each link that its port gave was taken back, in order
  pub given : old.port.coming ≡ with_given (links_given sessions) new.port.coming
  pub taken : new.port.taken ≡ with_taken (links_taken sessions) old.port.taken
  pub out : new.port.out ≡ old.port.out
  pub left : old.port.left ≡ new.port.left + length end.records.items
  pub count : old.port.faults ≤ new.port.faults
  -- its clock gave the moments of its records, and no others
  pub moments : Gave old.clock new.clock (moments_told end.records.items)
  -- it stopped so
  pub how : HowIs old.port new.port end.how

-- so is each worker from number n on, with one end each
abbrev pub AreServed : {D : Type 0} → DiskTells D → Origin → List Line → ℕ → List WorkerSeen → List WorkerSeen → List WorkerEnd → Type 0
AreServed tells origin lines n [] [] [] = Unit {0}
AreServed tells origin lines n (old ∷ olds) (new ∷ news) (end ∷ ends) =
    IsServed tells origin lines n old new end × AreServed tells origin lines (n + 1) olds news ends
AreServed tells origin lines n olds news ends = ⊥

-- ---- all workers

-- the ends of those that asked with the pass of this number, and their records, in the order of workers and then of records
abbrev pub ends_by : ℕ → List WorkerEnd → List WorkerEnd
ends_by by ends = filter (λ (end : WorkerEnd). end.pass == by) ends

-- the records of those that asked with the pass of this number, in the order of workers and then of records
abbrev pub records_by : ℕ → List WorkerEnd → List Record
records_by by ends = flat_map (λ (end : WorkerEnd). end.records.items) (ends_by by ends)

-- these records begin at this place, each where the one before it ended, and the last one ends here
abbrev pub InOrder : ℕ → List Record → ℕ → Type 0
InOrder from [] to = to ≡ from
InOrder from (r ∷ more) to = (r.seen_before ≡ from) × (from ≤ r.seen_after) × InOrder r.seen_after more to

-- they do so from the first of these lines on, and end within the lines
pub record AreInOrder (lines : List Line) (records : List Record) : Type 0 where
  pub last : ℕ
  pub in_order : InOrder 0 records last
  pub within : last ≤ length lines

-- the place is one between what was seen before and what was seen behind one of these
abbrev pub StandsIn : ℕ → List Record → Type 0
StandsIn place [] = ⊥
StandsIn place (r ∷ more) = ((r.seen_before ≤ place) × (place < r.seen_after)) ⊎ StandsIn place more

-- each line of this number stands at such a place
abbrev pub AllStandIn : ℕ → List Line → List Record → Type 0
AllStandIn by lines records = (place : ℕ) (line : Line) → slice_get lines place ≡ Some line → maker_of line ≡ by → StandsIn place records

-- what the disk holds, and each image that a stop leaves, stands for the entries, without those in doubt or with them
pub record IsAtRest {D : Type 0} (tells : DiskTells D) (vault : Chronicled D) : Type 0 where
  pub bytes : IfSome (tells.content vault.disk) (StandsForState vault)
  pub images : (image : List ℕ) → tells.allowed vault.disk image → StandsForState vault image

-- What the workers of a server did, from a vault to a vault, the workers before and behind, and their ends
pub record AllSessions {D : Type 0} (tells : DiskTells D) (old new : Chronicled D) (olds news : List WorkerSeen) (ends : List WorkerEnd) : Type 0 where
  -- there is one chronicle, the lines of the vault, which is opened as it was
  pub origin : new.origin ≡ old.origin
  -- its faults are the disk's, its lines adopt what was in doubt, its entries are Legal under its version and its rate, and the disk is at rest in
  -- its state
  pub backed : Backed old.origin.faults (failures_in new.lines) (tells.faults new.disk)
  pub sound : Sound new.lines
  pub legal : LegalUnder new.origin.charter.version new.origin.charter.rate (entries_in new ++ doubt_in new)
  pub at_rest : IsAtRest tells new
  -- it is all that every vault is
  pub keeps : Keeps tells new
  -- each worker served its links, session by session, over the chronicle's first lines
  pub workers : AreServed tells old.origin new.lines 0 olds news ends
  -- the records of one number follow one another without a gap
  pub in_order : (by : ℕ) → AreInOrder new.lines (records_by by ends)
  -- each line of a number that a worker asked with stands within one of its sessions
  pub within : (by : ℕ) → ends_by by ends ≢ [] → AllStandIn by new.lines (records_by by ends)

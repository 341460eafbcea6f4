-- What follows for all workers of a server.
use Rattle.std.specs.Prelude.{◌≡◌, ◌⊎◌, List, [], ◌∷◌, ◌++◌, Some, length}
use Rattle.std.specs.List.{flat_map, AllByRecursion}
use Rattle.nb_port.specs.Tells.{DiskTells}
use Rattle.nb_port.specs.Faults.{Rose}
use Rattle.nb_link.specs.Link.{LinkSeen}
use Rattle.nb_units.specs.Frames.{Frame, frame}
use Rattle.nb_vault.specs.Vaults.{Chronicled}
use Rattle.nb_session.specs.Laws.{GivesFrames, IsDecided}
use Rattle.nb_session.specs.declared.ended.Record.{Record}
use Rattle.nb_session.specs.declared.ended.SessionEnd.TheVariants.{Clean, NoMemory}
use Rattle.nb_server.specs.declared.server.TheConstants.{MAX_WORKERS}
use Rattle.nb_server.specs.declared.worker.How.TheVariants as how
use Rattle.nb_server.specs.declared.worker.WorkerEnd.{WorkerEnd}
use Rattle.nb_server.specs.Served.{WorkerSeen, AllSessions}

-- the most workers, in numbers
abbrev pub LimitsAre : Type 0
LimitsAre = MAX_WORKERS ≡ 64

-- the links that a port gave, as they were given and as they were taken back: each gave few whole frames and then ended, and none failed
abbrev pub GaveFrames : List LinkSeen → List LinkSeen → Type 0
GaveFrames given [] = Unit {0}
GaveFrames (g ∷ given) (t ∷ taken) = ((frames : List Frame) × GivesFrames g t frames) × GaveFrames given taken
GaveFrames [] (t ∷ taken) = ⊥

-- so it is of a worker whose port tells its links, as many as are left, and whose count of failures did not rise
pub record IsFaultless (old new : WorkerSeen) : Type 0 where
  pub given : List LinkSeen
  pub before : List LinkSeen
  pub taken : List LinkSeen
  pub given_are : old.port.coming ≡ Some given
  pub all : length given ≡ old.port.left
  pub before_are : old.port.taken ≡ Some before
  pub taken_are : new.port.taken ≡ Some (before ++ taken)
  pub frames : GaveFrames given taken
  pub count : Rose old.port.faults new.port.faults → ⊥

-- so it is of each worker
abbrev pub AreFaultless : List WorkerSeen → List WorkerSeen → Type 0
AreFaultless [] [] = Unit {0}
AreFaultless (old ∷ olds) (new ∷ news) = IsFaultless old new × AreFaultless olds news
AreFaultless olds news = ⊥

-- the session of this link ended with it, and all its frames were answered, each by a verdict
pub record IsServedWhole (link : LinkSeen) (r : Record) : Type 0 where
  pub frames : List Frame
  pub left : link.left ≡ Some (flat_map frame frames)
  pub clean : r.end ≡ Clean
  pub answered : length r.marks.items ≡ length frames
  pub decided : AllByRecursion IsDecided r.marks.items

-- so it is of the sessions of these links, unless there was no memory for one to begin with
abbrev pub AreWhole : List LinkSeen → List Record → Type 0
AreWhole links [] = Unit {0}
AreWhole (link ∷ links) (r ∷ records) = ((r.end ≡ NoMemory) ⊎ IsServedWhole link r) × AreWhole links records
AreWhole [] (r ∷ records) = ⊥

-- a worker served its links whole, and all of them, unless there was no memory for one more record
pub record ServesWhole (old : WorkerSeen) (end : WorkerEnd) : Type 0 where
  pub links : List LinkSeen
  pub links_are : old.port.coming ≡ Some links
  pub whole : AreWhole links end.records.items
  pub how : ((end.how ≡ how.Closed) × (length end.records.items ≡ length links)) ⊎ (end.how ≡ how.NoMemory)

-- so did each worker
abbrev pub AllServeWhole : List WorkerSeen → List WorkerEnd → Type 0
AllServeWhole [] [] = Unit {0}
AllServeWhole (old ∷ olds) (end ∷ ends) = ServesWhole old end × AllServeWhole olds ends
AllServeWhole olds ends = ⊥

-- so it is where neither a port nor a link fails, each link gives few frames, and the disk's count did not rise since the vault was opened
abbrev pub Completes : {D : Type 0} → DiskTells D → Type 0
Completes {D} tells = (old new : Chronicled D) (olds news : List WorkerSeen) (ends : List WorkerEnd)
    → AllSessions tells old new olds news ends → (Rose old.origin.faults (tells.faults new.disk) → ⊥) → AreFaultless olds news → AllServeWhole olds ends

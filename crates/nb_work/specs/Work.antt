-- What a job over links comes to.
use Rattle.std.specs.Prelude.{◌≡◌, ◌≢◌, ◌⊎◌, ℕ, ◌≤◌, List, [], length, Option, Some, IsSome, map, slice_get}
use Rattle.nb_body.specs.declared.limits.TheConstants.{MAX_REQUEST}
use Rattle.nb_port.specs.Tells.{DiskTells}
use Rattle.nb_turns.specs.declared.line.Line.{Line}
use Rattle.nb_journal.specs.Time.{Unwritten}
use Rattle.nb_vault.specs.declared.vault.opening.VaultFault.{VaultFault}
use Rattle.nb_vault.specs.Opens.{VaultOpensAs, VaultOpenFails}
use Rattle.nb_vault.specs.Vaults.{Chronicled}
use Rattle.nb_server.specs.declared.worker.How.{How}
use Rattle.nb_server.specs.declared.worker.How.TheVariants.{Closed, PortFault, NoMemory}
use Rattle.nb_server.specs.declared.worker.WorkerEnd.{WorkerEnd}
use Rattle.nb_link.specs.Link.{LinkSeen}
use Rattle.nb_link.specs.Port.{PortSeen}
use Rattle.nb_server.specs.declared.worker.Worker.{Worker}
use Rattle.nb_server.specs.Served.{WorkerSeen, AllSessions, worker_seen}
use Rattle.nb_commands.specs.declared.ending.Ending.{Ending}
use Rattle.nb_commands.specs.declared.ending.Job.{Job}
use Rattle.nb_commands.specs.declared.ending.Job.TheVariants.{Serve, Buy, Sell}
use Rattle.nb_commands.specs.declared.ending.TheConstants.{CLEAN, OUT_OF_MEMORY, PORT_FAILED}
use Rattle.nb_commands.specs.Ending.{at_no_place}
use Rattle.nb_commands.specs.Opening.{unopened}
use Rattle.nb_words.specs.declared.words.TheConstants.{MAX_WORKERS}
use Rattle.nb_work.specs.declared.working.Dials.{Dials}
use Rattle.nb_work.specs.Buying.{BuysOver, start_of}
use Rattle.nb_work.specs.Selling.{SellsOver}

-- there are as many workers as the job says, and as many as a server may have; one who sells has one
abbrev pub IsStaffed : Job → ℕ → Type 0
IsStaffed (Serve workers sessions) count = (count ≡ workers) × (1 ≤ workers) × (workers ≤ MAX_WORKERS)
IsStaffed (Buy merchant product limit transaction request) count = Unit {0}
IsStaffed (Sell links shelf offers) count = count ≡ 1

-- the links were dialled that the job needs
abbrev pub IsDialled : {L : Type 0} → Job → Dials L → Type 0
IsDialled (Serve workers sessions) dials = Unit {0}
IsDialled (Buy merchant product limit transaction request) dials = IsSome dials.server × IsSome dials.seller
IsDialled (Sell links shelf offers) dials = IsSome dials.server

-- what a purchase says as it asks for the price is short enough
abbrev pub IsShort : Job → Type 0
IsShort (Serve workers sessions) = Unit {0}
IsShort (Buy merchant product limit transaction request) = length request ≤ MAX_REQUEST
IsShort (Sell links shelf offers) = Unit {0}

-- one of the workers stopped so
abbrev pub AnyStopped : How → List WorkerEnd → Type 0
AnyStopped how ends = (k : ℕ) × (end : WorkerEnd) × (slice_get ends k ≡ Some end) × (end.how ≡ how)

-- none did
abbrev pub NoneStopped : How → List WorkerEnd → Type 0
NoneStopped how ends = (k : ℕ) (end : WorkerEnd) → slice_get ends k ≡ Some end → end.how ≢ how

-- each did
abbrev pub AllStopped : How → List WorkerEnd → Type 0
AllStopped how ends = (k : ℕ) (end : WorkerEnd) → slice_get ends k ≡ Some end → end.how ≡ how

-- how the job ends, by how its workers stopped: a port that failed comes before want of memory
abbrev pub StoppedAs : List WorkerEnd → Ending → Type 0
StoppedAs ends ending =
    (AnyStopped PortFault ends × (ending ≡ at_no_place PORT_FAILED))
    ⊎ (NoneStopped PortFault ends × AnyStopped NoMemory ends × (ending ≡ at_no_place OUT_OF_MEMORY))
    ⊎ (AllStopped Closed ends × (ending ≡ at_no_place CLEAN))

-- what is seen of workers
abbrev pub workers_seen : {P C : Type 0} → (P → PortSeen) → (C → Option (List ℕ)) → List (Worker P C) → List WorkerSeen
workers_seen seen moments workers = map (worker_seen seen moments) workers

-- nothing was served: no byte of the disk was written, the workers are those handed in, and nothing is told of them
pub record IsIdle {D W : Type 0} (tells : DiskTells D) (old new : D) (before after : W) (lines : List Line) (ends : List WorkerEnd) : Type 0 where
  pub unwritten : Unwritten tells old new
  pub workers : after ≡ before
  pub no_lines : lines ≡ []
  pub no_ends : ends ≡ []

-- all was served: the disk's content stood for the entries that the vault was opened with, all workers served their links over it, and the
-- lines told are all of its lines
pub record IsServed {D : Type 0} (tells : DiskTells D) (old new : D) (before after : List WorkerSeen) (lines : List Line) (ends : List WorkerEnd) : Type 0 where
  pub opened : Chronicled D
  pub served : Chronicled D
  pub opens : VaultOpensAs tells old opened
  pub unwritten : Unwritten tells old opened.disk
  pub all : AllSessions tells opened served before after ends
  pub disk_is : new ≡ served.disk
  pub lines_are : lines ≡ served.lines

-- what serving comes to: the vault was not opened; or nothing was begun, as where there is no memory, whatever the content; or all was served
abbrev pub ServesAs : {D W : Type 0} → DiskTells D → (W → List WorkerSeen) → D → D → W → W → List Line → List WorkerEnd → Ending → Type 0
ServesAs tells sees old new before after lines ends ending =
    ((fault : VaultFault) × (ending ≡ unopened fault) × VaultOpenFails tells old new fault × IsIdle tells old new before after lines ends)
    ⊎ ((ending ≡ at_no_place OUT_OF_MEMORY) × IsIdle tells old new before after lines ends)
    ⊎ (IsServed tells old new (sees before) (sees after) lines ends × StoppedAs ends ending)

-- What a job comes to. A server touches neither the dialled links nor the output; a purchase has no workers and tells no lines; who sells touches neither the link to a seller nor the output,
-- and tells no lines
abbrev pub WorksAs : {D P C L : Type 0} → DiskTells D → (List (Worker P C) → List WorkerSeen) → (L → LinkSeen) → Job → D → D → List (Worker P C) → List (Worker P C) → Dials L → Dials L
    → Option (List ℕ) → Option (List ℕ) → ℕ → ℕ → List Line → List WorkerEnd → Ending → Type 0
WorksAs tells sees seen (Serve workers sessions) old new before after dials dials' sent sent' faults faults' lines ends ending =
    ServesAs tells sees old new before after lines ends ending × (dials' ≡ dials) × (sent' ≡ sent) × (faults' ≡ faults)
WorksAs tells sees seen (Buy merchant product limit transaction request) old new before after dials dials' sent sent' faults faults' lines ends ending =
    BuysOver tells seen (start_of merchant product limit transaction request) old new dials dials' sent sent' faults faults' ending × (after ≡ before) × (lines ≡ []) × (ends ≡ [])
WorksAs tells sees seen (Sell links shelf offers) old new before after dials dials' sent sent' faults faults' lines ends ending =
    SellsOver tells seen shelf offers old new (sees before) (sees after) dials dials' ending × (sent' ≡ sent) × (faults' ≡ faults) × (lines ≡ []) × (ends ≡ [])

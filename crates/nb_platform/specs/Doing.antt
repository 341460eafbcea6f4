-- What doing a job over the links of the system comes to.
use Rattle.std.specs.Prelude.{◌≡◌, ◌⊎◌, ℕ, ◌≤◌, List, length, Option, Some, IfSome, slice_get}
use Rattle.nb_body.specs.declared.limits.TheConstants.{MAX_REQUEST}
use Rattle.nb_port.specs.Tells.{DiskTells}
use Rattle.nb_turns.specs.declared.line.Line.{Line}
use Rattle.nb_link.specs.Link.{LinkSeen}
use Rattle.nb_link.specs.Port.{PortSeen}
use Rattle.nb_server.specs.declared.worker.Worker.{Worker}
use Rattle.nb_server.specs.declared.worker.WorkerEnd.{WorkerEnd}
use Rattle.nb_commands.specs.declared.ending.Ending.{Ending}
use Rattle.nb_commands.specs.declared.ending.Job.{Job}
use Rattle.nb_commands.specs.declared.ending.Job.TheVariants.{Serve, Buy, Sell}
use Rattle.nb_commands.specs.declared.ending.TheConstants.{OUT_OF_MEMORY}
use Rattle.nb_commands.specs.Ending.{at_no_place}
use Rattle.nb_words.specs.Words.{AreServed}
use Rattle.nb_work.specs.declared.working.Dials.{Dials}
use Rattle.nb_work.specs.Work.{IsStaffed, IsDialled, WorksAs, workers_seen}
use Rattle.nb_platform.specs.declared.jobs.TheConstants.{NOT_OPENED}

-- the job's numbers, and the length of its request, are what those of a command may be
abbrev pub FitsWork : Job → Type 0
FitsWork (Serve workers sessions) = AreServed workers sessions
FitsWork (Buy merchant product limit transaction request) = length request ≤ MAX_REQUEST
FitsWork (Sell links shelf offers) = Unit {0}

-- the two ways in which it ends where something could not be opened
abbrev pub EndsUnopened : Ending → Type 0
EndsUnopened ending = (ending ≡ at_no_place NOT_OPENED) ⊎ (ending ≡ at_no_place OUT_OF_MEMORY)

-- ---- what was opened

-- a worker whose port and clock are what they tell: what is known of the port, and the moments that the clock gave
abbrev pub ToldWorker : Type 0
ToldWorker = Worker PortSeen (Option (List ℕ))

-- the port of each worker is so
abbrev pub AllPorts : {P C : Type 0} → (P → Type 0) → List (Worker P C) → Type 0
AllPorts {P} {C} Is workers = (k : ℕ) (worker : Worker P C) → slice_get workers k ≡ Some worker → Is worker.port

-- a port that may give so many links, with none out and no call that failed
abbrev pub IsNewPort : ℕ → ℕ → ℕ → ℕ → Type 0
IsNewPort links left out faults = (left ≡ links) × (out ≡ 0) × (faults ≡ 0)

-- each port is new, and gives as many links as the job says
abbrev pub AllGive : {P C : Type 0} → (P → ℕ) → (P → ℕ) → (P → ℕ) → Job → List (Worker P C) → Type 0
AllGive {P} left out faults (Serve workers sessions) all = AllPorts (λ (p : P). IsNewPort sessions (left p) (out p) (faults p)) all
AllGive left out faults (Buy merchant product limit transaction request) all = Unit {0}
AllGive {P} left out faults (Sell links shelf offers) all = AllPorts (λ (p : P). IsNewPort links (left p) (out p) (faults p)) all

-- no call of a dialled link failed yet
abbrev pub AreNew : {L : Type 0} → (L → LinkSeen) → Dials L → Type 0
AreNew {L} seen dials =
    IfSome dials.server (λ (link : L). ((seen link).read_faults ≡ 0) × ((seen link).write_faults ≡ 0))
    × IfSome dials.seller (λ (link : L). ((seen link).read_faults ≡ 0) × ((seen link).write_faults ≡ 0))

-- ---- what a job comes to

-- The job was handed to `work`, over workers and dialled links of which this is told before it and behind it: as many workers as a server or a seller has, with
-- new ports, and new links where the job needs them. The disk, the output and the ending are what `work` says of it; there were lines and ends of workers then, of
-- which no more is told.
pub record IsWorked {D : Type 0} (tells : DiskTells D) (job : Job) (old new : D) (sent sent' : Option (List ℕ)) (faults faults' : ℕ) (ending : Ending) : Type 0 where
  pub before : List ToldWorker
  pub after : List ToldWorker
  pub dials : Dials LinkSeen
  pub dials' : Dials LinkSeen
  pub lines : List Line
  pub ends : List WorkerEnd
  pub staffed : IsStaffed job (length before)
  pub dialled : IsDialled job dials
  pub give : AllGive (λ (port : PortSeen). port.left) (λ (port : PortSeen). port.out) (λ (port : PortSeen). port.faults) job before
  pub fresh : AreNew (λ (link : LinkSeen). link) dials
  pub works : WorksAs tells (workers_seen (λ port. port) (λ moments. moments)) (λ link. link) job old new before after dials dials' sent sent' faults faults' lines ends ending

-- What a job comes to: something could not be opened, and the disk is the one handed in, and nothing is told to be sent; or it was worked
abbrev pub ComesTo : {D : Type 0} → DiskTells D → Job → D → D → Option (List ℕ) → Option (List ℕ) → ℕ → ℕ → Ending → Type 0
ComesTo tells job old new sent sent' faults faults' ending =
    (EndsUnopened ending × (new ≡ old) × (sent' ≡ sent) × (faults' ≡ faults))
    ⊎ IsWorked tells job old new sent sent' faults faults' ending

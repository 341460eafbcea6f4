-- The steps of a server, for the contracts of private functions.
use Rattle.std.specs.Prelude.{◌≡◌, ◌≢◌, ◌⊎◌, ◌==◌, ℕ, ◌+◌, ◌≤◌, List, [], ◌∷◌, ◌++◌, Option, None, Some, length, map, reverse, filter}
use Rattle.std.specs.List.{AllByRecursion}
use Rattle.nb_port.specs.Tells.{DiskTells}
use Rattle.nb_turns.specs.declared.line.Line.{Line}
use Rattle.nb_turns.specs.Lines.{maker_of}
use Rattle.nb_turn.specs.declared.chronicle.Chronicle.{Ghosts}
use Rattle.nb_turn.specs.declared.chronicle.View.{View}
use Rattle.nb_turn.specs.declared.types.Pass.{Pass}
use Rattle.nb_turn.specs.Lines.{LonePart}
use Rattle.nb_turn.specs.Passes.{TableId, sees, turn_id, turn_of}
use Rattle.nb_vault.specs.declared.origin.Origin.{Origin}
use Rattle.nb_vault.specs.Vaults.{Chronicled}
use Rattle.nb_desk.specs.declared.desk.Desk.{Desk}
use Rattle.nb_session.specs.declared.ended.Record.{Record}
use Rattle.nb_session.specs.Session.{IsTold, around}
use Rattle.nb_server.specs.declared.job.Job.{Job}
use Rattle.nb_server.specs.declared.job.Stage.{Stage}
use Rattle.nb_server.specs.declared.job.Stage.TheVariants.{Waits, Asks, Ran}
use Rattle.nb_server.specs.declared.worker.Worker.{Worker}
use Rattle.nb_server.specs.declared.worker.WorkerEnd.{WorkerEnd}
use Rattle.nb_server.specs.Served.{WorkerSeen, Sessioned, HowIs, records_of, links_given, links_taken, with_given, with_taken}

-- ---- one worker

-- these sessions were served one after another, by a pass that knew v first and w last, with numbers from this one on
abbrev pub Sessions : {D : Type 0} → DiskTells D → ℕ → ℕ → View Origin Line → Option (List ℕ) → List Sessioned → View Origin Line → Option (List ℕ) → Type 0
Sessions tells by number v clock [] w clock' = (w ≡ v) × (clock' ≡ clock)
Sessions tells by number v clock (s ∷ more) w clock' =
    (s.first ≡ v) × IsTold tells by number (around s.first s.given clock) (around s.last s.taken s.clock) s.told × Sessions tells by (number + 1) s.last s.clock more w clock'

-- a worker served some links, with these records
pub record HasServed {D : Type 0} (tells : DiskTells D) (by : ℕ) (v w : View Origin Line) (old new : WorkerSeen) (records : List Record) : Type 0 where
  pub sessions : List Sessioned
  pub are : Sessions tells by 0 v old.clock sessions w new.clock
  pub records_are : records ≡ records_of sessions
  pub given : old.port.coming ≡ with_given (links_given sessions) new.port.coming
  pub taken : new.port.taken ≡ with_taken (links_taken sessions) old.port.taken
  pub out : new.port.out ≡ old.port.out
  pub left : old.port.left ≡ new.port.left + length records
  pub count : old.port.faults ≤ new.port.faults

-- worker number n served its links with the pass of this number, to its end
pub record Serves {D : Type 0} (tells : DiskTells D) (by : ℕ) (v w : View Origin Line) (old new : WorkerSeen) (n : ℕ) (end : WorkerEnd) : Type 0 where
  pub worker_is : end.worker ≡ n
  pub pass_is : end.pass ≡ by
  pub worked : HasServed tells by v w old new end.records.items
  pub how : HowIs old.port new.port end.how

-- ---- passes

-- what a pass is seen as: its desk's turn, its number, and what it knows
pub record PassSeen : Type 0 where
  pub turn : TableId
  pub number : ℕ
  pub view : View Origin Line

-- a pass as it is seen
abbrev pub pass_seen : {D : Type 0} {d : Ghosts (Chronicled D) Origin Line} → Pass (Chronicled D) Origin Line d → PassSeen
pass_seen pass = record { turn = turn_of pass; number = pass.number; view = sees pass }

-- which desk it is
abbrev pub desk_id : {D : Type 0} → Desk D → TableId
desk_id desk = turn_id desk.turn

-- what a pass of this number knows into which none was joined
pub record IsOwn (origin : Option Origin) (number : ℕ) (v : View Origin Line) : Type 0 where
  pub origin_is : v.origin ≡ origin
  pub parts_are : v.parts ≡ (number, v.seen) ∷ []

-- it has seen nothing yet
pub record IsFresh (origin : Option Origin) (number : ℕ) (v : View Origin Line) : Type 0 where
  pub own : IsOwn origin number v
  pub none : v.seen ≡ []

-- ---- before the threads

-- a job with this number may run in a thread: it waits, or has a fresh pass of this number
abbrev pub ReadyAt : {S : Type 0} → (S → PassSeen) → TableId → Option Origin → ℕ → Stage S → Type 0
ReadyAt know id origin n Waits = n ≢ 0
ReadyAt know id origin n (Asks pass) = ((know pass).turn ≡ id) × ((know pass).number ≡ n) × IsFresh origin n (know pass).view
ReadyAt know id origin n (Ran pass end) = ⊥

-- the jobs of these workers, from number n on
abbrev pub AreReady : {S P C : Type 0} → (S → PassSeen) → TableId → Option Origin → ℕ → List (Worker P C) → List (Job S P C) → Type 0
AreReady know id origin n [] [] = Unit {0}
AreReady know id origin n (w ∷ ws) (j ∷ js) = (j.worker ≡ w) × (j.number ≡ n) × ReadyAt know id origin n j.stage × AreReady know id origin (n + 1) ws js
AreReady know id origin n ws js = ⊥

-- all were split off so far but those of the workers that are left
pub record AreSplit {S P C : Type 0} (know : S → PassSeen) (id : TableId) (origin : Option Origin) (all left : List (Worker P C)) (jobs : List (Job S P C)) : Type 0 where
  pub moved : List (Worker P C)
  pub all_are : all ≡ left ++ moved
  pub ready : AreReady know id origin (length left) moved (reverse jobs)

-- ---- the threads

-- a job at this stage may run: it waits, or has a pass of this desk
abbrev pub StageCanRun : {S : Type 0} → (S → PassSeen) → TableId → Stage S → Type 0
StageCanRun know id Waits = Unit {0}
StageCanRun know id (Asks pass) = (know pass).turn ≡ id
StageCanRun know id (Ran pass end) = ⊥

-- a job may run
abbrev pub CanRun : {S P C : Type 0} → (S → PassSeen) → TableId → Job S P C → Type 0
CanRun know id job = StageCanRun know id job.stage

-- one that waits does nothing, and another one serves its worker's links
abbrev pub StageRuns : {D S P C : Type 0} → DiskTells D → (S → PassSeen) → (Worker P C → WorkerSeen) → TableId → ℕ → Worker P C → Worker P C → Stage S → Stage S → Type 0
StageRuns tells know tell id n old new Waits Waits = new ≡ old
StageRuns tells know tell id n old new (Asks pass) (Ran after end) =
    ((know after).turn ≡ id) × ((know after).number ≡ (know pass).number) × Serves tells (know pass).number (know pass).view (know after).view (tell old) (tell new) n end
StageRuns tells know tell id n old new before after = ⊥

-- a job ran
pub record Runs {D S P C : Type 0} (tells : DiskTells D) (know : S → PassSeen) (tell : Worker P C → WorkerSeen) (id : TableId) (old new : Job S P C) : Type 0 where
  pub number_is : new.number ≡ old.number
  pub runs : StageRuns tells know tell id old.number old.worker new.worker old.stage new.stage

-- so did each
abbrev pub AreRun : {D S P C : Type 0} → DiskTells D → (S → PassSeen) → (Worker P C → WorkerSeen) → TableId → List (Job S P C) → List (Job S P C) → Type 0
AreRun tells know tell id [] [] = Unit {0}
AreRun tells know tell id (j ∷ js) (k ∷ ks) = Runs tells know tell id j k × AreRun tells know tell id js ks
AreRun tells know tell id js ks = ⊥

-- ---- behind the threads

-- what a job came to: it waits still, and its worker is as it was, or it ran with a fresh pass of its number
abbrev pub DoneAt : {D S P C : Type 0} → DiskTells D → (S → PassSeen) → (Worker P C → WorkerSeen) → TableId → Option Origin → ℕ → Worker P C → Worker P C → Stage S → Type 0
DoneAt tells know tell id origin n old new Waits = (n ≢ 0) × (new ≡ old)
DoneAt tells know tell id origin n old new (Asks pass) = ⊥
DoneAt tells know tell id origin n old new (Ran pass end) =
    ((know pass).turn ≡ id) × ((v : View Origin Line) × IsFresh origin n v × Serves tells n v (know pass).view (tell old) (tell new) n end)

-- the jobs of these workers, as they were, from number n on
abbrev pub AreDone : {D S P C : Type 0} → DiskTells D → (S → PassSeen) → (Worker P C → WorkerSeen) → TableId → Option Origin → ℕ → List (Worker P C) → List (Job S P C) → Type 0
AreDone tells know tell id origin n [] [] = Unit {0}
AreDone tells know tell id origin n (w ∷ ws) (j ∷ js) = (j.number ≡ n) × DoneAt tells know tell id origin n w j.worker j.stage × AreDone tells know tell id origin (n + 1) ws js
AreDone tells know tell id origin n ws js = ⊥

-- the job has nothing left to do in a thread
abbrev pub IsStill : {S : Type 0} → Stage S → Type 0
IsStill Waits = Unit {0}
IsStill (Asks pass) = ⊥
IsStill (Ran pass end) = Unit {0}

-- the job ran in a thread
abbrev pub HasRun : {S : Type 0} → Stage S → Type 0
HasRun (Ran pass end) = Unit {0}
HasRun other = ⊥

-- what comes of a job behind the threads: one that waited was served with the first pass, and another one hands out its own
abbrev pub StageSettles : {D S P C : Type 0} → DiskTells D → (S → PassSeen) → (Worker P C → WorkerSeen) → TableId → S → S → ℕ → Worker P C → Worker P C → WorkerEnd → Stage S → Option S → Type 0
StageSettles tells know tell id first first' n old new end Waits None =
    ((know first').turn ≡ id) × ((know first').number ≡ (know first).number)
    × Serves tells (know first).number (know first).view (know first').view (tell old) (tell new) n end
StageSettles tells know tell id first first' n old new end (Ran pass told) (Some own) = (first' ≡ first) × (new ≡ old) × (end ≡ told) × (own ≡ pass)
StageSettles tells know tell id first first' n old new end stage own = ⊥

-- ---- all that was done

-- one worker: as it was and as it is, what the pass that it asked with knew first and last, and its end
pub record Done : Type 0 where
  pub before : WorkerSeen
  pub after : WorkerSeen
  pub first : View Origin Line
  pub last : View Origin Line
  pub end : WorkerEnd

-- worker n was served with its own pass or with the first one, and its end says how
pub record IsDone {D : Type 0} (tells : DiskTells D) (origin : Option Origin) (n : ℕ) (d : Done) : Type 0 where
  pub by_own : (d.end.pass ≡ n) ⊎ (d.end.pass ≡ 0)
  pub own : IsOwn origin d.end.pass d.first
  pub serves : Serves tells d.end.pass d.first d.last d.before d.after n d.end

-- so was each, from worker n on
abbrev pub WereDone : {D : Type 0} → DiskTells D → Option Origin → ℕ → List Done → Type 0
WereDone tells origin n [] = Unit {0}
WereDone tells origin n (d ∷ ds) = IsDone tells origin n d × WereDone tells origin (n + 1) ds

-- those who asked with the pass of this number
abbrev pub done_by : ℕ → List Done → List Done
done_by by ds = filter (λ (d : Done). d.end.pass == by) ds

-- one after another, from what the pass knew first to what it knows last
abbrev pub Chain : View Origin Line → List Done → View Origin Line → Type 0
Chain first [] last = last ≡ first
Chain first (d ∷ ds) last = (d.first ≡ first) × Chain d.last ds last

-- the pass of a worker that had its own
abbrev pub HoldsPass : {S : Type 0} → (S → PassSeen) → TableId → Done → Option S → Type 0
HoldsPass know id d None = d.end.pass ≡ 0
HoldsPass know id d (Some pass) = ((know pass).turn ≡ id) × ((know pass).view ≡ d.last) × (d.first.seen ≡ [])

-- so is each worker's pass held
abbrev pub AreHeld : {S : Type 0} → (S → PassSeen) → TableId → List Done → List (Option S) → Type 0
AreHeld know id [] [] = Unit {0}
AreHeld know id (d ∷ ds) (p ∷ ps) = HoldsPass know id d p × AreHeld know id ds ps
AreHeld know id ds ps = ⊥

-- the workers so far, before and behind, their ends and the passes of those that had their own; the first pass knows this
pub record Gathers {D S : Type 0} (tells : DiskTells D) (know : S → PassSeen) (id : TableId) (origin : Option Origin) (main : View Origin Line) (olds news : List WorkerSeen) (ends : List WorkerEnd) (passes : List (Option S)) : Type 0 where
  pub done : List Done
  pub were : WereDone tells origin 0 done
  pub olds_are : olds ≡ map (λ (d : Done). d.before) done
  pub news_are : news ≡ map (λ (d : Done). d.after) done
  pub ends_are : ends ≡ map (λ (d : Done). d.end) done
  pub held : AreHeld know id done passes
  pub first : View Origin Line
  pub none : first.seen ≡ []
  pub chain : Chain first (done_by 0 done) main
  pub main_is : IsOwn origin 0 main

-- and the jobs of the others, which wait to be gathered
pub record Gathering {D S P C : Type 0} (tells : DiskTells D) (know : S → PassSeen) (tell : Worker P C → WorkerSeen) (id : TableId) (origin : Option Origin) (main : View Origin Line)
    (all news : List (Worker P C)) (ends : List WorkerEnd) (passes : List (Option S)) (jobs : List (Job S P C)) : Type 0 where
  pub behind : List (Worker P C)
  pub waiting : List (Worker P C)
  pub all_are : all ≡ behind ++ waiting
  pub gathered : Gathers tells know id origin main (map tell behind) (map tell news) ends passes
  pub count : length ends ≢ 0
  pub still : AreDone tells know tell id origin (length ends) waiting (reverse jobs)

-- ---- joining

-- the passes of these that have one are of this desk
abbrev pub AreAt : {S : Type 0} → (S → PassSeen) → TableId → List (Option S) → Type 0
AreAt know id [] = Unit {0}
AreAt know id (None ∷ ps) = AreAt know id ps
AreAt know id (Some pass ∷ ps) = ((know pass).turn ≡ id) × AreAt know id ps

-- each of their parts stands alone in these lines
abbrev pub StandAlone : {S : Type 0} → (S → PassSeen) → List Line → List (Option S) → Type 0
StandAlone know lines [] = Unit {0}
StandAlone know lines (None ∷ ps) = StandAlone know lines ps
StandAlone know lines (Some pass ∷ ps) = AllByRecursion (LonePart maker_of lines) (know pass).view.parts × StandAlone know lines ps

-- these were joined into the first: in whatever lines each part of the joined pass stands alone, each part of all of them does
abbrev pub JoinsAll : {S : Type 0} → (S → PassSeen) → View Origin Line → List (Option S) → View Origin Line → Type 0
JoinsAll know first passes last = (last.origin ≡ first.origin)
    × ((lines : List Line) → AllByRecursion (LonePart maker_of lines) last.parts → AllByRecursion (LonePart maker_of lines) first.parts × StandAlone know lines passes)

-- these are joined, and those not yet
pub record Joining {S : Type 0} (know : S → PassSeen) (id : TableId) (first : View Origin Line) (all left : List (Option S)) (last : View Origin Line) : Type 0 where
  pub gone : List (Option S)
  pub all_are : all ≡ left ++ gone
  pub joins : JoinsAll know first gone last
  pub at : AreAt know id left

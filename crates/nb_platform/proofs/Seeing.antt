-- What is said of a job over workers and links is so of what is seen of these.
use Rattle.std.proofs.Common.{◌≡◌, inl, inr, ℕ, zero, suc, List, [], ◌∷◌, ◌++◌, map, length, Option, Some, None, IfSome, IsSome, refl, sym, ap, subst, ◌∙◌}
use Rattle.std.specs.Option.{option_map}
use Rattle.std.proofs.lemmas.Option.{same_Some}
use Rattle.nb_port.specs.Tells.{DiskTells}
use Rattle.nb_turns.specs.declared.line.Line.{Line}
use Rattle.nb_link.specs.Link.{LinkSeen}
use Rattle.nb_link.specs.Port.{PortSeen}
use Rattle.nb_net.specs.declared.std_socket.StdListener.{StdListener}
use Rattle.nb_net.specs.Adapters.{ListenerPort, port_over}
use Rattle.nb_net.specs.Dials.{DialledLink, dialled_told}
use Rattle.nb_net.specs.Socket.{is_there}
use Rattle.nb_server.specs.declared.worker.Worker.{Worker}
use Rattle.nb_server.specs.declared.worker.WorkerEnd.{WorkerEnd}
use Rattle.nb_server.specs.Served.{WorkerSeen}
use Rattle.nb_commands.specs.declared.ending.Ending.{Ending}
use Rattle.nb_commands.specs.declared.ending.Job.{Job}
use Rattle.nb_commands.specs.declared.ending.Job.TheVariants.{Serve, Buy, Sell}
use Rattle.nb_work.specs.declared.working.Dials.{Dials}
use Rattle.nb_work.specs.Work.{IsDialled, IsIdle, IsServed, IsStaffed, ServesAs, WorksAs, workers_seen}
use Rattle.nb_platform.specs.declared.watched.WatchedLink.{WatchedLink}
use Rattle.nb_platform.specs.Doing.{AllGive, AllPorts, AreNew, IsNewPort, IsWorked, ToldWorker}

-- one worker more, whose port is so
pub one_more : {P C : Type 0} (Is : P → Type 0) (all : List (Worker P C)) (w : Worker P C) → AllPorts Is all → Is w.port → AllPorts Is (all ++ w ∷ [])
one_more Is [] w give is zero worker at = subst (λ (x : Worker _ _). Is x.port) (same_Some w worker at) is
one_more Is [] w give is (suc k) worker at = absurd cc
one_more Is (v ∷ all) w give is zero worker at = give zero worker at
one_more Is (v ∷ all) w give is (suc k) worker at = one_more Is all w (λ k. give (suc k)) is k worker at

-- what a port, a clock and a link of the system tell
abbrev pub port_seen : ListenerPort StdListener → PortSeen
port_seen p = port_over (λ (l : StdListener). is_there l.listener) p

abbrev pub no_moments : {C : Type 0} → C → Option (List ℕ)
no_moments c = None

abbrev pub link_seen : {D S : Type 0} → WatchedLink (DialledLink D S) → LinkSeen
link_seen l = dialled_told l.link

module _ {P C L : Type 0} (port : P → PortSeen) (moments : C → Option (List ℕ)) (link : L → LinkSeen) where
  -- a worker, and what was dialled, as it is seen
  abbrev pub worker_as : Worker P C → ToldWorker
  worker_as w = record { port = port w.port; clock = moments w.clock }

  abbrev pub dials_as : Dials L → Dials LinkSeen
  dials_as d = record { server = option_map link d.server; seller = option_map link d.seller }

  abbrev sees : List (Worker P C) → List WorkerSeen
  sees = workers_seen port moments

  abbrev sees_seen : List ToldWorker → List WorkerSeen
  sees_seen = workers_seen (λ p. p) (λ m. m)

  -- what is seen of a worker as it is seen is that
  seen_again : (all : List (Worker P C)) → sees_seen (map worker_as all) ≡ sees all
  seen_again [] = refl
  seen_again (w ∷ all) = ap (λ rest. record { port = port w.port; clock = moments w.clock } ∷ rest) (seen_again all)

  pub as_many : (all : List (Worker P C)) → length (map worker_as all) ≡ length all
  as_many [] = refl
  as_many (w ∷ all) = ap suc (as_many all)

  some_seen : (o : Option L) → IsSome o → IsSome (option_map link o)
  some_seen (Some l) is = is
  some_seen None is = is

  pub dialled_seen : (job : Job) (d : Dials L) → IsDialled job d → IsDialled job (dials_as d)
  dialled_seen (Serve workers sessions) d is = is
  dialled_seen (Buy merchant product limit transaction request) d is = (some_seen d.server is.0, some_seen d.seller is.1)
  dialled_seen (Sell links shelf offers) d is = some_seen d.server is

  some_new : (o : Option L) → IfSome o (λ (l : L). ((link l).read_faults ≡ 0) × ((link l).write_faults ≡ 0)) → IfSome (option_map link o) (λ (l : LinkSeen). (l.read_faults ≡ 0) × (l.write_faults ≡ 0))
  some_new (Some l) is = is
  some_new None is = is

  pub new_seen : (d : Dials L) → AreNew link d → AreNew (λ (l : LinkSeen). l) (dials_as d)
  new_seen d are = (some_new d.server are.0, some_new d.seller are.1)

  all_ports : (Is : P → Type 0) (Told : PortSeen → Type 0) → ((p : P) → Is p → Told (port p)) → (all : List (Worker P C)) → AllPorts Is all → AllPorts Told (map worker_as all)
  all_ports Is Told tells [] all_are k worker at = absurd cc
  all_ports Is Told tells (w ∷ all) all_are zero worker at = subst (λ (x : ToldWorker). Told x.port) (same_Some (worker_as w) worker at) (tells w.port (all_are zero w refl))
  all_ports Is Told tells (w ∷ all) all_are (suc k) worker at = all_ports Is Told tells all (λ k. all_are (suc k)) k worker at

  pub give_seen : (left out faults : P → ℕ) → ((links : ℕ) (p : P) → IsNewPort links (left p) (out p) (faults p) → IsNewPort links (port p).left (port p).out (port p).faults)
      → (job : Job) (all : List (Worker P C)) → AllGive left out faults job all
      → AllGive (λ (p : PortSeen). p.left) (λ (p : PortSeen). p.out) (λ (p : PortSeen). p.faults) job (map worker_as all)
  give_seen left out faults tells (Serve workers sessions) all give =
      all_ports (λ (p : P). IsNewPort sessions (left p) (out p) (faults p)) (λ (p : PortSeen). IsNewPort sessions p.left p.out p.faults) (tells sessions) all give
  give_seen left out faults tells (Buy merchant product limit transaction request) all give = give
  give_seen left out faults tells (Sell links shelf offers) all give =
      all_ports (λ (p : P). IsNewPort links (left p) (out p) (faults p)) (λ (p : PortSeen). IsNewPort links p.left p.out p.faults) (tells links) all give

  module _ {D : Type 0} (tells : DiskTells D) (old new : D) (before after : List (Worker P C)) (dials dials' : Dials L) (sent sent' : Option (List ℕ)) (faults faults' : ℕ) (lines : List Line) (ends : List WorkerEnd) (ending : Ending) where
    idle_seen : IsIdle tells old new before after lines ends → IsIdle tells old new (map worker_as before) (map worker_as after) lines ends
    idle_seen idle = record {
      unwritten = idle.unwritten;
      workers = ap (map worker_as) idle.workers;
      no_lines = idle.no_lines;
      no_ends = idle.no_ends;
    }

    served_seen : IsServed tells old new (sees before) (sees after) lines ends → IsServed tells old new (sees_seen (map worker_as before)) (sees_seen (map worker_as after)) lines ends
    served_seen = subst (λ (x : List WorkerSeen × List WorkerSeen). IsServed tells old new x.0 x.1 lines ends) (sym (λ i. (seen_again before i, seen_again after i)))

    serves_seen : ServesAs tells sees old new before after lines ends ending → ServesAs tells sees_seen old new (map worker_as before) (map worker_as after) lines ends ending
    serves_seen serves = elim serves [
      | inl failed ↦ inl (failed.0, failed.1, failed.2, idle_seen failed.3)
      | inr (inl idle) ↦ inr (inl (idle.0, idle_seen idle.1))
      | inr (inr all) ↦ inr (inr (served_seen all.0, all.1))
    ]

    pub works_seen : (job : Job) → WorksAs tells sees link job old new before after dials dials' sent sent' faults faults' lines ends ending
        → WorksAs tells sees_seen (λ l. l) job old new (map worker_as before) (map worker_as after) (dials_as dials) (dials_as dials') sent sent' faults faults' lines ends ending
    works_seen (Serve workers sessions) w = (serves_seen w.0, ap dials_as w.1, w.2, w.3)
    works_seen (Buy merchant product limit transaction request) w =
        let b = w.0 in (
          (link b.0, link b.1, link b.2, link b.3, ap dials_as b.4, ap dials_as b.5, b.6),
          ap (map worker_as) w.1,
          w.2,
          w.3,
        )
    works_seen (Sell links shelf offers) w =
        let s = w.0 in (
          (s.0, s.1, link s.2, link s.3, seen_again before ∙ s.4, seen_again after ∙ s.5, ap (option_map link) s.6, ap dials_as s.7, s.8),
          w.1,
          w.2,
          w.3,
          w.4,
        )

-- so a job that was worked over these workers and links came to what is told of them
pub worked : {P C L D : Type 0} (before after : List (Worker P C)) (dials dials' : Dials L) (port : P → PortSeen) (moments : C → Option (List ℕ)) (link : L → LinkSeen) (left out faulty : P → ℕ) (tells : DiskTells D) (job : Job) (old new : D)
    (sent sent' : Option (List ℕ)) (faults faults' : ℕ) (lines : List Line) (ends : List WorkerEnd) (ending : Ending)
    → ((links : ℕ) (p : P) → IsNewPort links (left p) (out p) (faulty p) → IsNewPort links (port p).left (port p).out (port p).faults)
    → IsStaffed job (length before) → IsDialled job dials → AllGive left out faulty job before → AreNew link dials
    → WorksAs tells (workers_seen port moments) link job old new before after dials dials' sent sent' faults faults' lines ends ending
    → IsWorked tells job old new sent sent' faults faults' ending
worked before after dials dials' port moments link left out faulty tells job old new sent sent' faults faults' lines ends ending same staffed dialled give fresh works = record {
  before = map (worker_as port moments link) before;
  after = map (worker_as port moments link) after;
  dials = dials_as port moments link dials;
  dials' = dials_as port moments link dials';
  lines = lines;
  ends = ends;
  staffed = subst (IsStaffed job) (sym (as_many port moments link before)) staffed;
  dialled = dialled_seen port moments link job dials dialled;
  give = give_seen port moments link left out faulty same job before give;
  fresh = new_seen port moments link dials fresh;
  works = works_seen port moments link tells old new before after dials dials' sent sent' faults faults' lines ends ending job works;
}

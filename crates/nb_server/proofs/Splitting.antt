-- A job for each worker, the last worker first.
use Rattle.std.proofs.Common.{◌≡◌, ℕ, ◌+◌, List, [], ◌∷◌, ◌++◌, length, reverse, Option, sym, ap, subst, ◌∙◌, append_assoc, append-nil}
use Rattle.std.proofs.lemmas.List.{length-append, reverse-append, reverse-reverse}
use Rattle.std.specs.List.{All, AllByRecursion}
use Rattle.std.proofs.lemmas.List.Elements.{All-nil, All-push}
use Rattle.nb_turn.specs.Passes.{TableId}
use Rattle.nb_vault.specs.declared.origin.Origin.{Origin}
use Rattle.nb_server.specs.declared.job.Job.{Job}
use Rattle.nb_server.specs.declared.job.Stage.{Stage}
use Rattle.nb_server.specs.declared.job.Stage.TheVariants.{Waits, Asks, Ran}
use Rattle.nb_server.specs.declared.worker.Worker.{Worker}
use Rattle.nb_server.specs.Steps.{AreReady, AreSplit, CanRun, PassSeen, ReadyAt, StageCanRun}

can_one : {S : Type 0} (know : S → PassSeen) (id : TableId) (origin : Option Origin) (n : ℕ) (stage : Stage S) → ReadyAt know id origin n stage → StageCanRun know id stage
can_one know id origin n Waits ready = tt
can_one know id origin n (Asks pass) ready = ready.0
can_one know id origin n (Ran pass end) ready = absurd ready

module _ {S P C : Type 0} (know : S → PassSeen) (id : TableId) (origin : Option Origin) where
  pub split_none : (all : List (Worker P C)) (jobs : List (Job S P C)) → jobs ≡ [] → AreSplit know id origin all all jobs
  split_none all jobs none = record {
    moved = [];
    all_are = sym (append-nil all);
    ready = subst (λ (js : List (Job S P C)). AreReady know id origin (length all) [] (reverse js)) (sym none) tt;
  }

  pub split_more : (all left rest : List (Worker P C)) (w : Worker P C) (jobs jobs' : List (Job S P C)) (job : Job S P C) → AreSplit know id origin all left jobs → jobs' ≡ jobs ++ job ∷ [] → left ≡ rest ++ w ∷ []
      → job.worker ≡ w → job.number ≡ length rest → ReadyAt know id origin (length rest) job.stage → AreSplit know id origin all rest jobs'
  split_more all left rest w jobs jobs' job split pushed is worker number ready =
      let one : length left ≡ length rest + 1 = ap length is ∙ length-append rest (w ∷ []) in
      record {
        moved = w ∷ split.moved;
        all_are = split.all_are ∙ ap (λ (ws : List (Worker P C)). ws ++ split.moved) is ∙ append_assoc rest (w ∷ []) split.moved;
        ready = subst (λ (js : List (Job S P C)). AreReady know id origin (length rest) (w ∷ split.moved) js) (sym (ap reverse pushed ∙ reverse-append jobs (job ∷ [])))
            (worker, number, ready, subst (λ (n : ℕ). AreReady know id origin n split.moved (reverse jobs)) one split.ready);
      }

  -- all of them
  pub all_split : (all left : List (Worker P C)) (jobs : List (Job S P C)) → AreSplit know id origin all left jobs → left ≡ [] → AreReady know id origin 0 all (reverse jobs)
  all_split all left jobs split none =
      subst (λ (x : ℕ × List (Worker P C)). AreReady know id origin x.0 x.1 (reverse jobs)) (λ i. (ap length none i, sym (split.all_are ∙ ap (λ (ws : List (Worker P C)). ws ++ split.moved) none) i)) split.ready

  can_each : (n : ℕ) (ws : List (Worker P C)) (js : List (Job S P C)) → AreReady know id origin n ws js → AllByRecursion (CanRun {S = S} {P = P} {C = C} know id) js
  can_each n [] [] ready = tt
  can_each n [] (j ∷ js) ready = absurd ready
  can_each n (w ∷ ws) [] ready = tt
  can_each n (w ∷ ws) (j ∷ js) ready = (can_one know id origin n j.stage ready.2, can_each (n + 1) ws js ready.3)

  can_back : (js : List (Job S P C)) → AllByRecursion (CanRun {S = S} {P = P} {C = C} know id) js → All (CanRun {S = S} {P = P} {C = C} know id) (reverse js)
  can_back [] each = All-nil (CanRun {S = S} {P = P} {C = C} know id)
  can_back (j ∷ js) each = subst (All (CanRun {S = S} {P = P} {C = C} know id)) (sym (reverse-append (j ∷ []) js)) (All-push (CanRun {S = S} {P = P} {C = C} know id) (reverse js) j (can_back js each.1) each.0)

  -- each of them may run
  pub all_can : (ws : List (Worker P C)) (jobs : List (Job S P C)) → AreReady know id origin 0 ws (reverse jobs) → All (CanRun {S = S} {P = P} {C = C} know id) jobs
  all_can ws jobs ready = subst (All (CanRun {S = S} {P = P} {C = C} know id)) (reverse-reverse jobs) (can_back (reverse jobs) (can_each 0 ws (reverse jobs) ready))

-- The threads: jobs that were ready are done.
use Rattle.std.proofs.Common.{◌≡◌, ℕ, ◌+◌, ◌<◌, suc, List, [], ◌∷◌, ◌++◌, length, take, drop, reverse, Option, sym, ap, subst, ◌∙◌, arith}
use Rattle.std.proofs.lemmas.List.{reverse-append}
use Rattle.std.proofs.Math.Seq.{take-append_seam}
use Rattle.std.specs.Prelude.{slice_index_or}
use Rattle.nb_port.specs.Tells.{DiskTells}
use Rattle.nb_turn.specs.Passes.{TableId}
use Rattle.nb_vault.specs.declared.origin.Origin.{Origin}
use Rattle.nb_server.specs.declared.job.Job.{Job}
use Rattle.nb_server.specs.declared.job.Stage.{Stage}
use Rattle.nb_server.specs.declared.job.Stage.TheVariants.{Waits, Asks, Ran}
use Rattle.nb_server.specs.declared.worker.Worker.{Worker}
use Rattle.nb_server.specs.Served.{WorkerSeen}
use Rattle.nb_server.specs.Steps.{AreDone, AreReady, AreRun, DoneAt, PassSeen, ReadyAt, Runs, Serves, StageRuns}

module _ {D S P C : Type 0} (tells : DiskTells D) (know : S → PassSeen) (tell : Worker P C → WorkerSeen) (id : TableId) where
  -- what is said of each place
  each_run : (js ks : List (Job S P C)) → length ks ≡ length js
      → ((i : ℕ) (d : Job S P C) → i < length js → Runs tells know tell id (slice_index_or js i d) (slice_index_or ks i d)) → AreRun tells know tell id js ks
  each_run [] [] same each = tt
  each_run [] (k ∷ ks) same each = absurd (omega (arith, same))
  each_run (j ∷ js) [] same each = absurd (omega (arith, same))
  each_run (j ∷ js) (k ∷ ks) same each = (each 0 j (omega arith), each_run js ks (omega (arith, same)) (λ i d less. each (suc i) d (omega (arith, less))))

  run_both : (js ks ls ms : List (Job S P C)) → AreRun tells know tell id js ks → AreRun tells know tell id ls ms → AreRun tells know tell id (js ++ ls) (ks ++ ms)
  run_both [] [] ls ms first then = then
  run_both [] (k ∷ ks) ls ms first then = absurd first
  run_both (j ∷ js) [] ls ms first then = absurd first
  run_both (j ∷ js) (k ∷ ks) ls ms first then = (first.0, run_both js ks ls ms first.1 then)

  run_back : (js ks : List (Job S P C)) → AreRun tells know tell id js ks → AreRun tells know tell id (reverse js) (reverse ks)
  run_back [] [] run = tt
  run_back [] (k ∷ ks) run = absurd run
  run_back (j ∷ js) [] run = absurd run
  run_back (j ∷ js) (k ∷ ks) run = subst (λ (x : List (Job S P C) × List (Job S P C)). AreRun tells know tell id x.0 x.1) (λ i. (sym (reverse-append (j ∷ []) js) i, sym (reverse-append (k ∷ []) ks) i))
      (run_both (reverse js) (reverse ks) (j ∷ []) (k ∷ []) (run_back js ks run.1) (run.0, tt))

  module _ (origin : Option Origin) where
    done_one : (n m : ℕ) (w old new : Worker P C) (s t : Stage S) → old ≡ w → m ≡ n → ReadyAt know id origin n s → StageRuns tells know tell id m old new s t → DoneAt tells know tell id origin n w new t
    done_one n m w old new Waits Waits same number ready run = (ready, run ∙ same)
    done_one n m w old new (Asks p) (Ran q end) same number ready run =
        (run.0, ((know p).view, ready.2, subst (λ (x : ℕ × Worker P C × ℕ). Serves tells x.0 (know p).view (know q).view (tell x.1) (tell new) x.2 end) (λ i. (ready.1 i, same i, number i)) run.2))
    done_one n m w old new Waits (Asks q) same number ready run = absurd run
    done_one n m w old new Waits (Ran q end) same number ready run = absurd run
    done_one n m w old new (Asks p) Waits same number ready run = absurd run
    done_one n m w old new (Asks p) (Asks q) same number ready run = absurd run
    done_one n m w old new (Ran p end) t same number ready run = absurd ready

    done_all : (n : ℕ) (ws : List (Worker P C)) (js ks : List (Job S P C)) → AreReady know id origin n ws js → AreRun tells know tell id js ks → AreDone tells know tell id origin n ws ks
    done_all n [] [] [] ready run = tt
    done_all n [] [] (k ∷ ks) ready run = absurd run
    done_all n [] (j ∷ js) ks ready run = absurd ready
    done_all n (w ∷ ws) [] ks ready run = absurd ready
    done_all n (w ∷ ws) (j ∷ js) [] ready run = absurd run
    done_all n (w ∷ ws) (j ∷ js) (k ∷ ks) ready run =
        (run.0.number_is ∙ ready.1, done_one n j.number w j.worker k.worker j.stage k.stage ready.0 ready.1 ready.2 run.0.runs, done_all (n + 1) ws js ks ready.3 run.1)

    -- the jobs stand with the last worker first, in a slice that is lent to the threads
    pub all_done : (ws : List (Worker P C)) (js lent new : List (Job S P C)) (n : ℕ) → lent ≡ js → n ≡ length js → length new ≡ length lent
        → ((i : ℕ) (d : Job S P C) → i < length lent → Runs tells know tell id (slice_index_or lent i d) (slice_index_or new i d)) → AreReady know id origin 0 ws (reverse js)
        → AreDone tells know tell id origin 0 ws (reverse (take n (new ++ drop (length new) js)))
    all_done ws js lent new n same count len each ready =
        let run : AreRun tells know tell id js new = subst (λ (xs : List (Job S P C)). AreRun tells know tell id xs new) same (each_run lent new len each) in
        let whole : n ≡ length new = omega (arith, count, len, ap length same) in
        subst (λ (ks : List (Job S P C)). AreDone tells know tell id origin 0 ws (reverse ks))
        (sym (ap (λ (m : ℕ). take m (new ++ drop (length new) js)) whole ∙ take-append_seam new (drop (length new) js)))
        (done_all 0 ws (reverse js) (reverse new) ready (run_back js new run))

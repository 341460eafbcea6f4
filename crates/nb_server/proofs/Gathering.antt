-- The jobs behind the threads, from the first worker on.
use Rattle.std.proofs.Common.{◌≡◌, ◌≢◌, ◌⊎◌, inl, inr, ℕ, ◌+◌, suc, Bool, cond, eqb, eq-eqb, ne_eqb, List, [], ◌∷◌, ◌++◌, length, map, reverse, Option, None, Some, refl, sym, ap, subst, ◌∙◌, append_assoc, append-nil, arith}
use Rattle.std.proofs.lemmas.List.{length-append, length-map, map-append, reverse-append}
use Rattle.std.proofs.lemmas.List.Elements.{filter-append}
use Rattle.std.proofs.lemmas.Option.{same_Some}
use Rattle.nb_port.specs.Tells.{DiskTells}
use Rattle.nb_turns.specs.declared.line.Line.{Line}
use Rattle.nb_turn.specs.declared.chronicle.View.{View}
use Rattle.nb_turn.specs.Passes.{TableId}
use Rattle.nb_turn.specs.Views.{number_of}
use Rattle.nb_vault.specs.declared.origin.Origin.{Origin}
use Rattle.nb_server.specs.declared.job.Job.{Job}
use Rattle.nb_server.specs.declared.job.Stage.{Stage}
use Rattle.nb_server.specs.declared.job.Stage.TheVariants.{Waits, Asks, Ran}
use Rattle.nb_server.specs.declared.worker.Worker.{Worker}
use Rattle.nb_server.specs.declared.worker.WorkerEnd.{WorkerEnd}
use Rattle.nb_server.specs.Served.{WorkerSeen}
use Rattle.nb_server.specs.Steps.{AreDone, AreHeld, Chain, Done, DoneAt, Gathering, Gathers, HoldsPass, IsDone, IsOwn, IsStill, HasRun, PassSeen, Serves, StageSettles, WereDone, done_by}
use Rattle.nb_server.proofs.Working.{own_behind}

-- ---- lists of what was done

module _ {D : Type 0} (tells : DiskTells D) (origin : Option Origin) where
  were_more : (n : ℕ) (ds : List Done) (d : Done) → WereDone tells origin n ds → IsDone tells origin (n + length ds) d → WereDone tells origin n (ds ++ d ∷ [])
  were_more n [] d were is = let same : n + 0 ≡ n = omega arith in (subst (λ (k : ℕ). IsDone tells origin k d) same is, tt)
  were_more n (e ∷ ds) d were is = let same : n + suc (length ds) ≡ (n + 1) + length ds = omega arith in (were.0, were_more (n + 1) ds d were.1 (subst (λ (k : ℕ). IsDone tells origin k d) same is))

module _ {S : Type 0} (know : S → PassSeen) (id : TableId) where
  held_more : (ds : List Done) (ps : List (Option S)) (d : Done) (p : Option S) → AreHeld know id ds ps → HoldsPass know id d p → AreHeld know id (ds ++ d ∷ []) (ps ++ p ∷ [])
  held_more [] [] d p held is = (is, tt)
  held_more [] (q ∷ ps) d p held is = absurd held
  held_more (e ∷ ds) [] d p held is = absurd held
  held_more (e ∷ ds) (q ∷ ps) d p held is = (held.0, held_more ds ps d p held.1 is)

-- a pass into which none was joined has the number of its one part
pub number_zero : (origin : Option Origin) (v : View Origin Line) (n : ℕ) → IsOwn origin 0 v → number_of v.parts ≡ Some n → n ≡ 0
number_zero origin v n own is = sym (same_Some 0 n (sym (ap number_of own.parts_are) ∙ is))

chain_more : (first mid : View Origin Line) (ds : List Done) (d : Done) → Chain first ds mid → d.first ≡ mid → Chain first (ds ++ d ∷ []) d.last
chain_more first mid [] d chain is = (is ∙ chain, refl)
chain_more first mid (e ∷ ds) d chain is = (chain.0, chain_more e.last mid ds d chain.1 is)

-- one that asked with this pass, and one that asked with another
pub by_this : (by : ℕ) (d : Done) (ds : List Done) → d.end.pass ≡ by → done_by by (d ∷ ds) ≡ d ∷ done_by by ds
by_this by d ds is = ap (λ (b : Bool). cond b (d ∷ done_by by ds) (done_by by ds)) (eq-eqb d.end.pass by is)

pub by_another : (by : ℕ) (d : Done) (ds : List Done) → d.end.pass ≢ by → done_by by (d ∷ ds) ≡ done_by by ds
by_another by d ds is = ap (λ (b : Bool). cond b (d ∷ done_by by ds) (done_by by ds)) (ne_eqb d.end.pass by is)

by_both : (by : ℕ) (ds es : List Done) → done_by by (ds ++ es) ≡ done_by by ds ++ done_by by es
by_both by ds es = filter-append (λ (d : Done). eqb d.end.pass by) ds es

module _ {D S P C : Type 0} (tells : DiskTells D) (know : S → PassSeen) (tell : Worker P C → WorkerSeen) (id : TableId) (origin : Option Origin) where
  -- one that was done stands behind the others
  gathers_more : (main main' : View Origin Line) (olds news : List WorkerSeen) (ends : List WorkerEnd) (passes : List (Option S)) (d : Done) (p : Option S)
      → (g : Gathers tells know id origin main olds news ends passes) → IsDone tells origin (length ends) d → HoldsPass know id d p → Chain g.first (done_by 0 (g.done ++ d ∷ [])) main' → IsOwn origin 0 main'
      → Gathers tells know id origin main' (olds ++ d.before ∷ []) (news ++ d.after ∷ []) (ends ++ d.end ∷ []) (passes ++ p ∷ [])
  gathers_more main main' olds news ends passes d p g is holds chain own =
      let count : length ends ≡ 0 + length g.done = omega (arith, ap length g.ends_are ∙ length-map g.done (λ (x : Done). x.end)) in
      record {
        done = g.done ++ d ∷ [];
        were = were_more tells origin 0 g.done d g.were (subst (λ (n : ℕ). IsDone tells origin n d) count is);
        olds_are = ap (λ (xs : List WorkerSeen). xs ++ d.before ∷ []) g.olds_are ∙ sym (map-append (λ (x : Done). x.before) g.done (d ∷ []));
        news_are = ap (λ (xs : List WorkerSeen). xs ++ d.after ∷ []) g.news_are ∙ sym (map-append (λ (x : Done). x.after) g.done (d ∷ []));
        ends_are = ap (λ (xs : List WorkerEnd). xs ++ d.end ∷ []) g.ends_are ∙ sym (map-append (λ (x : Done). x.end) g.done (d ∷ []));
        held = held_more know id g.done passes d p g.held holds;
        first = g.first;
        none = g.none;
        chain = chain;
        main_is = own;
      }

  -- served with a pass of this number
  is_done : (n by : ℕ) (v w : View Origin Line) (old new : WorkerSeen) (end : WorkerEnd) → (by ≡ n) ⊎ (by ≡ 0) → IsOwn origin by v → Serves tells by v w old new n end
      → let d : Done = record { before = old; after = new; first = v; last = w; end = end } in IsDone tells origin n d
  is_done n by v w old new end which own serves = record {
    by_own = subst (λ (k : ℕ). (k ≡ n) ⊎ (k ≡ 0)) (sym serves.pass_is) which;
    own = subst (λ (k : ℕ). IsOwn origin k v) (sym serves.pass_is) own;
    serves = subst (λ (k : ℕ). Serves tells k v w old new n end) (sym serves.pass_is) serves;
  }

  own_served : (n by : ℕ) (v w : View Origin Line) (old new : WorkerSeen) (end : WorkerEnd) → IsOwn origin by v → Serves tells by v w old new n end → IsOwn origin by w
  own_served n by v w old new end own serves = own_behind tells by origin v w old new end.records.items serves.worked own

  -- ---- the first

  first_stage : (w new : Worker P C) (stage : Stage S) → DoneAt tells know tell id origin 0 w new stage → HasRun stage
  first_stage w new Waits done = absurd (done.0 refl)
  first_stage w new (Asks pass) done = absurd done
  first_stage w new (Ran pass end) done = tt

  -- the job that stands last is that of the first worker, and it ran
  pub first_ran : (ws : List (Worker P C)) (jobs rest : List (Job S P C)) (job : Job S P C) → AreDone tells know tell id origin 0 ws (reverse jobs) → jobs ≡ rest ++ job ∷ [] → HasRun job.stage
  first_ran ws jobs rest job done is = part ws (subst (AreDone tells know tell id origin 0 ws) (ap reverse is ∙ reverse-append rest (job ∷ [])) done) where
    part : (xs : List (Worker P C)) → AreDone tells know tell id origin 0 xs (job ∷ reverse rest) → HasRun job.stage
    part [] d = absurd d
    part (x ∷ xs) d = first_stage x job.worker job.stage d.1

  gathered_first : (w : Worker P C) (more : List (Worker P C)) (rest : List (Job S P C)) (job : Job S P C) (first : S) (end : WorkerEnd) → AreDone tells know tell id origin 0 (w ∷ more) (job ∷ reverse rest) → job.stage ≡ Ran first end
      → ((know first).turn ≡ id) × Gathering tells know tell id origin (know first).view (w ∷ more) (job.worker ∷ []) (end ∷ []) (None ∷ []) rest
  gathered_first w more rest job first end done ran =
      let at : DoneAt tells know tell id origin 0 w job.worker (Ran first end) = subst (DoneAt tells know tell id origin 0 w job.worker) ran done.1 in
      let v : View Origin Line = at.1.0 in
      let serves : Serves tells 0 v (know first).view (tell w) (tell job.worker) 0 end = at.1.2 in
      let d : Done = record { before = tell w; after = tell job.worker; first = v; last = (know first).view; end = end } in (
        at.0,
        record {
          behind = w ∷ [];
          waiting = more;
          all_are = refl;
          gathered = record {
            done = d ∷ [];
            were = (is_done 0 0 v (know first).view (tell w) (tell job.worker) end (inl refl) at.1.1.own serves, tt);
            olds_are = refl;
            news_are = refl;
            ends_are = refl;
            held = (serves.pass_is, tt);
            first = v;
            none = at.1.1.none;
            chain = subst (λ (ds : List Done). Chain v ds (know first).view) (sym (by_this 0 d [] serves.pass_is)) (refl, refl);
            main_is = own_served 0 0 v (know first).view (tell w) (tell job.worker) end at.1.1.own serves;
          };
          count = λ e. absurd (omega (arith, e));
          still = done.2;
        },
      )

  pub gather_first : (ws news : List (Worker P C)) (ends : List WorkerEnd) (passes : List (Option S)) (jobs rest : List (Job S P C)) (job : Job S P C) (first : S) (end : WorkerEnd) → AreDone tells know tell id origin 0 ws (reverse jobs)
      → jobs ≡ rest ++ job ∷ [] → job.stage ≡ Ran first end → news ≡ job.worker ∷ [] → ends ≡ end ∷ [] → passes ≡ None ∷ []
      → ((know first).turn ≡ id) × Gathering tells know tell id origin (know first).view ws news ends passes rest
  gather_first ws news ends passes jobs rest job first end done is ran news_are ends_are passes_are = part ws (subst (AreDone tells know tell id origin 0 ws) (ap reverse is ∙ reverse-append rest (job ∷ [])) done) where
    part : (xs : List (Worker P C)) → AreDone tells know tell id origin 0 xs (job ∷ reverse rest) → ((know first).turn ≡ id) × Gathering tells know tell id origin (know first).view xs news ends passes rest
    part [] d = absurd d
    part (x ∷ xs) d = subst (λ (y : List (Worker P C) × List WorkerEnd × List (Option S)). ((know first).turn ≡ id) × Gathering tells know tell id origin (know first).view (x ∷ xs) y.0 y.1 y.2 rest)
        (λ i. (sym news_are i, sym ends_are i, sym passes_are i)) (gathered_first x xs rest job first end d ran)

  -- ---- one more

  still_one : (n : ℕ) (w new : Worker P C) (stage : Stage S) → DoneAt tells know tell id origin n w new stage → IsStill stage
  still_one n w new Waits done = tt
  still_one n w new (Asks pass) done = absurd done
  still_one n w new (Ran pass end) done = tt

  still_in : (n : ℕ) (ws : List (Worker P C)) (jobs rest : List (Job S P C)) (job : Job S P C) → AreDone tells know tell id origin n ws (reverse jobs) → jobs ≡ rest ++ job ∷ []
      → (w : Worker P C) × ((more : List (Worker P C)) × (ws ≡ w ∷ more) × AreDone tells know tell id origin n (w ∷ more) (job ∷ reverse rest))
  still_in n ws jobs rest job done is = part ws (subst (AreDone tells know tell id origin n ws) (ap reverse is ∙ reverse-append rest (job ∷ [])) done) where
    part : (xs : List (Worker P C)) → AreDone tells know tell id origin n xs (job ∷ reverse rest) → (w : Worker P C) × ((more : List (Worker P C)) × (xs ≡ w ∷ more) × AreDone tells know tell id origin n (w ∷ more) (job ∷ reverse rest))
    part [] d = absurd d
    part (x ∷ xs) d = (x, (xs, refl, d))

  -- the next job has nothing left to do in a thread
  pub next_still : (main : View Origin Line) (all news : List (Worker P C)) (ends : List WorkerEnd) (passes : List (Option S)) (jobs rest : List (Job S P C)) (job : Job S P C)
      → Gathering tells know tell id origin main all news ends passes jobs → jobs ≡ rest ++ job ∷ [] → IsStill job.stage
  next_still main all news ends passes jobs rest job g is =
      let s = still_in (length ends) g.waiting jobs rest job g.still is in
      still_one (length ends) s.0 job.worker job.stage s.1.2.1

  -- what one job comes to
  settled : (first first' : S) (olds news : List WorkerSeen) (ends : List WorkerEnd) (passes : List (Option S)) (w new worker : Worker P C) (number : ℕ) (end : WorkerEnd) (stage : Stage S) (own : Option S)
      → Gathers tells know id origin (know first).view olds news ends passes → length ends ≢ 0 → number ≡ length ends → (know first).number ≡ 0 → (know first).turn ≡ id → DoneAt tells know tell id origin (length ends) w worker stage
      → StageSettles tells know tell id first first' number worker new end stage own
      → ((know first').turn ≡ id) × ((know first').number ≡ 0) × Gathers tells know id origin (know first').view (olds ++ tell w ∷ []) (news ++ tell new ∷ []) (ends ++ end ∷ []) (passes ++ own ∷ [])
  settled first first' olds news ends passes w new worker number end Waits None g some is zero here done s =
      let serves : Serves tells 0 (know first).view (know first').view (tell w) (tell new) (length ends) end =
      subst (λ (x : ℕ × Worker P C × ℕ). Serves tells x.0 (know first).view (know first').view (tell x.1) (tell new) x.2 end) (λ i. (zero i, done.1 i, is i)) s.2 in
      let d : Done = record { before = tell w; after = tell new; first = (know first).view; last = (know first').view; end = end } in (
        s.0,
        s.1 ∙ zero,
        gathers_more (know first).view (know first').view olds news ends passes d None g
            (is_done (length ends) 0 (know first).view (know first').view (tell w) (tell new) end (inr refl) g.main_is serves) serves.pass_is
            (subst (λ (ds : List Done). Chain g.first ds (know first').view) (sym (by_both 0 g.done (d ∷ []) ∙ ap (λ (ds : List Done). done_by 0 g.done ++ ds) (by_this 0 d [] serves.pass_is)))
            (chain_more g.first (know first).view (done_by 0 g.done) d g.chain refl))
            (own_served (length ends) 0 (know first).view (know first').view (tell w) (tell new) end g.main_is serves),
      )
  settled first first' olds news ends passes w new worker number end (Ran pass told) (Some own) g some is zero here done s =
      let serves : Serves tells (length ends) done.1.0 (know own).view (tell w) (tell new) (length ends) end =
      subst (λ (x : S × Worker P C × WorkerEnd). Serves tells (length ends) done.1.0 (know x.0).view (tell w) (tell x.1) (length ends) x.2) (λ i. (sym s.3 i, sym s.1 i, sym s.2 i)) done.1.2 in
      let d : Done = record { before = tell w; after = tell new; first = done.1.0; last = (know own).view; end = end } in
      let same : (know first').view ≡ (know first).view = ap (λ (p : S). (know p).view) s.0 in (
        ap (λ (p : S). (know p).turn) s.0 ∙ here,
        ap (λ (p : S). (know p).number) s.0 ∙ zero,
        gathers_more (know first).view (know first').view olds news ends passes d (Some own) g
            (is_done (length ends) (length ends) done.1.0 (know own).view (tell w) (tell new) end (inl refl) done.1.1.own serves)
            (ap (λ (p : S). (know p).turn) s.3 ∙ done.0, refl, done.1.1.none)
            (subst (λ (x : List Done × View Origin Line). Chain g.first x.0 x.1)
            (λ i. (sym (by_both 0 g.done (d ∷ []) ∙ ap (λ (ds : List Done). done_by 0 g.done ++ ds) (by_another 0 d [] (λ none. some (sym serves.pass_is ∙ none))) ∙ append-nil (done_by 0 g.done)) i, sym same i)) g.chain)
            (subst (IsOwn origin 0) (sym same) g.main_is),
      )
  settled first first' olds news ends passes w new worker number end Waits (Some own) g some is zero here done s = absurd s
  settled first first' olds news ends passes w new worker number end (Asks pass) own g some is zero here done s = absurd done
  settled first first' olds news ends passes w new worker number end (Ran pass told) None g some is zero here done s = absurd s

  gathered_more : (first first' : S) (all news : List (Worker P C)) (ends : List WorkerEnd) (passes : List (Option S)) (jobs rest : List (Job S P C)) (job : Job S P C) (new : Worker P C) (end : WorkerEnd) (own : Option S)
      → Gathering tells know tell id origin (know first).view all news ends passes jobs → (know first).number ≡ 0 → (know first).turn ≡ id → jobs ≡ rest ++ job ∷ []
      → StageSettles tells know tell id first first' job.number job.worker new end job.stage own
      → ((know first').number ≡ 0) × Gathering tells know tell id origin (know first').view all (news ++ new ∷ []) (ends ++ end ∷ []) (passes ++ own ∷ []) rest
  gathered_more first first' all news ends passes jobs rest job new end own g zero here is s =
      let t = still_in (length ends) g.waiting jobs rest job g.still is in
      let w : Worker P C = t.0 in
      let more : List (Worker P C) = t.1.0 in
      let one : length ends + 1 ≡ length (ends ++ end ∷ []) = sym (length-append ends (end ∷ [])) in
      let next = settled first first' (map tell g.behind) (map tell news) ends passes w new job.worker job.number end job.stage own g.gathered g.count t.1.2.0 zero here t.1.2.1 s in (
        next.1,
        record {
          behind = g.behind ++ w ∷ [];
          waiting = more;
          all_are = g.all_are ∙ ap (λ (ws : List (Worker P C)). g.behind ++ ws) t.1.1 ∙ sym (append_assoc g.behind (w ∷ []) more);
          gathered = subst (λ (x : List WorkerSeen × List WorkerSeen). Gathers tells know id origin (know first').view x.0 x.1 (ends ++ end ∷ []) (passes ++ own ∷ []))
              (λ i. (sym (map-append tell g.behind (w ∷ [])) i, sym (map-append tell news (new ∷ [])) i)) next.2;
          count = λ none. absurd (omega (arith, none, one));
          still = subst (λ (n : ℕ). AreDone tells know tell id origin n more (reverse rest)) one t.1.2.2;
        },
      )

  pub gather_more : (first first' : S) (all news news' : List (Worker P C)) (ends ends' : List WorkerEnd) (passes passes' : List (Option S)) (jobs rest : List (Job S P C)) (job : Job S P C) (new : Worker P C) (end : WorkerEnd) (own : Option S)
      → Gathering tells know tell id origin (know first).view all news ends passes jobs → (know first).number ≡ 0 → (know first).turn ≡ id → jobs ≡ rest ++ job ∷ []
      → StageSettles tells know tell id first first' job.number job.worker new end job.stage own → news' ≡ news ++ new ∷ [] → ends' ≡ ends ++ end ∷ [] → passes' ≡ passes ++ own ∷ []
      → ((know first').number ≡ 0) × Gathering tells know tell id origin (know first').view all news' ends' passes' rest
  gather_more first first' all news news' ends ends' passes passes' jobs rest job new end own g zero here is s news_are ends_are passes_are =
      subst (λ (y : List (Worker P C) × List WorkerEnd × List (Option S)). ((know first').number ≡ 0) × Gathering tells know tell id origin (know first').view all y.0 y.1 y.2 rest)
      (λ i. (sym news_are i, sym ends_are i, sym passes_are i)) (gathered_more first first' all news ends passes jobs rest job new end own g zero here is s)

  -- all of them
  pub gathered_all : (main : View Origin Line) (all news : List (Worker P C)) (ends : List WorkerEnd) (passes : List (Option S)) (jobs : List (Job S P C)) → Gathering tells know tell id origin main all news ends passes jobs → jobs ≡ []
      → Gathers tells know id origin main (map tell all) (map tell news) ends passes
  gathered_all main all news ends passes jobs g none = part g.waiting g.all_are (subst (λ (js : List (Job S P C)). AreDone tells know tell id origin (length ends) g.waiting (reverse js)) none g.still) where
    part : (ws : List (Worker P C)) → all ≡ g.behind ++ ws → AreDone tells know tell id origin (length ends) ws [] → Gathers tells know id origin main (map tell all) (map tell news) ends passes
    part [] is d = subst (λ (ws : List (Worker P C)). Gathers tells know id origin main (map tell ws) (map tell news) ends passes) (sym (is ∙ append-nil g.behind)) g.gathered
    part (w ∷ ws) is d = absurd d

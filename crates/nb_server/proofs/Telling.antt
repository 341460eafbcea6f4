-- What was done, against the chronicle.
use Rattle.std.proofs.Common.{◌≡◌, ◌≢◌, ◌⊎◌, inl, inr, ⊎_elim, ℕ, ◌+◌, ◌<◌, ◌≤◌, zero, suc, Bool, true, false, cond, eqb, List, [], ◌∷◌, ◌++◌, length, map, take, Option, None, Some, refl, sym, ap, subst, ◌∙◌, arith}
use Rattle.std.specs.Prelude.{slice_get}
use Rattle.std.specs.List.{AllByRecursion, flat_map}
use Rattle.std.proofs.lemmas.Bool.{eqb-true, eqb-false}
use Rattle.std.proofs.lemmas.List.{length-append}
use Rattle.std.proofs.lemmas.Option.{same_Some}
use Rattle.nb_port.specs.Tells.{DiskTells}
use Rattle.nb_port.specs.Faults.{Backed}
use Rattle.nb_turns.specs.declared.line.Line.{Line}
use Rattle.nb_turns.specs.Lines.{failures_in, maker_of}
use Rattle.nb_turn.specs.declared.chronicle.View.{View}
use Rattle.nb_turn.specs.Lines.{LonePart, StartsWith, lines_by}
use Rattle.nb_turn.specs.Passes.{TableId}
use Rattle.nb_turn.proofs.Lists.{front_is, starts-refl, starts-trans}
use Rattle.nb_vault.specs.declared.origin.Origin.{Origin}
use Rattle.nb_vault.specs.Vaults.{Chronicled, Keeps}
use Rattle.nb_desk.specs.Desks.{MeetsVault}
use Rattle.nb_session.specs.declared.ended.Record.{Record}
use Rattle.nb_session.specs.Session.{Gave}
use Rattle.nb_session.proofs.Completing.{lines_tell}
use Rattle.nb_session.proofs.Going.{gave_none, gave_both}
use Rattle.nb_server.specs.declared.worker.WorkerEnd.{WorkerEnd}
use Rattle.nb_server.specs.Served.{AllSessions, AreInOrder, AreServed, AllStandIn, InOrder, IsServed, StandsIn, SessionsIn, Sessioned, WorkerSeen, ends_by, moments_told, records_by, records_of}
use Rattle.nb_server.specs.Steps.{AreHeld, Chain, Done, Gathers, IsDone, IsOwn, JoinsAll, PassSeen, Sessions, StandAlone, WereDone, done_by}
use Rattle.nb_server.proofs.Working.{own_behind}
use Rattle.nb_server.proofs.Gathering.{by_this, by_another}

below : (a b : ℕ) → (a < b) ⊎ (b ≤ a)
below a zero = inr (omega arith)
below zero (suc b) = inl (omega arith)
below (suc a) (suc b) = ⊎_elim (λ (less : a < b). inl (omega (arith, less))) (λ (more : b ≤ a). inr (omega (arith, more))) (below a b)

-- ---- sessions

module _ {D : Type 0} (tells : DiskTells D) (by : ℕ) where
  -- what the pass had seen stays
  sees_more : (number : ℕ) (v w : View Origin Line) (clock clock' : Option (List ℕ)) (ss : List Sessioned) → Sessions tells by number v clock ss w clock' → StartsWith w.seen v.seen
  sees_more number v w clock clock' [] are = subst (λ (x : View Origin Line). StartsWith x.seen v.seen) (sym are.0) (starts-refl v.seen)
  sees_more number v w clock clock' (s ∷ ss) are =
      let t = lines_tell tells by s.first s.last s.given s.taken clock s.clock s.told.moments.items s.told.marks.items s.told.end are.1.session in
      starts-trans w.seen s.last.seen v.seen (sees_more (number + 1) s.last w s.clock clock' ss are.2) (subst (λ (x : View Origin Line). StartsWith s.last.seen x.seen) are.0 (_, t.seen_grows))

  -- the sessions of a pass, over lines that begin with what it has seen
  sessions_in : (origin : Origin) (lines : List Line) (number : ℕ) (v w : View Origin Line) (clock clock' : Option (List ℕ)) (ss : List Sessioned) → Sessions tells by number v clock ss w clock' → v.origin ≡ Some origin
      → StartsWith lines w.seen → SessionsIn tells origin lines by number clock ss clock'
  sessions_in origin lines number v w clock clock' [] are from starts = are.1
  sessions_in origin lines number v w clock clock' (s ∷ ss) are from starts =
      let first : s.first.origin ≡ Some origin = ap (λ (x : View Origin Line). x.origin) are.0 ∙ from in
      let t = lines_tell tells by s.first s.last s.given s.taken clock s.clock s.told.moments.items s.told.marks.items s.told.end are.1.session in
      let last : StartsWith lines s.last.seen = starts-trans lines w.seen s.last.seen starts (sees_more (number + 1) s.last w s.clock clock' ss are.2) in
      let before : StartsWith lines s.first.seen = starts-trans lines s.last.seen s.first.seen last (_, t.seen_grows) in (
        record {
          told = are.1;
          origin_is = first;
          before = sym (front_is lines s.first.seen before.0 before.1) ∙ ap (λ (n : ℕ). take n lines) (sym are.1.before);
          behind = sym (front_is lines s.last.seen last.0 last.1) ∙ ap (λ (n : ℕ). take n lines) (sym are.1.behind);
        },
        sessions_in origin lines (number + 1) s.last w s.clock clock' ss are.2 (are.1.session.same_origin ∙ first) starts,
      )

  -- their records follow one another
  sessions_order : (number : ℕ) (v w : View Origin Line) (clock clock' : Option (List ℕ)) (ss : List Sessioned) → Sessions tells by number v clock ss w clock' → InOrder (length v.seen) (records_of ss) (length w.seen)
  sessions_order number v w clock clock' [] are = ap (λ (x : View Origin Line). length x.seen) are.0
  sessions_order number v w clock clock' (s ∷ ss) are =
      let t = lines_tell tells by s.first s.last s.given s.taken clock s.clock s.told.moments.items s.told.marks.items s.told.end are.1.session in
      let first : length s.first.seen ≡ length v.seen = ap (λ (x : View Origin Line). length x.seen) are.0 in (
        are.1.before ∙ first,
        omega (arith, first, are.1.behind, t.count_grows),
        subst (λ (n : ℕ). InOrder n (records_of ss) (length w.seen)) (sym are.1.behind) (sessions_order (number + 1) s.last w s.clock clock' ss are.2),
      )

  -- the clock gave their moments
  sessions_moments : (number : ℕ) (v w : View Origin Line) (clock clock' : Option (List ℕ)) (ss : List Sessioned) → Sessions tells by number v clock ss w clock' → Gave clock clock' (moments_told (records_of ss))
  sessions_moments number v w clock clock' [] are = subst (λ (x : Option (List ℕ)). Gave clock x []) (sym are.1) (gave_none clock)
  sessions_moments number v w clock clock' (s ∷ ss) are =
      gave_both clock s.clock clock' s.told.moments.items (moments_told (records_of ss)) are.1.session.asked (sessions_moments (number + 1) s.last w s.clock clock' ss are.2)

-- ---- one worker

module _ {D : Type 0} (tells : DiskTells D) (origin : Origin) (lines : List Line) where
  served_one : (n : ℕ) (d : Done) → IsDone tells (Some origin) n d → StartsWith lines d.last.seen → IsServed tells origin lines n d.before d.after d.end
  served_one n d is starts =
      let worked = is.serves.worked in
      record {
        sessions = worked.sessions;
        worker_is = is.serves.worker_is;
        pass_is = is.by_own;
        are = sessions_in tells d.end.pass origin lines 0 d.first d.last d.before.clock d.after.clock worked.sessions worked.are is.own.origin_is starts;
        records_are = worked.records_are;
        given = worked.given;
        taken = worked.taken;
        out = worked.out;
        left = worked.left;
        count = worked.count;
        moments = subst (λ (rs : List Record). Gave d.before.clock d.after.clock (moments_told rs)) (sym worked.records_are) (sessions_moments tells d.end.pass 0 d.first d.last d.before.clock d.after.clock worked.sessions worked.are);
        how = is.serves.how;
      }

  served_all : (n : ℕ) (ds : List Done) → WereDone tells (Some origin) n ds → AllByRecursion (λ (d : Done). StartsWith lines d.last.seen) ds
      → AreServed tells origin lines n (map (λ (d : Done). d.before) ds) (map (λ (d : Done). d.after) ds) (map (λ (d : Done). d.end) ds)
  served_all n [] were starts = tt
  served_all n (d ∷ ds) were starts = (served_one n d were.0 starts.0, served_all (n + 1) ds were.1 starts.1)

-- ---- the records of one number

-- places within
order_within : (from to : ℕ) (records : List Record) → InOrder from records to → (place : ℕ) → from ≤ place → place < to → StandsIn place records
order_within from to [] order place least most = absurd (omega (arith, order, least, most))
order_within from to (r ∷ rs) order place least most =
    ⊎_elim (λ (less : place < r.seen_after). inl (omega (arith, order.0, least), less)) (λ (more : r.seen_after ≤ place). inr (order_within r.seen_after to rs order.2 place more most)) (below place r.seen_after)

order_both : (from mid to : ℕ) (rs ss : List Record) → InOrder from rs mid → InOrder mid ss to → InOrder from (rs ++ ss) to
order_both from mid to [] ss first then = subst (λ (n : ℕ). InOrder n ss to) first then
order_both from mid to (r ∷ rs) ss first then = (first.0, first.1, order_both r.seen_after mid to rs ss first.2 then)

abbrev IsOrdered : Done → Type 0
IsOrdered d = InOrder (length d.first.seen) d.end.records.items (length d.last.seen)

abbrev records_in : List Done → List Record
records_in ds = flat_map (λ (d : Done). d.end.records.items) ds

chain_order : (first last : View Origin Line) (ds : List Done) → AllByRecursion IsOrdered ds → Chain first ds last → InOrder (length first.seen) (records_in ds) (length last.seen)
chain_order first last [] all chain = ap (λ (v : View Origin Line). length v.seen) chain
chain_order first last (d ∷ ds) all chain =
    order_both (length first.seen) (length d.last.seen) (length last.seen) d.end.records.items (records_in ds)
    (subst (λ (v : View Origin Line). InOrder (length v.seen) d.end.records.items (length d.last.seen)) chain.0 all.0) (chain_order d.last last ds all.1 chain.1)

-- what holds of all holds of those that asked with one pass
kept_by : (P : Done → Type 0) (by : ℕ) (ds : List Done) → AllByRecursion P ds → AllByRecursion P (done_by by ds)
kept_by P by [] all = tt
kept_by P by (d ∷ ds) all = part (eqb d.end.pass by) (kept_by P by ds all.1) where
  part : (c : Bool) → AllByRecursion P (done_by by ds) → AllByRecursion P (cond c (d ∷ done_by by ds) (done_by by ds))
  part true rest = (all.0, rest)
  part false rest = rest

-- the records, by the ends and by what was done
records_same : (by : ℕ) (ds : List Done) → records_by by (map (λ (d : Done). d.end) ds) ≡ records_in (done_by by ds)
records_same by [] = refl
records_same by (d ∷ ds) = part (eqb d.end.pass by) (records_same by ds) where
  part : (c : Bool) → records_by by (map (λ (x : Done). x.end) ds) ≡ records_in (done_by by ds)
      → flat_map (λ (end : WorkerEnd). end.records.items) (cond c (d.end ∷ ends_by by (map (λ (x : Done). x.end) ds)) (ends_by by (map (λ (x : Done). x.end) ds))) ≡ records_in (cond c (d ∷ done_by by ds) (done_by by ds))
  part true rest = ap (λ (rs : List Record). d.end.records.items ++ rs) rest
  part false rest = rest

none_same : (by : ℕ) (ds : List Done) → done_by by ds ≡ [] → ends_by by (map (λ (d : Done). d.end) ds) ≡ []
none_same by [] none = refl
none_same by (d ∷ ds) none = part (eqb d.end.pass by) none (none_same by ds) where
  part : (c : Bool) → cond c (d ∷ done_by by ds) (done_by by ds) ≡ [] → (done_by by ds ≡ [] → ends_by by (map (λ (x : Done). x.end) ds) ≡ [])
      → cond c (d.end ∷ ends_by by (map (λ (x : Done). x.end) ds)) (ends_by by (map (λ (x : Done). x.end) ds)) ≡ []
  part true none rest = let one : suc (length (done_by by ds)) ≡ 0 = ap length none in absurd (omega (arith, one))
  part false none rest = rest none

-- ---- lines

-- behind the lines of a number none of it stands
none_behind : (by : ℕ) (ls more : List Line) (place : ℕ) (line : Line) → lines_by maker_of by more ≡ [] → length ls ≤ place → slice_get (ls ++ more) place ≡ Some line → maker_of line ≡ by → ⊥
none_behind by [] [] place line none least at is = absurd cc
none_behind by [] (l ∷ more) zero line none least at is = part (eqb (maker_of l) by) refl none where
  part : (c : Bool) → eqb (maker_of l) by ≡ c → cond c (l ∷ lines_by maker_of by more) (lines_by maker_of by more) ≡ [] → ⊥
  part true same empty = let one : suc (length (lines_by maker_of by more)) ≡ 0 = ap length empty in absurd (omega (arith, one))
  part false other empty = eqb-false (maker_of l) by other (ap maker_of (same_Some l line at) ∙ is)
none_behind by [] (l ∷ more) (suc place) line none least at is = none_behind by [] more place line (part (eqb (maker_of l) by) none) (omega arith) at is where
  part : (c : Bool) → cond c (l ∷ lines_by maker_of by more) (lines_by maker_of by more) ≡ [] → lines_by maker_of by more ≡ []
  part true empty = let one : suc (length (lines_by maker_of by more)) ≡ 0 = ap length empty in absurd (omega (arith, one))
  part false empty = empty
none_behind by (l ∷ ls) more zero line none least at is = absurd (omega (arith, least))
none_behind by (l ∷ ls) more (suc place) line none least at is = none_behind by ls more place line none (omega (arith, least)) at is

-- ---- by number

-- those that asked with the pass of this number, one after another; where there are some, none of its lines stands behind what it has seen last
record Told (lines : List Line) (by : ℕ) (ds : List Done) : Type 0 where
  first : View Origin Line
  last : View Origin Line
  none : first.seen ≡ []
  chain : Chain first (done_by by ds) last
  starts : StartsWith lines last.seen
  alone : done_by by ds ≢ [] → LonePart maker_of lines (by, last.seen)

module _ (lines : List Line) (by : ℕ) (ds : List Done) (ordered : AllByRecursion IsOrdered ds) (t : Told lines by ds) where
  told_order : InOrder 0 (records_by by (map (λ (d : Done). d.end) ds)) (length t.last.seen)
  told_order = subst (λ (x : ℕ × List Record). InOrder x.0 x.1 (length t.last.seen)) (λ i. (ap length t.none i, sym (records_same by ds) i))
      (chain_order t.first t.last (done_by by ds) (kept_by IsOrdered by ds ordered) t.chain)

  told_in_order : AreInOrder lines (records_by by (map (λ (d : Done). d.end) ds))
  told_in_order = record {
    last = length t.last.seen;
    in_order = told_order;
    within = omega (arith, ap length t.starts.1, length-append t.last.seen t.starts.0);
  }

  told_within : ends_by by (map (λ (d : Done). d.end) ds) ≢ [] → AllStandIn by lines (records_by by (map (λ (d : Done). d.end) ds))
  told_within some place line at is = part (below place (length t.last.seen)) where
    part : (place < length t.last.seen) ⊎ (length t.last.seen ≤ place) → StandsIn place (records_by by (map (λ (d : Done). d.end) ds))
    part (inl less) = order_within 0 (length t.last.seen) (records_by by (map (λ (d : Done). d.end) ds)) told_order place (omega arith) less
    part (inr more) =
        let lone = t.alone (λ none. some (none_same by ds none)) in
        absurd (none_behind by t.last.seen lone.0 place line lone.2 more (subst (λ (ls : List Line). slice_get ls place ≡ Some line) lone.1 at) is)

module _ {D S : Type 0} (tells : DiskTells D) (know : S → PassSeen) (id : TableId) (origin : Option Origin) (lines : List Line) where
  -- none of those further on asked with this number
  none_later : (by n : ℕ) (ds : List Done) → by ≢ 0 → by < n → WereDone tells origin n ds → done_by by ds ≡ []
  none_later by n [] some less were = refl
  none_later by n (d ∷ ds) some less were =
      by_another by d ds (λ same. ⊎_elim (λ (own : d.end.pass ≡ n). absurd (omega (arith, same, own, less))) (λ (none : d.end.pass ≡ 0). some (sym same ∙ none)) were.0.by_own)
      ∙ none_later by (n + 1) ds some (omega (arith, less)) were.1

  -- the part of a worker's own pass
  own_alone : (n : ℕ) (d : Done) (pass : S) → IsDone tells origin n d → (know pass).view ≡ d.last → AllByRecursion (LonePart maker_of lines) (know pass).view.parts → LonePart maker_of lines (d.end.pass, d.last.seen)
  own_alone n d pass is view alone =
      let own : IsOwn origin d.end.pass d.last = own_behind tells d.end.pass origin d.first d.last d.before d.after d.end.records.items is.serves.worked is.own in
      (subst (AllByRecursion (LonePart maker_of lines)) (ap (λ (v : View Origin Line). v.parts) view ∙ own.parts_are) alone).0

  -- of a number that is not the first pass's there is one worker at most
  told_other : (by n : ℕ) (ds : List Done) (ps : List (Option S)) (fresh : View Origin Line) → fresh.seen ≡ [] → by ≢ 0 → WereDone tells origin n ds → AreHeld know id ds ps → StandAlone know lines ps → Told lines by ds
  told_other by n [] ps fresh none some were held alone = record {
    first = fresh;
    last = fresh;
    none = none;
    chain = refl;
    starts = (lines, ap (λ (ls : List Line). ls ++ lines) (sym none));
    alone = λ empty. absurd (empty refl);
  }
  told_other by n (d ∷ ds) [] fresh none some were held alone = absurd held
  told_other by n (d ∷ ds) (None ∷ ps) fresh none some were held alone =
      let rest = told_other by (n + 1) ds ps fresh none some were.1 held.1 alone in
      let same : done_by by (d ∷ ds) ≡ done_by by ds = by_another by d ds (λ is. some (sym is ∙ held.0)) in
      record {
        first = rest.first;
        last = rest.last;
        none = rest.none;
        chain = subst (λ (xs : List Done). Chain rest.first xs rest.last) (sym same) rest.chain;
        starts = rest.starts;
        alone = λ empty. rest.alone (λ e. empty (same ∙ e));
      }
  told_other by n (d ∷ ds) (Some pass ∷ ps) fresh none some were held alone = part (eqb d.end.pass by) refl (told_other by (n + 1) ds ps fresh none some were.1 held.1 alone.1) where
    part : (c : Bool) → eqb d.end.pass by ≡ c → Told lines by ds → Told lines by (d ∷ ds)
    part true test rest =
        let is : d.end.pass ≡ by = eqb-true d.end.pass by test in
        let own : d.end.pass ≡ n = ⊎_elim (λ (o : d.end.pass ≡ n). o) (λ (none : d.end.pass ≡ 0). absurd (some (sym is ∙ none))) were.0.by_own in
        let same : done_by by (d ∷ ds) ≡ d ∷ [] = by_this by d ds is ∙ ap (λ (xs : List Done). d ∷ xs) (none_later by (n + 1) ds some (omega (arith, is, own)) were.1) in
        let lone : LonePart maker_of lines (by, d.last.seen) = subst (λ (k : ℕ). LonePart maker_of lines (k, d.last.seen)) is (own_alone n d pass were.0 held.0.1 alone.0) in
        record {
          first = d.first;
          last = d.last;
          none = held.0.2;
          chain = subst (λ (xs : List Done). Chain d.first xs d.last) (sym same) (refl, refl);
          starts = (lone.0, lone.1);
          alone = λ empty. lone;
        }
    part false test rest =
        let same : done_by by (d ∷ ds) ≡ done_by by ds = by_another by d ds (eqb-false d.end.pass by test) in
        record {
          first = rest.first;
          last = rest.last;
          none = rest.none;
          chain = subst (λ (xs : List Done). Chain rest.first xs rest.last) (sym same) rest.chain;
          starts = rest.starts;
          alone = λ empty. rest.alone (λ e. empty (same ∙ e));
        }

  -- ---- what each has seen begins the lines

  grown : (n : ℕ) (d : Done) → IsDone tells origin n d → StartsWith d.last.seen d.first.seen
  grown n d is = sees_more tells d.end.pass 0 d.first d.last d.before.clock d.after.clock is.serves.worked.sessions is.serves.worked.are

  grown_all : (n : ℕ) (ds : List Done) → WereDone tells origin n ds → AllByRecursion (λ (d : Done). StartsWith d.last.seen d.first.seen) ds
  grown_all n [] were = tt
  grown_all n (d ∷ ds) were = (grown n d were.0, grown_all (n + 1) ds were.1)

  ordered_all : (n : ℕ) (ds : List Done) → WereDone tells origin n ds → AllByRecursion IsOrdered ds
  ordered_all n [] were = tt
  ordered_all n (d ∷ ds) were = (
    subst (λ (rs : List Record). InOrder (length d.first.seen) rs (length d.last.seen)) (sym were.0.serves.worked.records_are)
        (sessions_order tells d.end.pass 0 d.first d.last d.before.clock d.after.clock were.0.serves.worked.sessions were.0.serves.worked.are),
    ordered_all (n + 1) ds were.1,
  )

  chain_grows : (first last : View Origin Line) (ds : List Done) → AllByRecursion (λ (d : Done). StartsWith d.last.seen d.first.seen) ds → Chain first ds last → StartsWith last.seen first.seen
  chain_grows first last [] all chain = subst (λ (v : View Origin Line). StartsWith v.seen first.seen) (sym chain) (starts-refl first.seen)
  chain_grows first last (d ∷ ds) all chain = starts-trans last.seen d.last.seen first.seen (chain_grows d.last last ds all.1 chain.1) (subst (λ (v : View Origin Line). StartsWith d.last.seen v.seen) chain.0 all.0)

  chain_starts : (first last : View Origin Line) (ds : List Done) → AllByRecursion (λ (d : Done). StartsWith d.last.seen d.first.seen) ds → Chain first ds last → StartsWith lines last.seen → AllByRecursion (λ (d : Done). StartsWith lines d.last.seen) ds
  chain_starts first last [] all chain starts = tt
  chain_starts first last (d ∷ ds) all chain starts = (starts-trans lines last.seen d.last.seen starts (chain_grows d.last last ds all.1 chain.1), chain_starts d.last last ds all.1 chain.1 starts)

  -- it is so of those that asked with the first pass, and of the others
  starts_all : (n : ℕ) (ds : List Done) (ps : List (Option S)) → WereDone tells origin n ds → AreHeld know id ds ps → StandAlone know lines ps → AllByRecursion (λ (d : Done). StartsWith lines d.last.seen) (done_by 0 ds)
      → AllByRecursion (λ (d : Done). StartsWith lines d.last.seen) ds
  starts_all n [] ps were held alone zeros = tt
  starts_all n (d ∷ ds) [] were held alone zeros = absurd held
  starts_all n (d ∷ ds) (None ∷ ps) were held alone zeros =
      let all : AllByRecursion (λ (x : Done). StartsWith lines x.last.seen) (d ∷ done_by 0 ds) = subst (AllByRecursion (λ (x : Done). StartsWith lines x.last.seen)) (by_this 0 d ds held.0) zeros in
      (all.0, starts_all (n + 1) ds ps were.1 held.1 alone all.1)
  starts_all n (d ∷ ds) (Some pass ∷ ps) were held alone zeros =
      let lone = own_alone n d pass were.0 held.0.1 alone.0 in
      ((lone.0, lone.1), starts_all (n + 1) ds ps were.1 held.1 alone.1 (part (eqb d.end.pass 0) zeros))
    where
      part : (c : Bool) → AllByRecursion (λ (x : Done). StartsWith lines x.last.seen) (cond c (d ∷ done_by 0 ds) (done_by 0 ds)) → AllByRecursion (λ (x : Done). StartsWith lines x.last.seen) (done_by 0 ds)
      part true all = all.1
      part false all = all

-- ---- all of it

module _ {D S : Type 0} (tells : DiskTells D) (know : S → PassSeen) (id : TableId) (old new : Chronicled D) (main last : View Origin Line) (olds news : List WorkerSeen) (ends : List WorkerEnd) (passes : List (Option S)) where
  told_sessions : Gathers tells know id (Some old.origin) main olds news ends passes → JoinsAll know main passes last → MeetsVault last new → Keeps tells new → AllSessions tells old new olds news ends
  told_sessions g joins meets keeps =
      let both = joins.1 new.lines meets.parts in
      let zero_alone : LonePart maker_of new.lines (0, main.seen) = (subst (AllByRecursion (LonePart maker_of new.lines)) g.main_is.parts_are both.0).0 in
      let starts : StartsWith new.lines main.seen = (zero_alone.0, zero_alone.1) in
      let ordered = ordered_all tells know id (Some old.origin) new.lines 0 g.done g.were in
      let zeros = chain_starts tells know id (Some old.origin) new.lines g.first main (done_by 0 g.done)
      (kept_by (λ (d : Done). StartsWith d.last.seen d.first.seen) 0 g.done (grown_all tells know id (Some old.origin) new.lines 0 g.done g.were)) g.chain starts in
      let all = starts_all tells know id (Some old.origin) new.lines 0 g.done passes g.were g.held both.1 zeros in
      let origin : old.origin ≡ new.origin = same_Some old.origin new.origin (sym (joins.0 ∙ g.main_is.origin_is) ∙ meets.origin_is) in
      let by_number = λ (by : ℕ). told by starts zero_alone both.1 in
      record {
        origin = sym origin;
        backed = subst (λ (o : Origin). Backed o.faults (failures_in new.lines) (tells.faults new.disk)) (sym origin) keeps.backed;
        sound = keeps.sound;
        legal = keeps.legal;
        at_rest = record { bytes = keeps.bytes; images = keeps.images };
        keeps = keeps;
        workers = subst (λ (x : List WorkerSeen × List WorkerSeen × List WorkerEnd). AreServed tells old.origin new.lines 0 x.0 x.1 x.2) (λ i. (sym g.olds_are i, sym g.news_are i, sym g.ends_are i))
            (served_all tells old.origin new.lines 0 g.done g.were all);
        in_order = λ by. subst (λ (es : List WorkerEnd). AreInOrder new.lines (records_by by es)) (sym g.ends_are) (told_in_order new.lines by g.done ordered (by_number by));
        within = λ by. subst (λ (es : List WorkerEnd). ends_by by es ≢ [] → AllStandIn by new.lines (records_by by es)) (sym g.ends_are) (told_within new.lines by g.done ordered (by_number by));
      }
    where
      told : (by : ℕ) → StartsWith new.lines main.seen → LonePart maker_of new.lines (0, main.seen) → StandAlone know new.lines passes → Told new.lines by g.done
      told zero starts alone others = record { first = g.first; last = main; none = g.none; chain = g.chain; starts = starts; alone = λ empty. alone }
      told (suc by) starts alone others = told_other tells know id (Some old.origin) new.lines (suc by) 0 g.done passes g.first g.none (λ e. absurd (omega (arith, e))) g.were g.held others

  pub all_sessions : (origin : Option Origin) → origin ≡ Some old.origin → Gathers tells know id origin main olds news ends passes → JoinsAll know main passes last → MeetsVault last new → Keeps tells new
      → AllSessions tells old new olds news ends
  all_sessions origin is g joins meets keeps = told_sessions (subst (λ (o : Option Origin). Gathers tells know id o main olds news ends passes) is g) joins meets keeps

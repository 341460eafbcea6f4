-- Where nothing fails.
use Rattle.std.proofs.Common.{◌≡◌, ◌⊎◌, inl, inr, ⊎_elim, ℕ, ◌+◌, suc, Bool, true, false, true≢false, is_some, cond, eqb, List, [], ◌∷◌, ◌++◌, length, take, drop, Option, None, Some, refl, sym, ap, subst, ◌∙◌, take-append-drop, arith}
use Rattle.std.specs.List.{AllByRecursion}
use Rattle.std.proofs.lemmas.List.{append_cancel_left}
use Rattle.std.proofs.lemmas.List.Sums.{sum_by-cons}
use Rattle.std.proofs.lemmas.Option.{same_Some}
use Rattle.nb_port.specs.Tells.{DiskTells}
use Rattle.nb_port.specs.Faults.{Backed, Failure, Rose}
use Rattle.nb_link.specs.Link.{LinkSeen}
use Rattle.nb_units.specs.Frames.{Frame}
use Rattle.nb_turns.specs.declared.line.Line.{Line}
use Rattle.nb_turns.specs.declared.line.Line.TheVariants.{Commit, Adopted, Doubt, Fault}
use Rattle.nb_turns.specs.Lines.{failures_in, faults_of, is_fault, lines_by, maker_of}
use Rattle.nb_turns.specs.Callers.{lines_since, own_lines}
use Rattle.nb_vault.specs.declared.origin.Origin.{Origin}
use Rattle.nb_session.specs.declared.ended.Record.{Record}
use Rattle.nb_session.specs.declared.ended.SessionEnd.TheVariants as ends
use Rattle.nb_session.specs.Laws.{AnswersEach, GivesFrames, NoFaults}
use Rattle.nb_session.specs.Session.{frames_in}
use Rattle.nb_session.proofs.Completing.{as_many, complete, lines_tell}
use Rattle.nb_server.specs.declared.worker.How.{How}
use Rattle.nb_server.specs.declared.worker.How.TheVariants as how
use Rattle.nb_server.specs.declared.worker.WorkerEnd.{WorkerEnd}
use Rattle.nb_server.specs.Served.{AreServed, HowIs, IsServed, IsSessionIn, SessionsIn, Sessioned, WorkerSeen, links_given, records_of, links_taken, with_given, with_taken}
use Rattle.nb_server.specs.Laws.{AllServeWhole, AreFaultless, AreWhole, Completes, GaveFrames, IsFaultless, IsServedWhole, ServesWhole}

-- ---- a count that did not rise

still_rose : (from mid to : ℕ) (fs : List Failure) → Rose from mid → Backed mid fs to → Rose from to
still_rose from mid to [] rose backed = omega (arith, rose, backed)
still_rose from mid to (f ∷ fs) rose backed = still_rose from f.after to fs (omega (arith, rose, backed.0, backed.1)) backed.2

no_failures : (from to : ℕ) (fs : List Failure) → (Rose from to → ⊥) → Backed from fs to → fs ≡ []
no_failures from to [] none backed = refl
no_failures from to (f ∷ fs) none backed = absurd (none (still_rose from f.after to fs (omega (arith, backed.0, backed.1)) backed.2))

-- ---- lines without a fault

abbrev IsSound : Line → Type 0
IsSound line = is_fault line ≡ false

no_fault_lines : (lines : List Line) → failures_in lines ≡ [] → AllByRecursion IsSound lines
no_fault_lines [] none = tt
no_fault_lines (Commit by turn entry ∷ lines) none = (refl, no_fault_lines lines none)
no_fault_lines (Adopted by turn entry ∷ lines) none = (refl, no_fault_lines lines none)
no_fault_lines (Doubt by turn entry ∷ lines) none = (refl, no_fault_lines lines none)
no_fault_lines (Fault by turn before after ∷ lines) none = let one : suc (length (failures_in lines)) ≡ 0 = ap length none in absurd (omega (arith, one))

no_faults_told : (lines : List Line) → AllByRecursion IsSound lines → faults_of lines ≡ 0
no_faults_told [] all = refl
no_faults_told (line ∷ lines) all =
    let told : Bool → ℕ = λ b. cond b 1 0 in
    let one : told (is_fault line) ≡ 0 = ap told all.0 in
    sum_by-cons (λ (l : Line). cond (is_fault l) 1 0) line lines ∙ omega (arith, one, no_faults_told lines all.1)

all_front : (front rest : List Line) → AllByRecursion IsSound (front ++ rest) → AllByRecursion IsSound front × AllByRecursion IsSound rest
all_front [] rest all = (tt, all)
all_front (line ∷ front) rest all = let more = all_front front rest all.1 in ((all.0, more.0), more.1)

all_by : (by : ℕ) (lines : List Line) → AllByRecursion IsSound lines → AllByRecursion IsSound (lines_by by lines)
all_by by [] all = tt
all_by by (line ∷ lines) all = part (eqb (maker_of line) by) (all_by by lines all.1) where
  part : (c : Bool) → AllByRecursion IsSound (lines_by by lines) → AllByRecursion IsSound (cond c (line ∷ lines_by by lines) (lines_by by lines))
  part true rest = (all.0, rest)
  part false rest = rest

module _ {D : Type 0} (tells : DiskTells D) (origin : Origin) (lines : List Line) (sound : AllByRecursion IsSound lines) (by : ℕ) where
  -- ---- one session

  quiet : (number : ℕ) (clock : Option (List ℕ)) (s : Sessioned) → (is : IsSessionIn tells origin lines by number clock s) → NoFaults is.told.session.turns s.last.seen
  quiet number clock s is =
      let t = lines_tell tells by s.first s.last s.given s.taken clock s.clock s.told.moments.items s.told.marks.items s.told.end is.told.session in
      let last : AllByRecursion IsSound s.last.seen = subst (AllByRecursion IsSound) (sym is.behind) (all_front (take s.told.seen_after lines) (drop s.told.seen_after lines) (subst (AllByRecursion IsSound) (sym (take-append-drop s.told.seen_after lines)) sound)).0 in
      let since : AllByRecursion IsSound (lines_since is.told.session.turns) = (all_front s.first.seen (lines_since is.told.session.turns) (subst (AllByRecursion IsSound) t.seen_grows last)).1 in
      let own : AllByRecursion IsSound (own_lines is.told.session.turns) = subst (AllByRecursion IsSound) t.own_alone (all_by by (lines_since is.told.session.turns) since) in
      let few : faults_of s.last.seen ≡ 0 = no_faults_told s.last.seen last in
      record { none = no_faults_told (own_lines is.told.session.turns) own; few = omega (arith, few) }

  whole_one : (number : ℕ) (clock : Option (List ℕ)) (s : Sessioned) (frames : List Frame) → IsSessionIn tells origin lines by number clock s → GivesFrames s.given s.taken frames → (s.told.end ≡ ends.NoMemory) ⊎ IsServedWhole s.given s.told
  whole_one number clock s frames is gives =
      let counts = as_many tells by s.first s.last s.given s.taken clock s.clock s.told.moments.items s.told.marks.items s.told.end is.told.session in
      ⊎_elim (λ (none : s.told.end ≡ ends.NoMemory). inl none)
      (λ (each : AnswersEach (frames_in is.told.session.turns) frames s.told.marks.items s.told.end). inr (record {
        frames = frames;
        left = gives.gives.left;
        clean = each.clean;
        answered = counts.marks_are ∙ ap length each.all;
        decided = each.decided;
      }))
      (complete tells by s.first s.last s.given s.taken clock s.clock s.told.moments.items s.told.marks.items s.told.end frames is.told.session gives (quiet number clock s is))

  -- ---- the sessions of one worker

  whole_each : (number : ℕ) (clock clock' : Option (List ℕ)) (ss : List Sessioned) (rest : List LinkSeen) → SessionsIn tells origin lines by number clock ss clock' → GaveFrames (links_given ss ++ rest) (links_taken ss) → AreWhole (links_given ss ++ rest) (records_of ss)
  whole_each number clock clock' [] rest are gave = tt
  whole_each number clock clock' (s ∷ ss) rest are gave = (whole_one number clock s gave.0.0 are.0 gave.0.1, whole_each (number + 1) s.clock clock' ss rest are.1 gave.1)

-- the links that were given are the first of those that were to come
first_given : (given gs : List LinkSeen) (old new : Option (List LinkSeen)) → old ≡ Some given → old ≡ with_given gs new → (rest : List LinkSeen) × (given ≡ gs ++ rest)
first_given given gs old None is told = absurd (true≢false (ap is_some (sym is ∙ told)))
first_given given gs old (Some rest) is told = (rest, same_Some given (gs ++ rest) (sym is ∙ told))

last_taken : (before taken ts : List LinkSeen) (old new : Option (List LinkSeen)) → old ≡ Some before → new ≡ Some (before ++ taken) → new ≡ with_taken ts old → taken ≡ ts
last_taken before taken ts old new old_is new_is told =
    append_cancel_left before taken ts (same_Some (before ++ taken) (before ++ ts) (sym new_is ∙ told ∙ ap (with_taken ts) old_is))

module _ {D : Type 0} (tells : DiskTells D) (origin : Origin) (lines : List Line) (sound : AllByRecursion IsSound lines) where
  serves_whole : (n : ℕ) (old new : WorkerSeen) (end : WorkerEnd) → IsServed tells origin lines n old new end → IsFaultless old new → ServesWhole old end
  serves_whole n old new end is still =
      let f = first_given still.given (links_given is.sessions) old.port.coming new.port.coming still.given_are is.given in
      let t : still.taken ≡ links_taken is.sessions = last_taken still.before still.taken (links_taken is.sessions) old.port.taken new.port.taken still.before_are still.taken_are is.taken in
      let gave : GaveFrames (links_given is.sessions ++ f.0) (links_taken is.sessions) = subst (λ (x : List LinkSeen × List LinkSeen). GaveFrames x.0 x.1) (λ i. (f.1 i, t i)) still.frames in
      record {
        links = still.given;
        links_are = still.given_are;
        whole = subst (λ (x : List LinkSeen × List Record). AreWhole x.0 x.1) (λ i. (sym f.1 i, sym is.records_are i)) (whole_each tells origin lines sound end.pass 0 old.clock new.clock is.sessions f.0 is.are gave);
        how = part end.how is.how;
      }
    where
      part : (h : How) → HowIs old.port new.port h → ((h ≡ how.Closed) × (length end.records.items ≡ length still.given)) ⊎ (h ≡ how.NoMemory)
      part how.Closed told = let none : new.port.left ≡ 0 = told in inl (refl, omega (arith, none, is.left, still.all))
      part how.PortFault told = absurd (still.count told.1)
      part how.NoMemory told = inr refl

  all_serve_whole : (n : ℕ) (olds news : List WorkerSeen) (es : List WorkerEnd) → AreServed tells origin lines n olds news es → AreFaultless olds news → AllServeWhole olds es
  all_serve_whole n [] [] [] are still = tt
  all_serve_whole n [] [] (e ∷ es) are still = absurd are
  all_serve_whole n [] (new ∷ news) es are still = absurd are
  all_serve_whole n (old ∷ olds) [] es are still = absurd are
  all_serve_whole n (old ∷ olds) (new ∷ news) [] are still = absurd are
  all_serve_whole n (old ∷ olds) (new ∷ news) (e ∷ es) are still = (serves_whole n old new e are.0 still.0, all_serve_whole (n + 1) olds news es are.1 still.1)

pub complete_all : {D : Type 0} (tells : DiskTells D) → Completes tells
complete_all tells old new olds news es a none still =
    all_serve_whole tells old.origin new.lines (no_fault_lines new.lines (no_failures old.origin.faults (tells.faults new.disk) (failures_in new.lines) none a.backed)) 0 olds news es a.workers still

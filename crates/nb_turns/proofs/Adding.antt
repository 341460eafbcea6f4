-- Each turn has lines, and lines keep what they record Legal.
use Rattle.std.proofs.Common.{◌≡◌, ◌⊎◌, inl, inr, ℕ, ◌+◌, ◌<◌, ◌≤◌, Bool, false, cond, List, [], ◌∷◌, ◌++◌, drop, length, refl, sym, ap, subst, ◌∙◌, arith}
use Rattle.std.specs.Prelude.{reverse}
use Rattle.std.specs.List.{filter_map, take_while, prefix_len, AllByRecursion}
use Rattle.std.proofs.lemmas.List.{reverse-append, reverse-reverse, append-nil, length-append, take_at}
use Rattle.std.proofs.lemmas.List.Sums.{take_while-cons}
use Rattle.nb_entry.specs.declared.entry.Entry.{Entry}
use Rattle.nb_book.specs.Legal.{Legal}
use Rattle.nb_book.specs.Laws.{StaysLegal}
use Rattle.nb_book.proofs.Growing.{front_legal}
use Rattle.nb_turns.specs.declared.limits.TheConstants.{MAX_FAULTS, MAX_REQUESTS}
use Rattle.nb_turns.specs.declared.line.Line.{Line}
use Rattle.nb_turns.specs.declared.line.Line.TheVariants.{Commit, Adopted, Fault}
use Rattle.nb_turns.specs.Turns.{Request, House, State, Outcome, Decides, Fails, Refuses, SettlesInto, Unsettled, Doubts, recorded}
use Rattle.nb_turns.specs.Lines.{doubted, is_doubt, is_fault, entries_of, faults_of, open_doubt, AddsLines, IsClosed, StateOver, adopts, commits, doubts, Settled, DecidedLines, DoubtedLines, UnsettledLines}
use Rattle.nb_turns.specs.Laws.{IsLawful, TellsState, TurnAddsLines, AreLegal, LinesKeepLegal}
use Rattle.nb_turns.proofs.Lists.{all_append, all_map}
use Rattle.nb_turns.proofs.Keeping.{Admits, IsList, records_list}
use Rattle.nb_turns.proofs.Lining.{state_with, all_reverse, decided_entries, doubted_lines_entries, decided_behind, unsettled_behind, doubted_behind, doubted_open, doubt_faults}

-- ---- the lines of a turn

-- what a state settles into is what its lines do
record Kept (opening : List Entry) (before : List Line) (over : List Entry) : Type 0 where
  kept : List Entry
  is : Settled opening before kept over

kept_by : (opening : List Entry) (before : List Line) (old : State) (over : List Entry) → StateOver opening before old → length old.doubt ≤ MAX_REQUESTS → SettlesInto old over → Kept opening before over
kept_by opening before old over state most (inl same) = record {
  kept = [];
  is = record { of_doubt = inl refl; most = omega arith; over_is = same ∙ state.entries ∙ sym (append-nil (entries_of opening before)) };
}
kept_by opening before old over state most (inr same) = record {
  kept = old.doubt;
  is = record { of_doubt = state.doubt; most = most; over_is = same ∙ ap (λ (es : List Entry). es ++ old.doubt) state.entries };
}

module _ (house : House) (opening : List Entry) (by turn : ℕ) (before : List Line) (requests : List Request) (old new : State) (closed : IsClosed before) (state : StateOver opening before old)
    (most : length old.doubt ≤ MAX_REQUESTS) where
  decided_adds : (over : List Entry) → old.faults < MAX_FAULTS → SettlesInto old over → new ≡ state_with (over ++ recorded house over requests) [] old.faults
      → TellsState house opening by turn before requests (Decides over) new
  decided_adds over few settled left =
      let k : Kept opening before over = kept_by opening before old over state most settled in
      let added : List Line = adopts by turn k.kept ++ commits by turn (recorded house over requests) in
      let lines : DecidedLines house opening by turn before requests over added = record { few = subst (λ n. n < MAX_FAULTS) state.faults few; kept = k.kept; settled = k.is; lines = refl } in
      record {
        added = added;
        adds = lines;
        over_behind = subst (StateOver opening (before ++ added)) (sym (left ∙ ap (state_with (over ++ recorded house over requests) []) state.faults))
            (decided_behind house opening by turn before requests added over lines);
      }

  unsettled_adds : (from to : ℕ) → old.faults < MAX_FAULTS → Unsettled old new → TellsState house opening by turn before requests (Fails from to) new
  unsettled_adds from to few u = by_doubt state.doubt
    where
      by_doubt : (old.doubt ≡ []) ⊎ (old.doubt ≡ open_doubt before) → TellsState house opening by turn before requests (Fails from to) new
      by_doubt (inl none) = absurd (u.0 none)
      by_doubt (inr told) =
          let added : List Line = Fault by turn from to ∷ [] in
          let lines : UnsettledLines by turn before from to added = record { some = λ none. u.0 (told ∙ none); lines = refl } in
          let left : new ≡ state_with (entries_of opening before) (open_doubt before) (faults_of before + 1) =
          u.1 ∙ ap (λ (es : List Entry). state_with es old.doubt (old.faults + 1)) state.entries ∙ ap (λ (es : List Entry). state_with (entries_of opening before) es (old.faults + 1)) told
          ∙ ap (λ n. state_with (entries_of opening before) (open_doubt before) (n + 1)) state.faults in
          record {
            added = added;
            adds = (subst (λ n. n < MAX_FAULTS) state.faults few, inl lines);
            over_behind = subst (StateOver opening (before ++ added)) (sym left) (unsettled_behind house opening by turn before requests added from to lines);
          }

  doubted_adds : (from to : ℕ) → old.faults < MAX_FAULTS → Doubts house old requests new → TellsState house opening by turn before requests (Fails from to) new
  doubted_adds from to few d =
      let k : Kept opening before d.over = kept_by opening before old d.over state most d.settled in
      let added : List Line = adopts by turn k.kept ++ (doubts by turn (recorded house d.over requests) ++ Fault by turn from to ∷ []) in
      let lines : DoubtedLines house opening by turn before requests from to added = record { kept = k.kept; over = d.over; settled = k.is; some = d.some; lines = refl } in
      record {
        added = added;
        adds = (subst (λ n. n < MAX_FAULTS) state.faults few, inr lines);
        over_behind = subst (StateOver opening (before ++ added)) (sym (d.left ∙ ap (λ n. state_with d.over (recorded house d.over requests) (n + 1)) state.faults))
            (doubted_behind house opening by turn before requests added closed from to lines);
      }

  refused_adds : old.faults ≡ MAX_FAULTS → new ≡ old → TellsState house opening by turn before requests Refuses new
  refused_adds worn same = record {
    added = [];
    adds = (sym state.faults ∙ worn, refl);
    over_behind = subst (λ (ls : List Line). StateOver opening ls new) (sym (append-nil before)) (subst (StateOver opening before) (sym same) state);
  }

pub turn_adds_lines : TurnAddsLines
turn_adds_lines house opening by turn before requests (Decides over) old new closed state most may =
    decided_adds house opening by turn before requests old new closed state most over may.0 may.1 may.2
turn_adds_lines house opening by turn before requests (Fails from to) old new closed state most may = failed may.1
  where
    failed : Unsettled old new ⊎ Doubts house old requests new → TellsState house opening by turn before requests (Fails from to) new
    failed (inl u) = unsettled_adds house opening by turn before requests old new closed state most from to may.0 u
    failed (inr d) = doubted_adds house opening by turn before requests old new closed state most from to may.0 d
turn_adds_lines house opening by turn before requests Refuses old new closed state most may =
    refused_adds house opening by turn before requests old new closed state most may.0 may.1

-- ---- Legal lines

-- the line records an entry
abbrev pub IsRecorded : Line → Type 0
IsRecorded line = (is_doubt line ≡ false) × (is_fault line ≡ false)

pub adopted_recorded : (by turn : ℕ) (es : List Entry) → AllByRecursion IsRecorded (adopts by turn es)
adopted_recorded by turn es = all_map IsRecorded (λ (e : Entry). Adopted by turn e) es (λ (e : Entry). (refl, refl))

pub committed_recorded : (by turn : ℕ) (es : List Entry) → AllByRecursion IsRecorded (commits by turn es)
committed_recorded by turn es = all_map IsRecorded (λ (e : Entry). Commit by turn e) es (λ (e : Entry). (refl, refl))

-- where the newest line records an entry nothing is in doubt
none_open : (older : List Line) → (newest : Line) → IsRecorded newest → reverse (filter_map doubted (take_while is_doubt (drop (prefix_len is_fault (newest ∷ older)) (newest ∷ older)))) ≡ []
none_open older newest is =
    ap (λ (b : Bool). reverse (filter_map doubted (take_while is_doubt (drop (cond b (1 + prefix_len is_fault older) 0) (newest ∷ older))))) is.1
    ∙ ap (λ (xs : List Line). reverse (filter_map doubted xs)) (take_while-cons is_doubt newest older)
    ∙ ap (λ (b : Bool). reverse (filter_map doubted (cond b (newest ∷ take_while is_doubt older) []))) is.0

-- behind lines that record entries nothing is in doubt, but what was where there are none
pub open_behind : (before lines : List Line) → AllByRecursion IsRecorded lines → (lines ≡ []) ⊎ (open_doubt (before ++ lines) ≡ [])
open_behind before lines all = by_reverse (reverse lines) refl (all_reverse IsRecorded lines all)
  where
    by_reverse : (older : List Line) → reverse lines ≡ older → AllByRecursion IsRecorded older → (lines ≡ []) ⊎ (open_doubt (before ++ lines) ≡ [])
    by_reverse [] is each = inl (sym (reverse-reverse lines) ∙ ap reverse is)
    by_reverse (newest ∷ older) is each =
        inr (ap (λ (xs : List Line). reverse (filter_map doubted (take_while is_doubt (drop (prefix_len is_fault xs) xs)))) (reverse-append before lines ∙ ap (λ (xs : List Line). xs ++ reverse before) is)
        ∙ none_open (older ++ reverse before) newest each.0)

-- the list over which the turn of these lines was decided admits its requests
abbrev pub FailedAdmits : (house : House) (cap : ℕ) (opening : List Entry) (by turn : ℕ) (before : List Line) (requests : List Request) (from to : ℕ) (added : List Line)
    → UnsettledLines by turn before from to added ⊎ DoubtedLines house opening by turn before requests from to added → Type 0
FailedAdmits house cap opening by turn before requests from to added (inl unsettled) = Unit {0}
FailedAdmits house cap opening by turn before requests from to added (inr doubted) = Admits house cap doubted.over requests

abbrev pub LinesAdmit : (house : House) (cap : ℕ) (opening : List Entry) (by turn : ℕ) (before : List Line) (requests : List Request) (outcome : Outcome) (added : List Line)
    → AddsLines house opening by turn before requests outcome added → Type 0
LinesAdmit house cap opening by turn before requests (Decides over) added adds = Admits house cap over requests
LinesAdmit house cap opening by turn before requests (Fails from to) added adds = FailedAdmits house cap opening by turn before requests from to added adds.1
LinesAdmit house cap opening by turn before requests Refuses added adds = Unit {0}

module _ (house : House) (cap : ℕ) (opening : List Entry) (by turn : ℕ) (before : List Line) (requests : List Request) (added : List Line)
    (legal : AreLegal cap opening before) where
  -- without those in doubt
  front_list : IsList cap (entries_of opening before)
  front_list =
      let es : List Entry = entries_of opening before in
      (subst Legal (take_at es (open_doubt before) (length es) refl) (front_legal (es ++ open_doubt before) (length es) legal.legal), omega (arith, legal.within, length-append es (open_doubt before)))

  settled_lines : (kept over : List Entry) → Settled opening before kept over → IsList cap over
  settled_lines kept over s = by_doubt s.of_doubt
    where
      by_doubt : (kept ≡ []) ⊎ (kept ≡ open_doubt before) → IsList cap over
      by_doubt (inl none) = subst (IsList cap) (sym (s.over_is ∙ ap (λ (es : List Entry). entries_of opening before ++ es) none ∙ append-nil (entries_of opening before))) front_list
      by_doubt (inr all) = subst (IsList cap) (sym (s.over_is ∙ ap (λ (es : List Entry). entries_of opening before ++ es) all)) (legal.legal, legal.within)

  are_legal : (entries doubt : List Entry) → IsList cap (entries ++ doubt) → entries_of opening (before ++ added) ≡ entries → open_doubt (before ++ added) ≡ doubt → AreLegal cap opening (before ++ added)
  are_legal entries doubt list is told =
      let same : entries ++ doubt ≡ entries_of opening (before ++ added) ++ open_doubt (before ++ added) =
      ap (λ (es : List Entry). es ++ doubt) (sym is) ∙ ap (λ (es : List Entry). entries_of opening (before ++ added) ++ es) (sym told) in
      let all : IsList cap (entries_of opening (before ++ added) ++ open_doubt (before ++ added)) = subst (IsList cap) same list in
      record { legal = all.0; within = all.1 }

  no_lines : added ≡ [] → AreLegal cap opening (before ++ added)
  no_lines none = subst (AreLegal cap opening) (sym (ap (λ (ls : List Line). before ++ ls) none ∙ append-nil before)) legal

  decided_legal : (over : List Entry) → Admits house cap over requests → DecidedLines house opening by turn before requests over added → AreLegal cap opening (before ++ added)
  decided_legal over admits d = by_lines (open_behind before added recorded_all)
    where
      recorded_all : AllByRecursion IsRecorded added
      recorded_all = subst (AllByRecursion IsRecorded) (sym d.lines)
          (all_append IsRecorded (adopts by turn d.kept) (commits by turn (recorded house over requests)) (adopted_recorded by turn d.kept) (committed_recorded by turn (recorded house over requests)))

      by_lines : (added ≡ []) ⊎ (open_doubt (before ++ added) ≡ []) → AreLegal cap opening (before ++ added)
      by_lines (inl none) = no_lines none
      by_lines (inr closed) =
          are_legal (over ++ recorded house over requests) []
          (subst (IsList cap) (sym (append-nil (over ++ recorded house over requests))) (admits (settled_lines d.kept over d.settled)))
          (decided_entries house opening by turn before requests over added d) closed

  unsettled_legal : (from to : ℕ) → UnsettledLines by turn before from to added → AreLegal cap opening (before ++ added)
  unsettled_legal from to u =
      let behind = unsettled_behind house opening by turn before requests added from to u in
      are_legal (entries_of opening before) (open_doubt before) (legal.legal, legal.within) (sym behind.entries) (unsettled_open from to u)
    where
      unsettled_open : (from to : ℕ) → UnsettledLines by turn before from to added → open_doubt (before ++ added) ≡ open_doubt before
      unsettled_open from to u = ap (λ (ls : List Line). open_doubt (before ++ ls)) u.lines ∙ doubt_faults before by turn from to

  doubted_legal : IsClosed before → (from to : ℕ) → (d : DoubtedLines house opening by turn before requests from to added) → Admits house cap d.over requests → AreLegal cap opening (before ++ added)
  doubted_legal closed from to d admits =
      are_legal d.over (recorded house d.over requests) (admits (settled_lines d.kept d.over d.settled))
      (doubted_lines_entries house opening by turn before requests from to added d) (doubted_open house opening by turn before requests added closed from to d)

-- lines keep what they record Legal behind each turn whose requests are admitted
pub lines_keep_admitted : (house : House) (cap : ℕ) (opening : List Entry) (by turn : ℕ) (before : List Line) (requests : List Request) (outcome : Outcome) (added : List Line)
    → IsClosed before → AreLegal cap opening before → (adds : AddsLines house opening by turn before requests outcome added)
    → LinesAdmit house cap opening by turn before requests outcome added adds → AreLegal cap opening (before ++ added)
lines_keep_admitted house cap opening by turn before requests (Decides over) added closed legal adds admits =
    decided_legal house cap opening by turn before requests added legal over admits adds
lines_keep_admitted house cap opening by turn before requests (Fails from to) added closed legal adds admits = failed adds.1 admits
  where
    failed : (how : UnsettledLines by turn before from to added ⊎ DoubtedLines house opening by turn before requests from to added)
        → FailedAdmits house cap opening by turn before requests from to added how → AreLegal cap opening (before ++ added)
    failed (inl u) admits = unsettled_legal house cap opening by turn before requests added legal from to u
    failed (inr d) admits = doubted_legal house cap opening by turn before requests added legal closed from to d admits
lines_keep_admitted house cap opening by turn before requests Refuses added closed legal adds admits = no_lines house cap opening by turn before requests added legal adds.1

-- so they are where the house is lawful
lawful_admits : StaysLegal → (house : House) (cap : ℕ) (opening : List Entry) (by turn : ℕ) (before : List Line) (requests : List Request) (outcome : Outcome) (added : List Line)
    → IsLawful house cap → (adds : AddsLines house opening by turn before requests outcome added) → LinesAdmit house cap opening by turn before requests outcome added adds
lawful_admits stays house cap opening by turn before requests (Decides over) added lawful adds = records_list stays house cap lawful over requests
lawful_admits stays house cap opening by turn before requests (Fails from to) added lawful adds = failed adds.1
  where
    failed : (how : UnsettledLines by turn before from to added ⊎ DoubtedLines house opening by turn before requests from to added)
        → FailedAdmits house cap opening by turn before requests from to added how
    failed (inl u) = tt
    failed (inr d) = records_list stays house cap lawful d.over requests
lawful_admits stays house cap opening by turn before requests Refuses added lawful adds = tt

pub lines_keep_legal : StaysLegal → LinesKeepLegal
lines_keep_legal stays house cap opening by turn before requests outcome added lawful closed legal adds =
    lines_keep_admitted house cap opening by turn before requests outcome added closed legal adds
    (lawful_admits stays house cap opening by turn before requests outcome added lawful adds)

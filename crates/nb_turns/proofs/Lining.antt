-- The lines of a turn, and the turn that they tell.
use Rattle.std.proofs.Common.{◌≡◌, ◌⊎◌, inl, inr, ℕ, ◌+◌, ◌<◌, Bool, true, false, cond, List, [], ◌∷◌, ◌++◌, drop, Option, None, Some, refl, sym, ap, subst, ◌∙◌, append_assoc, arith}
use Rattle.std.specs.Prelude.{reverse}
use Rattle.std.specs.List.{filter_map, take_while, prefix_len, AllByRecursion}
use Rattle.std.specs.Option.{option_to_list}
use Rattle.std.proofs.lemmas.List.{reverse-append, reverse-reverse, append-nil, drop-drop}
use Rattle.std.proofs.lemmas.List.Elements.{filter_map-append}
use Rattle.std.proofs.lemmas.List.Sums.{sum_by-append, sum_by-cons, take_while-cons}
use Rattle.nb_entry.specs.declared.entry.Entry.{Entry}
use Rattle.nb_turns.specs.declared.limits.TheConstants.{MAX_FAULTS}
use Rattle.nb_turns.specs.declared.line.Line.{Line}
use Rattle.nb_turns.specs.declared.line.Line.TheVariants.{Commit, Adopted, Doubt, Fault}
use Rattle.nb_turns.specs.Turns.{Request, House, State, Decides, Fails, Refuses, SettlesInto, recorded}
use Rattle.nb_turns.specs.Lines.{maker_of, turn_of, entry_of, doubted, is_adopted, is_doubt, is_fault, entries_of, faults_of, open_doubt, AreOf, FirstFails, IsClosed, StateOver, adopts, commits, doubts, Settled, DecidedLines, DoubtedLines, UnsettledLines}
use Rattle.nb_turns.specs.Laws.{LinesAreOf, TellsTurn, LinesTellTurn}
use Rattle.nb_turns.proofs.Lists.{all_append, all_map}

-- ---- lines behind others

pub entries_append : (opening : List Entry) (lines more : List Line) → entries_of opening (lines ++ more) ≡ entries_of opening lines ++ filter_map entry_of more
entries_append opening lines more =
    ap (λ (es : List Entry). opening ++ es) (filter_map-append entry_of lines more) ∙ sym (append_assoc opening (filter_map entry_of lines) (filter_map entry_of more))

pub faults_append : (lines more : List Line) → faults_of (lines ++ more) ≡ faults_of lines + faults_of more
faults_append lines more = sum_by-append (λ (l : Line). cond (is_fault l) 1 0) lines more

pub no_faults : (lines : List Line) → AllByRecursion (λ (l : Line). is_fault l ≡ false) lines → faults_of lines ≡ 0
no_faults [] all = refl
no_faults (l ∷ ls) all =
    let first : faults_of (l ∷ ls) ≡ cond (is_fault l) 1 0 + faults_of ls = sum_by-cons (λ (k : Line). cond (is_fault k) 1 0) l ls in
    let none : 0 + faults_of ls ≡ 0 = omega (arith, no_faults ls all.1) in
    first ∙ ap (λ (b : Bool). cond b 1 0 + faults_of ls) all.0 ∙ none

-- ---- lines of entries

module _ (by turn : ℕ) where
  adopted_entries : (es : List Entry) → filter_map entry_of (adopts by turn es) ≡ es
  adopted_entries [] = refl
  adopted_entries (e ∷ es) = ap (λ (xs : List Entry). e ∷ xs) (adopted_entries es)

  committed_entries : (es : List Entry) → filter_map entry_of (commits by turn es) ≡ es
  committed_entries [] = refl
  committed_entries (e ∷ es) = ap (λ (xs : List Entry). e ∷ xs) (committed_entries es)

  -- what is in doubt is not recorded
  doubted_not : (es : List Entry) (before after : ℕ) → filter_map entry_of (doubts by turn es ++ Fault by turn before after ∷ []) ≡ []
  doubted_not [] before after = refl
  doubted_not (e ∷ es) before after = doubted_not es before after

  doubted_entries : (es : List Entry) → filter_map doubted (doubts by turn es) ≡ es
  doubted_entries [] = refl
  doubted_entries (e ∷ es) = ap (λ (xs : List Entry). e ∷ xs) (doubted_entries es)

  adopted_of : (es : List Entry) → AreOf by turn (adopts by turn es)
  adopted_of es = all_map (λ (line : Line). (maker_of line ≡ by) × (turn_of line ≡ turn)) (λ (e : Entry). Adopted by turn e) es (λ (e : Entry). (refl, refl))

  committed_of : (es : List Entry) → AreOf by turn (commits by turn es)
  committed_of es = all_map (λ (line : Line). (maker_of line ≡ by) × (turn_of line ≡ turn)) (λ (e : Entry). Commit by turn e) es (λ (e : Entry). (refl, refl))

  doubted_of : (es : List Entry) → AreOf by turn (doubts by turn es)
  doubted_of es = all_map (λ (line : Line). (maker_of line ≡ by) × (turn_of line ≡ turn)) (λ (e : Entry). Doubt by turn e) es (λ (e : Entry). (refl, refl))

  both_of : (first second : List Line) → AreOf by turn first → AreOf by turn second → AreOf by turn (first ++ second)
  both_of first second one two = all_append (λ (line : Line). (maker_of line ≡ by) × (turn_of line ≡ turn)) first second one two

  -- neither adopted nor recorded entries are faults
  pub adopted_no_fault : (es : List Entry) → AllByRecursion (λ (l : Line). is_fault l ≡ false) (adopts by turn es)
  adopted_no_fault es = all_map (λ (l : Line). is_fault l ≡ false) (λ (e : Entry). Adopted by turn e) es (λ (e : Entry). refl)

  pub committed_no_fault : (es : List Entry) → AllByRecursion (λ (l : Line). is_fault l ≡ false) (commits by turn es)
  committed_no_fault es = all_map (λ (l : Line). is_fault l ≡ false) (λ (e : Entry). Commit by turn e) es (λ (e : Entry). refl)

  pub doubted_no_fault : (es : List Entry) → AllByRecursion (λ (l : Line). is_fault l ≡ false) (doubts by turn es)
  doubted_no_fault es = all_map (λ (l : Line). is_fault l ≡ false) (λ (e : Entry). Doubt by turn e) es (λ (e : Entry). refl)

  pub adopted_no_doubt : (es : List Entry) → AllByRecursion (λ (l : Line). is_doubt l ≡ false) (adopts by turn es)
  adopted_no_doubt es = all_map (λ (l : Line). is_doubt l ≡ false) (λ (e : Entry). Adopted by turn e) es (λ (e : Entry). refl)

  pub committed_no_doubt : (es : List Entry) → AllByRecursion (λ (l : Line). is_doubt l ≡ false) (commits by turn es)
  committed_no_doubt es = all_map (λ (l : Line). is_doubt l ≡ false) (λ (e : Entry). Commit by turn e) es (λ (e : Entry). refl)

  are_doubts : (es : List Entry) → AllByRecursion (λ (l : Line). is_doubt l ≡ true) (doubts by turn es)
  are_doubts es = all_map (λ (l : Line). is_doubt l ≡ true) (λ (e : Entry). Doubt by turn e) es (λ (e : Entry). refl)

-- ---- who asked, and in which turn

pub lines_are_of : LinesAreOf
lines_are_of house opening by turn before requests (Decides over) added d =
    subst (AreOf by turn) (sym d.lines)
    (both_of by turn (adopts by turn d.kept) (commits by turn (recorded house over requests)) (adopted_of by turn d.kept) (committed_of by turn (recorded house over requests)))
lines_are_of house opening by turn before requests (Fails from to) added f = failed f.1
  where
    failed : UnsettledLines by turn before from to added ⊎ DoubtedLines house opening by turn before requests from to added → AreOf by turn added
    failed (inl u) = subst (AreOf by turn) (sym u.lines) ((refl, refl), tt)
    failed (inr d) =
        let more : List Entry = recorded house d.over requests in
        subst (AreOf by turn) (sym d.lines)
        (both_of by turn (adopts by turn d.kept) (doubts by turn more ++ Fault by turn from to ∷ []) (adopted_of by turn d.kept)
        (both_of by turn (doubts by turn more) (Fault by turn from to ∷ []) (doubted_of by turn more) ((refl, refl), tt)))
lines_are_of house opening by turn before requests Refuses added r = subst (AreOf by turn) (sym r.1) tt

-- ---- the entries behind a turn

pub decided_entries : (house : House) (opening : List Entry) (by turn : ℕ) (before : List Line) (requests : List Request) (over : List Entry) (added : List Line)
    → DecidedLines house opening by turn before requests over added → entries_of opening (before ++ added) ≡ over ++ recorded house over requests
decided_entries house opening by turn before requests over added d =
    let told : filter_map entry_of (adopts by turn d.kept ++ commits by turn (recorded house over requests)) ≡ d.kept ++ recorded house over requests =
    filter_map-append entry_of (adopts by turn d.kept) (commits by turn (recorded house over requests))
    ∙ ap (λ (es : List Entry). es ++ filter_map entry_of (commits by turn (recorded house over requests))) (adopted_entries by turn d.kept)
    ∙ ap (λ (es : List Entry). d.kept ++ es) (committed_entries by turn (recorded house over requests)) in
    entries_append opening before added
    ∙ ap (λ (ls : List Line). entries_of opening before ++ filter_map entry_of ls) d.lines
    ∙ ap (λ (es : List Entry). entries_of opening before ++ es) told
    ∙ sym (append_assoc (entries_of opening before) d.kept (recorded house over requests))
    ∙ ap (λ (es : List Entry). es ++ recorded house over requests) (sym d.settled.over_is)

pub doubted_lines_entries : (house : House) (opening : List Entry) (by turn : ℕ) (before : List Line) (requests : List Request) (from to : ℕ) (added : List Line)
    → (d : DoubtedLines house opening by turn before requests from to added) → entries_of opening (before ++ added) ≡ d.over
doubted_lines_entries house opening by turn before requests from to added d =
    let told : filter_map entry_of (adopts by turn d.kept ++ (doubts by turn (recorded house d.over requests) ++ Fault by turn from to ∷ [])) ≡ d.kept =
    filter_map-append entry_of (adopts by turn d.kept) (doubts by turn (recorded house d.over requests) ++ Fault by turn from to ∷ [])
    ∙ ap (λ (es : List Entry). es ++ filter_map entry_of (doubts by turn (recorded house d.over requests) ++ Fault by turn from to ∷ [])) (adopted_entries by turn d.kept)
    ∙ ap (λ (es : List Entry). d.kept ++ es) (doubted_not by turn (recorded house d.over requests) from to)
    ∙ append-nil d.kept in
    entries_append opening before added
    ∙ ap (λ (ls : List Line). entries_of opening before ++ filter_map entry_of ls) d.lines
    ∙ ap (λ (es : List Entry). entries_of opening before ++ es) told
    ∙ sym d.settled.over_is

-- ---- what is in doubt behind a turn

pub all_reverse : (P : Line → Type 0) (lines : List Line) → AllByRecursion P lines → AllByRecursion P (reverse lines)
all_reverse P [] all = tt
all_reverse P (l ∷ ls) all = subst (AllByRecursion P) (sym (reverse-append (l ∷ []) ls)) (all_append P (reverse ls) (l ∷ []) (all_reverse P ls all.1) (all.0, tt))

first_none : (lines older : List Line) → AllByRecursion (λ (l : Line). is_doubt l ≡ false) lines → FirstFails is_doubt older → FirstFails is_doubt (lines ++ older)
first_none [] older all closed = closed
first_none (l ∷ ls) older all closed = all.0

-- lines that tell no doubt leave lines closed
pub closed_more : (lines more : List Line) → IsClosed lines → AllByRecursion (λ (l : Line). is_doubt l ≡ false) more → IsClosed (lines ++ more)
closed_more lines more closed all =
    subst (FirstFails is_doubt) (sym (reverse-append lines more)) (first_none (reverse more) (reverse lines) (all_reverse (λ (l : Line). is_doubt l ≡ false) more all) closed)

pub no_fault : (l : Line) → is_doubt l ≡ true → is_fault l ≡ false
no_fault (Commit by turn entry) is = refl
no_fault (Adopted by turn entry) is = refl
no_fault (Doubt by turn entry) is = refl
no_fault (Fault by turn before after) is = absurd (never is)
  where
    never : false ≡ true → ⊥
    never e = cc

-- a fault leaves what is in doubt
pub doubt_faults : (lines : List Line) (by turn before after : ℕ) → open_doubt (lines ++ Fault by turn before after ∷ []) ≡ open_doubt lines
doubt_faults lines by turn before after =
    ap (λ (xs : List Line). reverse (filter_map doubted (take_while is_doubt (drop (prefix_len is_fault xs) xs)))) (reverse-append lines (Fault by turn before after ∷ []))
    ∙ ap (λ (xs : List Line). reverse (filter_map doubted (take_while is_doubt xs))) (skipped (reverse lines))
  where
    skipped : (older : List Line) → drop (prefix_len is_fault (Fault by turn before after ∷ older)) (Fault by turn before after ∷ older) ≡ drop (prefix_len is_fault older) older
    skipped older = sym (drop-drop (prefix_len is_fault older) 1 (Fault by turn before after ∷ older))

takes_doubts : (ds older : List Line) → AllByRecursion (λ (l : Line). is_doubt l ≡ true) ds → FirstFails is_doubt older → take_while is_doubt (ds ++ older) ≡ ds
takes_doubts [] [] all closed = refl
takes_doubts [] (l ∷ ls) all closed = take_while-cons is_doubt l ls ∙ ap (λ (b : Bool). cond b (l ∷ take_while is_doubt ls) []) closed
takes_doubts (d ∷ ds) older all closed =
    take_while-cons is_doubt d (ds ++ older) ∙ ap (λ (b : Bool). cond b (d ∷ take_while is_doubt (ds ++ older)) []) all.0
    ∙ ap (λ (xs : List Line). d ∷ xs) (takes_doubts ds older all.1 closed)

past_faults : (ds older : List Line) → AllByRecursion (λ (l : Line). is_doubt l ≡ true) ds → (ds ≡ [] → ⊥) → drop (prefix_len is_fault (ds ++ older)) (ds ++ older) ≡ ds ++ older
past_faults [] older all some = absurd (some refl)
past_faults (d ∷ ds) older all some =
    ap (λ (b : Bool). drop (cond b (1 + prefix_len is_fault (ds ++ older)) 0) (d ∷ (ds ++ older))) (no_fault d all.0)

put_last : (entry : Option Entry) (es : List Entry) → reverse es ++ option_to_list entry ≡ reverse (option_to_list entry ++ es)
put_last None es = append-nil (reverse es)
put_last (Some e) es = sym (reverse-append (e ∷ []) es)

one_doubted : (lines : List Line) (line : Line) → filter_map doubted (line ∷ lines) ≡ option_to_list (doubted line) ++ filter_map doubted lines
one_doubted lines (Commit by turn entry) = refl
one_doubted lines (Adopted by turn entry) = refl
one_doubted lines (Doubt by turn entry) = refl
one_doubted lines (Fault by turn before after) = refl

doubted_reverse : (lines : List Line) → filter_map doubted (reverse lines) ≡ reverse (filter_map doubted lines)
doubted_reverse [] = refl
doubted_reverse (l ∷ ls) =
    ap (filter_map doubted) (reverse-append (l ∷ []) ls) ∙ filter_map-append doubted (reverse ls) (l ∷ [])
    ∙ ap (λ (es : List Entry). es ++ filter_map doubted (l ∷ [])) (doubted_reverse ls)
    ∙ ap (λ (es : List Entry). reverse (filter_map doubted ls) ++ es) (one_doubted [] l ∙ append-nil (option_to_list (doubted l)))
    ∙ put_last (doubted l) (filter_map doubted ls)
    ∙ ap reverse (sym (one_doubted ls l))

none_reversed : (lines : List Line) → reverse lines ≡ [] → lines ≡ []
none_reversed lines none = sym (reverse-reverse lines) ∙ ap reverse none

no_lines : (by turn : ℕ) (es : List Entry) → doubts by turn es ≡ [] → es ≡ []
no_lines by turn [] none = refl
no_lines by turn (e ∷ es) none = absurd (never (Doubt by turn e) (doubts by turn es) none)
  where
    never : (l : Line) (ls : List Line) → l ∷ ls ≡ [] → ⊥
    never l ls none = cc

-- doubts behind closed lines are what is in doubt
pub doubts_are : (lines : List Line) (by turn : ℕ) (es : List Entry) → (es ≡ [] → ⊥) → IsClosed lines → open_doubt (lines ++ doubts by turn es) ≡ es
doubts_are lines by turn es some closed =
    let all : AllByRecursion (λ (l : Line). is_doubt l ≡ true) (reverse (doubts by turn es)) = all_reverse (λ (l : Line). is_doubt l ≡ true) (doubts by turn es) (are_doubts by turn es) in
    ap (λ (xs : List Line). reverse (filter_map doubted (take_while is_doubt (drop (prefix_len is_fault xs) xs)))) (reverse-append lines (doubts by turn es))
    ∙ ap (λ (xs : List Line). reverse (filter_map doubted (take_while is_doubt xs)))
    (past_faults (reverse (doubts by turn es)) (reverse lines) all (λ (none : reverse (doubts by turn es) ≡ []). some (no_lines by turn es (none_reversed (doubts by turn es) none))))
    ∙ ap (λ (xs : List Line). reverse (filter_map doubted xs)) (takes_doubts (reverse (doubts by turn es)) (reverse lines) all closed)
    ∙ ap reverse (doubted_reverse (doubts by turn es)) ∙ reverse-reverse (filter_map doubted (doubts by turn es)) ∙ doubted_entries by turn es

last_fault : (by turn from to : ℕ) → faults_of (Fault by turn from to ∷ []) ≡ 1
last_fault by turn from to = refl

-- of the lines of a doubt one is a fault
pub one_fault : (by turn : ℕ) (kept more : List Entry) (from to : ℕ) → faults_of (adopts by turn kept) + faults_of (doubts by turn more ++ Fault by turn from to ∷ []) ≡ 1
one_fault by turn kept more from to =
    omega (arith, no_faults (adopts by turn kept) (adopted_no_fault by turn kept), faults_append (doubts by turn more) (Fault by turn from to ∷ []), no_faults (doubts by turn more) (doubted_no_fault by turn more), last_fault by turn from to)

-- behind closed lines, those of a doubt tell what is in doubt
pub doubted_are : (lines : List Line) (by turn from to : ℕ) (kept es : List Entry) → (es ≡ [] → ⊥) → IsClosed lines
    → open_doubt (lines ++ (adopts by turn kept ++ (doubts by turn es ++ Fault by turn from to ∷ []))) ≡ es
doubted_are lines by turn from to kept es some closed =
    let adopted : List Line = adopts by turn kept in
    let doubted : List Line = doubts by turn es in
    let grouped : lines ++ (adopted ++ (doubted ++ Fault by turn from to ∷ [])) ≡ ((lines ++ adopted) ++ doubted) ++ Fault by turn from to ∷ [] =
    sym (append_assoc lines adopted (doubted ++ Fault by turn from to ∷ [])) ∙ sym (append_assoc (lines ++ adopted) doubted (Fault by turn from to ∷ [])) in
    ap open_doubt grouped ∙ doubt_faults ((lines ++ adopted) ++ doubted) by turn from to
    ∙ doubts_are (lines ++ adopted) by turn es some (closed_more lines adopted closed (adopted_no_doubt by turn kept))

-- ---- the turn that lines tell

abbrev pub state_with : List Entry → List Entry → ℕ → State
state_with entries doubt faults = record { entries = entries; doubt = doubt; faults = faults }

-- the state that was settled
record SettledFrom (opening : List Entry) (before : List Line) (over : List Entry) : Type 0 where
  doubt : List Entry
  is : (doubt ≡ []) ⊎ (doubt ≡ open_doubt before)
  settled : SettlesInto (state_with (entries_of opening before) doubt (faults_of before)) over

settled_from : (opening : List Entry) (before : List Line) (kept over : List Entry) → Settled opening before kept over → SettledFrom opening before over
settled_from opening before kept over s = by_doubt s.of_doubt
  where
    by_doubt : (kept ≡ []) ⊎ (kept ≡ open_doubt before) → SettledFrom opening before over
    by_doubt (inl none) = record {
      doubt = [];
      is = inl refl;
      settled = inl (s.over_is ∙ ap (λ (es : List Entry). entries_of opening before ++ es) none ∙ append-nil (entries_of opening before));
    }
    by_doubt (inr all) = record {
      doubt = open_doubt before;
      is = inr refl;
      settled = inr (s.over_is ∙ ap (λ (es : List Entry). entries_of opening before ++ es) all);
    }

module _ (house : House) (opening : List Entry) (by turn : ℕ) (before : List Line) (requests : List Request) (added : List Line) where
  pub decided_behind : (over : List Entry) → DecidedLines house opening by turn before requests over added → StateOver opening (before ++ added) (state_with (over ++ recorded house over requests) [] (faults_of before))
  decided_behind over d =
      let none : faults_of added ≡ 0 =
      ap faults_of d.lines ∙ no_faults (adopts by turn d.kept ++ commits by turn (recorded house over requests))
      (all_append (λ (l : Line). is_fault l ≡ false) (adopts by turn d.kept) (commits by turn (recorded house over requests)) (adopted_no_fault by turn d.kept) (committed_no_fault by turn (recorded house over requests))) in
      record {
        entries = sym (decided_entries house opening by turn before requests over added d);
        doubt = inl refl;
        faults = omega (arith, faults_append before added, none);
      }

  pub unsettled_behind : (from to : ℕ) → UnsettledLines by turn before from to added
      → StateOver opening (before ++ added) (state_with (entries_of opening before) (open_doubt before) (faults_of before + 1))
  unsettled_behind from to u = record {
    entries = sym (entries_append opening before added ∙ ap (λ (ls : List Line). entries_of opening before ++ filter_map entry_of ls) u.lines ∙ append-nil (entries_of opening before));
    doubt = inr (sym (ap (λ (ls : List Line). open_doubt (before ++ ls)) u.lines ∙ doubt_faults before by turn from to));
    faults = sym (faults_append before added ∙ ap (λ (ls : List Line). faults_of before + faults_of ls) u.lines);
  }

  -- the lines of a doubt, one part behind the other
  grouped : (from to : ℕ) → (d : DoubtedLines house opening by turn before requests from to added)
      → before ++ added ≡ ((before ++ adopts by turn d.kept) ++ doubts by turn (recorded house d.over requests)) ++ Fault by turn from to ∷ []
  grouped from to d =
      ap (λ (ls : List Line). before ++ ls) d.lines
      ∙ sym (append_assoc before (adopts by turn d.kept) (doubts by turn (recorded house d.over requests) ++ Fault by turn from to ∷ []))
      ∙ sym (append_assoc (before ++ adopts by turn d.kept) (doubts by turn (recorded house d.over requests)) (Fault by turn from to ∷ []))

  module _ (closed : IsClosed before) where
    pub doubted_open : (from to : ℕ) → (d : DoubtedLines house opening by turn before requests from to added) → open_doubt (before ++ added) ≡ recorded house d.over requests
    doubted_open from to d =
        ap open_doubt (grouped from to d) ∙ doubt_faults ((before ++ adopts by turn d.kept) ++ doubts by turn (recorded house d.over requests)) by turn from to
        ∙ doubts_are (before ++ adopts by turn d.kept) by turn (recorded house d.over requests) d.some (closed_more before (adopts by turn d.kept) closed (adopted_no_doubt by turn d.kept))

    pub doubted_behind : (from to : ℕ) → (d : DoubtedLines house opening by turn before requests from to added)
        → StateOver opening (before ++ added) (state_with d.over (recorded house d.over requests) (faults_of before + 1))
    doubted_behind from to d =
        let one : faults_of added ≡ 1 =
        ap faults_of d.lines ∙ faults_append (adopts by turn d.kept) (doubts by turn (recorded house d.over requests) ++ Fault by turn from to ∷ [])
        ∙ one_fault by turn d.kept (recorded house d.over requests) from to in
        record {
          entries = sym (doubted_lines_entries house opening by turn before requests from to added d);
          doubt = inr (sym (doubted_open from to d));
          faults = omega (arith, faults_append before added, one);
        }

module _ (house : House) (opening : List Entry) (by turn : ℕ) (before : List Line) (requests : List Request) (added : List Line) (closed : IsClosed before) where
  decided_turn : (over : List Entry) → DecidedLines house opening by turn before requests over added → TellsTurn house opening before requests (Decides over) added
  decided_turn over d =
      let from = settled_from opening before d.kept over d.settled in
      record {
        old = state_with (entries_of opening before) from.doubt (faults_of before);
        new = state_with (over ++ recorded house over requests) [] (faults_of before);
        over_before = record { entries = refl; doubt = from.is; faults = refl };
        over_behind = decided_behind house opening by turn before requests added over d;
        turn = (d.few, from.settled, refl);
        closed = subst (λ (ls : List Line). IsClosed (before ++ ls)) (sym d.lines)
            (closed_more before (adopts by turn d.kept ++ commits by turn (recorded house over requests)) closed
            (all_append (λ (l : Line). is_doubt l ≡ false) (adopts by turn d.kept) (commits by turn (recorded house over requests)) (adopted_no_doubt by turn d.kept) (committed_no_doubt by turn (recorded house over requests))));
      }

  -- a fault is one more, and leaves lines closed
  fault_last : (lines : List Line) (from to : ℕ) → IsClosed (lines ++ Fault by turn from to ∷ [])
  fault_last lines from to = subst (FirstFails is_doubt) (sym (reverse-append lines (Fault by turn from to ∷ []))) refl

  unsettled_turn : (from to : ℕ) → faults_of before < MAX_FAULTS → UnsettledLines by turn before from to added → TellsTurn house opening before requests (Fails from to) added
  unsettled_turn from to few u = record {
    old = state_with (entries_of opening before) (open_doubt before) (faults_of before);
    new = state_with (entries_of opening before) (open_doubt before) (faults_of before + 1);
    over_before = record { entries = refl; doubt = inr refl; faults = refl };
    over_behind = unsettled_behind house opening by turn before requests added from to u;
    turn = (few, inl (u.some, refl));
    closed = subst (λ (ls : List Line). IsClosed (before ++ ls)) (sym u.lines) (fault_last before from to);
  }

  doubted_turn : (from to : ℕ) → faults_of before < MAX_FAULTS → DoubtedLines house opening by turn before requests from to added → TellsTurn house opening before requests (Fails from to) added
  doubted_turn from to few d =
      let start = settled_from opening before d.kept d.over d.settled in
      record {
        old = state_with (entries_of opening before) start.doubt (faults_of before);
        new = state_with d.over (recorded house d.over requests) (faults_of before + 1);
        over_before = record { entries = refl; doubt = start.is; faults = refl };
        over_behind = doubted_behind house opening by turn before requests added closed from to d;
        turn = (few, inr (record { over = d.over; settled = start.settled; some = d.some; left = refl }));
        closed = subst IsClosed (sym (grouped house opening by turn before requests added from to d))
            (fault_last ((before ++ adopts by turn d.kept) ++ doubts by turn (recorded house d.over requests)) from to);
      }

  refused_turn : (faults_of before ≡ MAX_FAULTS) × (added ≡ []) → TellsTurn house opening before requests Refuses added
  refused_turn r =
      let same : before ++ added ≡ before = ap (λ (ls : List Line). before ++ ls) r.1 ∙ append-nil before in
      let here : StateOver opening before (state_with (entries_of opening before) [] (faults_of before)) = record { entries = refl; doubt = inl refl; faults = refl } in
      record {
        old = state_with (entries_of opening before) [] (faults_of before);
        new = state_with (entries_of opening before) [] (faults_of before);
        over_before = here;
        over_behind = subst (λ (ls : List Line). StateOver opening ls (state_with (entries_of opening before) [] (faults_of before))) (sym same) here;
        turn = (r.0, refl);
        closed = subst IsClosed (sym same) closed;
      }

pub lines_tell_turn : LinesTellTurn
lines_tell_turn house opening by turn before requests (Decides over) added closed adds = decided_turn house opening by turn before requests added closed over adds
lines_tell_turn house opening by turn before requests (Fails from to) added closed adds = failed adds.1
  where
    failed : UnsettledLines by turn before from to added ⊎ DoubtedLines house opening by turn before requests from to added → TellsTurn house opening before requests (Fails from to) added
    failed (inl u) = unsettled_turn house opening by turn before requests added closed from to adds.0 u
    failed (inr d) = doubted_turn house opening by turn before requests added closed from to adds.0 d
lines_tell_turn house opening by turn before requests Refuses added closed adds = refused_turn house opening by turn before requests added closed adds

-- what is in doubt does not stand right behind a line that adopts
pub nothing_open : (lines : List Line) → (open_doubt lines ≡ [] → ⊥) → FirstFails is_adopted (reverse lines)
nothing_open lines some = by_first (reverse lines) some
  where
    by_first : (older : List Line) → (reverse (filter_map doubted (take_while is_doubt (drop (prefix_len is_fault older) older))) ≡ [] → ⊥) → FirstFails is_adopted older
    by_first [] some = tt
    by_first (Adopted by turn entry ∷ older) some = absurd (some refl)
    by_first (Commit by turn entry ∷ older) some = refl
    by_first (Doubt by turn entry ∷ older) some = refl
    by_first (Fault by turn before after ∷ older) some = refl

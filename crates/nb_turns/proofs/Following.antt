-- What a caller was answered.
use Rattle.std.proofs.Common.{◌≡◌, ℕ, ◌<◌, ◌≤◌, Bool, true, cond, List, [], ◌∷◌, ◌++◌, length, refl, sym, ap, subst, ◌∙◌, append_assoc, arith}
use Rattle.std.specs.Prelude.{◌==◌}
use Rattle.std.specs.List.{filter_map, AllByRecursion}
use Rattle.std.proofs.lemmas.List.{append-nil, length-append, map-append}
use Rattle.std.proofs.lemmas.Bool.{eq-eqb}
use Rattle.std.proofs.lemmas.List.Elements.{filter-append}
use Rattle.nb_entry.specs.declared.entry.Entry.{Entry}
use Rattle.nb_turns.specs.declared.limits.TheConstants.{MAX_FAULTS}
use Rattle.nb_turns.specs.declared.line.Line.{Line}
use Rattle.nb_turns.specs.declared.mark.Mark.{Mark}
use Rattle.nb_turns.specs.declared.mark.Mark.TheVariants.{Fault, Worn}
use Rattle.nb_turns.specs.Turns.{Request, House, Outcome, Decides, Fails, Refuses, Answered, alike, answered, decided, marks, recorded, with_entry}
use Rattle.nb_turns.specs.Lines.{maker_of, turn_of, entry_of, entries_of, faults_of, lines_by, next_turn, AddsLines, AreOf}
use Rattle.nb_turns.specs.Callers.{Turned, behind, AnsweredTurns, lines_since, own_lines, answers_in, AreTaken}
use Rattle.nb_turns.specs.Laws.{SeenGrows, OwnLinesAlone, PlacesStand, IsWorn, WornStands, AreApart, TurnsApart, AnsweredThen}
use Rattle.nb_turns.proofs.Lists.{all_append, all_at, all_back, all_weaker}
use Rattle.nb_turns.proofs.Single.{behind_more}
use Rattle.nb_turns.proofs.Lining.{entries_append, faults_append, lines_are_of, decided_entries}

-- ---- what was seen

regroup : (a b c d : List Line) → ((a ++ b) ++ c) ++ d ≡ a ++ ((b ++ c) ++ d)
regroup a b c d = simp append_assoc

pub seen_grows : SeenGrows
seen_grows house opening by first [] last seen = seen ∙ sym (append-nil first)
seen_grows house opening by first (t ∷ more) last seen =
    seen_grows house opening by (behind first t) more last seen.1 ∙ regroup first t.others t.added (lines_since more)

-- ---- own lines

own_line : (n by : ℕ) → n ≡ by → (n == by) ≡ true
own_line n by is = eq-eqb n by is

mine : (by turn : ℕ) (lines : List Line) → AreOf by turn lines → lines_by by lines ≡ lines
mine by turn [] all = refl
mine by turn (l ∷ ls) all =
    ap (λ (b : Bool). cond b (l ∷ lines_by by ls) (lines_by by ls)) (own_line (maker_of l) by all.0.0) ∙ ap (λ (xs : List Line). l ∷ xs) (mine by turn ls all.1)

pub own_lines_alone : OwnLinesAlone
own_lines_alone house opening by first [] last seen = refl
own_lines_alone house opening by first (t ∷ more) last seen =
    let all : AreOf by (next_turn (first ++ t.others)) t.added =
    lines_are_of house opening by (next_turn (first ++ t.others)) (first ++ t.others) t.requests t.outcome t.added seen.0.lines in
    filter-append (λ (line : Line). maker_of line == by) (t.others ++ t.added) (lines_since more)
    ∙ ap (λ (ls : List Line). ls ++ lines_by by (lines_since more))
    (filter-append (λ (line : Line). maker_of line == by) t.others t.added
    ∙ ap (λ (ls : List Line). ls ++ lines_by by t.added) seen.0.alone
    ∙ mine by (next_turn (first ++ t.others)) t.added all)
    ∙ ap (λ (ls : List Line). t.added ++ ls) (own_lines_alone house opening by (behind first t) more last seen.1)

-- ---- places

module _ (house : House) (entries : List Entry) where
  failed_taken : (before after : ℕ) (reply : List ℕ) (requests : List Request) (rest : List Answered) (least : ℕ) → AreTaken house entries least rest → AreTaken house entries least (alike (Fault before after) reply requests ++ rest)
  failed_taken before after reply [] rest least taken = taken
  failed_taken before after reply (r ∷ rs) rest least taken = failed_taken before after reply rs rest least taken

  worn_taken : (reply : List ℕ) (requests : List Request) (rest : List Answered) (least : ℕ) → AreTaken house entries least rest → AreTaken house entries least (alike Worn reply requests ++ rest)
  worn_taken reply [] rest least taken = taken
  worn_taken reply (r ∷ rs) rest least taken = worn_taken reply rs rest least taken

  decided_taken : (over later : List Entry) (requests : List Request) (rest : List Answered) (least : ℕ) → least ≤ length over → entries ≡ (over ++ recorded house over requests) ++ later
      → ((n : ℕ) → n ≤ length (over ++ recorded house over requests) → AreTaken house entries n rest) → AreTaken house entries least (decided house over requests ++ rest)
  decided_taken over later [] rest least above is go = go least (omega (arith, above, ap length (append-nil over)))
  decided_taken over later (r ∷ rs) rest least above is go =
      let same = behind_more house over r rs in
      let here : entries ≡ (with_entry house over r ++ recorded house (with_entry house over r) rs) ++ later = is ∙ ap (λ (es : List Entry). es ++ later) (sym same) in (
        record {
          over = over;
          later = recorded house (with_entry house over r) rs ++ later;
          above = above;
          place_is = refl;
          stands = here ∙ append_assoc (with_entry house over r) (recorded house (with_entry house over r) rs) later;
          told = refl;
        },
        decided_taken (with_entry house over r) later rs rest (length (with_entry house over r)) (omega arith) here
            (λ (n : ℕ) (below : n ≤ length (with_entry house over r ++ recorded house (with_entry house over r) rs)). go n (omega (arith, below, ap length same))),
      )

entries_longer : (opening : List Entry) (lines more : List Line) → length (entries_of opening lines) ≤ length (entries_of opening (lines ++ more))
entries_longer opening lines more = omega (arith, ap length (entries_append opening lines more), length-append (entries_of opening lines) (filter_map entry_of more))

module _ (house : House) (opening : List Entry) (by : ℕ) (last : List Line) where
  -- the answers of a turn are taken where those behind it are
  taken_turn : (first : List Line) (t : Turned) (more : List Turned) (least : ℕ) (outcome : Outcome)
      → AddsLines house opening by (next_turn (first ++ t.others)) (first ++ t.others) t.requests outcome t.added
      → AnsweredTurns house opening by (behind first t) more last → least ≤ length (entries_of opening first)
      → ((n : ℕ) → n ≤ length (entries_of opening (behind first t)) → AreTaken house (entries_of opening last) n (answers_in house more))
      → AreTaken house (entries_of opening last) least (answered house t.requests outcome ++ answers_in house more)
  taken_turn first t more least (Decides over) d later below rest =
      let here : entries_of opening (behind first t) ≡ over ++ recorded house over t.requests =
      decided_entries house opening by (next_turn (first ++ t.others)) (first ++ t.others) t.requests over t.added d in
      decided_taken house (entries_of opening last) over (filter_map entry_of (lines_since more)) t.requests (answers_in house more) least
      (omega (arith, below, entries_longer opening first t.others, ap length d.settled.over_is, length-append (entries_of opening (first ++ t.others)) d.kept))
      (ap (entries_of opening) (seen_grows house opening by (behind first t) more last later) ∙ entries_append opening (behind first t) (lines_since more)
      ∙ ap (λ (es : List Entry). es ++ filter_map entry_of (lines_since more)) here)
      (λ (n : ℕ) (small : n ≤ length (over ++ recorded house over t.requests)). rest n (omega (arith, small, ap length here)))
  taken_turn first t more least (Fails before after) f later below rest =
      failed_taken house (entries_of opening last) before after (house.fault before after) t.requests (answers_in house more) least
      (rest least (omega (arith, below, entries_longer opening first t.others, entries_longer opening (first ++ t.others) t.added)))
  taken_turn first t more least Refuses r later below rest =
      worn_taken house (entries_of opening last) house.worn t.requests (answers_in house more) least
      (rest least (omega (arith, below, entries_longer opening first t.others, entries_longer opening (first ++ t.others) t.added)))

  taken_from : (first : List Line) (turns : List Turned) (least : ℕ) → AnsweredTurns house opening by first turns last → least ≤ length (entries_of opening first)
      → AreTaken house (entries_of opening last) least (answers_in house turns)
  taken_from first [] least answers below = tt
  taken_from first (t ∷ more) least answers below =
      taken_turn first t more least t.outcome answers.0.lines answers.1 below
      (λ (n : ℕ) (small : n ≤ length (entries_of opening (behind first t))). taken_from (behind first t) more n answers.1 small)

pub places_stand : PlacesStand
places_stand house opening by first turns last answers = taken_from house opening by last first turns (length (entries_of opening first)) answers (omega arith)

-- ---- too many faults

-- a mark that says so tells of so many faults
abbrev TellsWorn : List Line → Mark → Type 0
TellsWorn last mark = IsWorn mark → MAX_FAULTS ≤ faults_of last

decided_marks : (last : List Line) (house : House) (over : List Entry) (requests : List Request) → AllByRecursion (TellsWorn last) (marks (decided house over requests))
decided_marks last house over [] = tt
decided_marks last house over (r ∷ rs) = (λ (none : ⊥). absurd none, decided_marks last house (with_entry house over r) rs)

alike_marks : (last : List Line) (mark : Mark) (reply : List ℕ) (requests : List Request) → TellsWorn last mark → AllByRecursion (TellsWorn last) (marks (alike mark reply requests))
alike_marks last mark reply [] tells = tt
alike_marks last mark reply (r ∷ rs) tells = (tells, alike_marks last mark reply rs tells)

module _ (house : House) (opening : List Entry) (by : ℕ) (last : List Line) where
  worn_turn : (first : List Line) (t : Turned) (more : List Turned) (outcome : Outcome)
      → AddsLines house opening by (next_turn (first ++ t.others)) (first ++ t.others) t.requests outcome t.added
      → AnsweredTurns house opening by (behind first t) more last → AllByRecursion (TellsWorn last) (marks (answered house t.requests outcome))
  worn_turn first t more (Decides over) d later = decided_marks last house over t.requests
  worn_turn first t more (Fails before after) f later = alike_marks last (Fault before after) (house.fault before after) t.requests (λ (none : ⊥). absurd none)
  worn_turn first t more Refuses r later = alike_marks last Worn house.worn t.requests
      (λ (is : Unit {0}). omega (arith, r.0, ap faults_of (seen_grows house opening by (behind first t) more last later), faults_append (behind first t) (lines_since more), faults_append (first ++ t.others) t.added))

  worn_from : (first : List Line) (turns : List Turned) → AnsweredTurns house opening by first turns last → AllByRecursion (TellsWorn last) (marks (answers_in house turns))
  worn_from first [] answers = tt
  worn_from first (t ∷ more) answers =
      subst (AllByRecursion (TellsWorn last)) (sym (map-append (λ (a : Answered). a.mark) (answered house t.requests t.outcome) (answers_in house more)))
      (all_append (TellsWorn last) (marks (answered house t.requests t.outcome)) (marks (answers_in house more)) (worn_turn first t more t.outcome answers.0.lines answers.1) (worn_from (behind first t) more answers.1))

pub worn_stands : WornStands
worn_stands house opening by first turns last answers = worn_from house opening by last first turns answers

-- ---- numbers of turns

module _ (house : House) (opening : List Entry) (by : ℕ) (last : List Line) where
  -- the caller's lines behind a line have greater numbers
  own_above : (first : List Line) (turns : List Turned) (front : List Line) (line : Line) (back : List Line) → first ≡ front ++ line ∷ back → AnsweredTurns house opening by first turns last
      → AllByRecursion (λ (later : Line). turn_of line < turn_of later) (own_lines turns)
  own_above first [] front line back is answers = tt
  own_above first (t ∷ more) front line back is answers =
      let before : first ++ t.others ≡ front ++ line ∷ (back ++ t.others) = ap (λ (ls : List Line). ls ++ t.others) is ∙ append_assoc front (line ∷ back) t.others in
      let low : turn_of line < next_turn (first ++ t.others) =
      all_at (λ (l : Line). turn_of l < next_turn (first ++ t.others)) front line (back ++ t.others)
      (subst (AllByRecursion (λ (l : Line). turn_of l < next_turn (first ++ t.others))) before answers.0.fresh) in
      let own : AreOf by (next_turn (first ++ t.others)) t.added =
      lines_are_of house opening by (next_turn (first ++ t.others)) (first ++ t.others) t.requests t.outcome t.added answers.0.lines in
      let whole : behind first t ≡ front ++ line ∷ ((back ++ t.others) ++ t.added) = ap (λ (ls : List Line). ls ++ t.added) before ∙ append_assoc front (line ∷ (back ++ t.others)) t.added in
      all_append (λ (later : Line). turn_of line < turn_of later) t.added (own_lines more)
      (all_weaker (λ (l : Line). (maker_of l ≡ by) × (turn_of l ≡ next_turn (first ++ t.others))) (λ (later : Line). turn_of line < turn_of later) t.added
      (λ (l : Line) (of : (maker_of l ≡ by) × (turn_of l ≡ next_turn (first ++ t.others))). omega (arith, low, of.1)) own)
      (own_above (behind first t) more front line ((back ++ t.others) ++ t.added) whole answers.1)

  apart_from : (first : List Line) (turns : List Turned) → AnsweredTurns house opening by first turns last → AreApart by turns
  apart_from first [] answers = tt
  apart_from first (t ∷ more) answers = (
    (next_turn (first ++ t.others), lines_are_of house opening by (next_turn (first ++ t.others)) (first ++ t.others) t.requests t.outcome t.added answers.0.lines),
    all_back (λ (line : Line). AllByRecursion (λ (later : Line). turn_of line < turn_of later) (own_lines more)) (behind first t) (first ++ t.others) t.added refl
        (λ (front : List Line) (line : Line) (back : List Line) (is : behind first t ≡ front ++ line ∷ back). own_above (behind first t) more front line back is answers.1),
    apart_from (behind first t) more answers.1,
  )

pub turns_apart : TurnsApart
turns_apart house opening by first turns last answers = apart_from house opening by last first turns answers

-- ---- one answering behind another

pub answered_then : AnsweredThen
answered_then house opening by first [] mid more last one two = subst (λ (ls : List Line). AnsweredTurns house opening by ls more last) one two
answered_then house opening by first (t ∷ turns) mid more last one two = (one.0, answered_then house opening by (behind first t) turns mid more last one.1 two)

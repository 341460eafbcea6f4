-- The numbers of turns, and the failures that lines tell.
use Rattle.std.proofs.Common.{◌≡◌, ◌⊎◌, inl, inr, ℕ, ◌+◌, ◌≤◌, true, false, List, [], ◌∷◌, ◌++◌, Option, None, refl, sym, ap, subst, ◌∙◌, arith}
use Rattle.std.specs.List.{AllByRecursion}
use Rattle.std.specs.Option.{option_to_list}
use Rattle.std.proofs.lemmas.List.{append-nil, reverse-append}
use Rattle.nb_port.specs.Faults.{Failure}
use Rattle.nb_turns.specs.declared.line.Line.{Line}
use Rattle.nb_turns.specs.declared.line.Line.TheVariants.{Commit, Adopted, Doubt, Fault}
use Rattle.nb_turns.specs.Turns.{Decides, Fails, Refuses, recorded}
use Rattle.nb_turns.specs.Lines.{maker_of, turn_of, failure_in, failures_in, is_fault, one_above, next_turn, adopts, commits, doubts, AreBelow, NeverFall, DoubtedLines, UnsettledLines}
use Rattle.nb_turns.specs.Laws.{NextIsAbove, TurnsNeverFall, LinesTellFailure}
use Rattle.nb_turns.proofs.Lists.{all_append, all_weaker}
use Rattle.nb_turns.proofs.Lining.{lines_are_of, adopted_no_fault, committed_no_fault, doubted_no_fault}

-- ---- numbers

-- a list is empty, or has a last element
last_of : (xs : List Line) → (xs ≡ []) ⊎ ((front : List Line) × (last : Line) × (xs ≡ front ++ last ∷ []))
last_of [] = inl refl
last_of (x ∷ xs) = behind (last_of xs)
  where
    behind : (xs ≡ []) ⊎ ((front : List Line) × (last : Line) × (xs ≡ front ++ last ∷ [])) → (x ∷ xs ≡ []) ⊎ ((front : List Line) × (last : Line) × (x ∷ xs ≡ front ++ last ∷ []))
    behind (inl none) = inr ([], x, ap (λ (ys : List Line). x ∷ ys) none)
    behind (inr some) = inr (x ∷ some.0, some.1, ap (λ (ys : List Line). x ∷ ys) some.2)

all_last : (P : Line → Type 0) (xs : List Line) (x : Line) → AllByRecursion P (xs ++ x ∷ []) → P x
all_last P [] x all = all.0
all_last P (y ∷ ys) x all = all_last P ys x all.1

-- none is above the last
below_last : (lines : List Line) (line : Line) → NeverFall (lines ++ line ∷ []) → AreBelow (turn_of line + 1) (lines ++ line ∷ [])
below_last [] line never = (omega arith, tt)
below_last (older ∷ lines) line never =
    let low : turn_of older ≤ turn_of line = all_last (λ (later : Line). turn_of older ≤ turn_of later) lines line never.0 in
    (omega (arith, low), below_last lines line never.1)

pub next_is_above : NextIsAbove
next_is_above lines never = by_last (last_of lines)
  where
    by_last : (lines ≡ []) ⊎ ((front : List Line) × (last : Line) × (lines ≡ front ++ last ∷ [])) → AreBelow (next_turn lines) lines
    by_last (inl none) = subst (AreBelow (next_turn lines)) (sym none) tt
    by_last (inr some) =
        let next : next_turn lines ≡ turn_of some.1 + 1 = ap next_turn some.2 ∙ ap one_above (reverse-append some.0 (some.1 ∷ [])) in
        subst (λ (ls : List Line). AreBelow (next_turn lines) ls) (sym some.2)
        (subst (λ (turn : ℕ). AreBelow turn (some.0 ++ some.1 ∷ [])) (sym next) (below_last some.0 some.1 (subst NeverFall some.2 never)))

same_turn : (turn : ℕ) (lines : List Line) → AllByRecursion (λ (l : Line). turn_of l ≡ turn) lines → NeverFall lines
same_turn turn [] all = tt
same_turn turn (l ∷ ls) all =
    (all_weaker (λ (k : Line). turn_of k ≡ turn) (λ (k : Line). turn_of l ≤ turn_of k) ls (λ (k : Line) (is : turn_of k ≡ turn). omega (arith, is, all.0)) all.1, same_turn turn ls all.1)

never_behind : (turn : ℕ) (lines more : List Line) → NeverFall lines → AreBelow turn lines → AllByRecursion (λ (l : Line). turn_of l ≡ turn) more → NeverFall (lines ++ more)
never_behind turn [] more never below all = same_turn turn more all
never_behind turn (l ∷ ls) more never below all = (
  all_append (λ (later : Line). turn_of l ≤ turn_of later) ls more never.0
      (all_weaker (λ (k : Line). turn_of k ≡ turn) (λ (k : Line). turn_of l ≤ turn_of k) more (λ (k : Line) (is : turn_of k ≡ turn). omega (arith, is, below.0)) all),
  never_behind turn ls more never.1 below.1 all,
)

pub turns_never_fall : TurnsNeverFall
turns_never_fall house opening by before requests outcome added never adds =
    never_behind (next_turn before) before added never (next_is_above before never)
    (all_weaker (λ (l : Line). (maker_of l ≡ by) × (turn_of l ≡ next_turn before)) (λ (l : Line). turn_of l ≡ next_turn before) added
    (λ (l : Line) (of : (maker_of l ≡ by) × (turn_of l ≡ next_turn before)). of.1)
    (lines_are_of house opening by (next_turn before) before requests outcome added adds))

-- ---- failures

no_failure : (line : Line) → is_fault line ≡ false → failure_in line ≡ None
no_failure (Commit by turn entry) is = refl
no_failure (Adopted by turn entry) is = refl
no_failure (Doubt by turn entry) is = refl
no_failure (Fault by turn before after) is = absurd (never is)
  where
    never : true ≡ false → ⊥
    never e = cc

none_failed : (lines more : List Line) → AllByRecursion (λ (l : Line). is_fault l ≡ false) lines → failures_in (lines ++ more) ≡ failures_in more
none_failed [] more all = refl
none_failed (l ∷ ls) more all =
    ap (λ (failure : Option Failure). option_to_list failure ++ failures_in (ls ++ more)) (no_failure l all.0) ∙ none_failed ls more all.1

pub lines_tell_failure : LinesTellFailure
lines_tell_failure house opening by turn before requests (Decides over) added d =
    ap failures_in d.lines ∙ none_failed (adopts by turn d.kept) (commits by turn (recorded house over requests)) (adopted_no_fault by turn d.kept)
    ∙ ap failures_in (sym (append-nil (commits by turn (recorded house over requests)))) ∙ none_failed (commits by turn (recorded house over requests)) [] (committed_no_fault by turn (recorded house over requests))
lines_tell_failure house opening by turn before requests (Fails from to) added f = failed f.1
  where
    failed : UnsettledLines by turn before from to added ⊎ DoubtedLines house opening by turn before requests from to added → failures_in added ≡ record { before = from; after = to } ∷ []
    failed (inl u) = ap failures_in u.lines
    failed (inr d) =
        ap failures_in d.lines ∙ none_failed (adopts by turn d.kept) (doubts by turn (recorded house d.over requests) ++ Fault by turn from to ∷ []) (adopted_no_fault by turn d.kept)
        ∙ none_failed (doubts by turn (recorded house d.over requests)) (Fault by turn from to ∷ []) (doubted_no_fault by turn (recorded house d.over requests))
lines_tell_failure house opening by turn before requests Refuses added r = ap failures_in r.1

-- Lines are counted one after another until all of a value's lines are.
use Rattle.std.proofs.Common.{◌≡◌, ℕ, zero, suc, ◌+◌, ◌^◌, ◌<◌, ◌≤◌, List, [], ◌∷◌, ◌++◌, length, take, drop, Option, Some, sym, refl, ap, ◌∙◌, subst, arith, take-add, take_all, length-take-le}
use Rattle.std.specs.List.{AllByRecursion}
use Rattle.atomic_table.specs.Table.{Me}
use Rattle.nb_turn.specs.declared.chronicle.View.{View}
use Rattle.nb_turn.specs.Lines.{StartsWith}
use Rattle.nb_turn.specs.Views.{first_sees, number_of, reseen}
use Rattle.nb_turn.specs.Seats.{IsHeld, IsNext}
use Rattle.nb_turn.proofs.Lists.{front_is, first_again}

module _ {L : Type 0} (maker : L → ℕ) where
  -- each line behind a front is one of the pass
  next_made : (lines : List L) (front at n : ℕ) → front ≤ at → at < length lines → AllByRecursion (λ l. maker l ≡ n) (drop front lines) → (l : L) × (take 1 (drop at lines) ≡ l ∷ []) × (maker l ≡ n)
  next_made [] front at n behind within made = absurd (omega arith)
  next_made (l ∷ ls) zero zero n behind within made = (l, refl, made.0)
  next_made (l ∷ ls) zero (suc at) n behind within made = next_made ls zero at n (omega arith) (omega arith) made.1
  next_made (l ∷ ls) (suc front) zero n behind within made = absurd (omega arith)
  next_made (l ∷ ls) (suc front) (suc at) n behind within made = next_made ls front at n (omega arith) (omega arith) made

  number_stays : (s : List L) (ps : List (ℕ × List L)) → number_of (first_sees s ps) ≡ number_of ps
  number_stays s [] = refl
  number_stays s (p ∷ ps) = refl

module _ {T O L : Type 0} (maker : L → ℕ) (me now : Me (Option T) (View O L)) (number seen at : ℕ) (lines : List L) where
  -- the line behind those that were counted is the next one
  pub next_line : IsHeld me number seen → seen ≤ at → at < length lines → length lines < 2 ^ 64 → AllByRecursion (λ l. maker l ≡ number) (drop (length me.0.seen) lines) → now.0 ≡ reseen (take at lines) me.0
      → IsNext maker now.0 (take 1 (drop (length now.0.seen) lines))
  next_line held behind within room made same =
      let counted : length (take at lines) ≡ at = length-take-le at lines (omega arith) in
      let next = next_made maker lines (length me.0.seen) at number (omega (arith, held.seen_is)) within made in
      subst (λ (v : View O L). IsNext maker v (take 1 (drop (length v.seen) lines))) (sym same) (
        next.0,
        ap (λ (k : ℕ). take 1 (drop k lines)) counted ∙ next.1,
        number_stays maker (take at lines) me.0.parts ∙ held.number_is ∙ ap Some (sym next.2),
        held.holding,
        omega (arith, counted),
      )

  -- one line more is counted
  pub counted_one : (v : View O L) → now.0 ≡ reseen (take at lines) me.0 → at < length lines → v ≡ reseen (now.0.seen ++ take 1 (drop (length now.0.seen) lines)) now.0 → v ≡ reseen (take (at + 1) lines) me.0
  counted_one v same within after =
      let counted : length (take at lines) ≡ at = length-take-le at lines (omega arith) in
      after ∙ ap (λ (x : View O L). reseen (x.seen ++ take 1 (drop (length x.seen) lines)) x) same
      ∙ ap (λ (s : List L). reseen s (reseen (take at lines) me.0)) (ap (λ (k : ℕ). take at lines ++ take 1 (drop k lines)) counted ∙ sym (take-add at 1 lines))
      ∙ (λ i. record { origin = me.0.origin; seen = take (at + 1) lines; parts = first_again (take (at + 1) lines) (take at lines) me.0.parts i; found = me.0.found; holds = me.0.holds })

  -- none is counted yet
  pub counted_none : IsHeld me number seen → StartsWith lines me.0.seen → me.0 ≡ reseen (take seen lines) me.0
  counted_none held begins =
      let front : take seen lines ≡ me.0.seen = ap (λ (k : ℕ). take k lines) (sym held.seen_is) ∙ front_is lines me.0.seen begins.0 begins.1 in
      sym (ap (λ (s : List L). reseen s me.0) front ∙ (λ i. record { origin = me.0.origin; seen = me.0.seen; parts = held.own_is i; found = me.0.found; holds = me.0.holds }))

  -- all are counted
  pub counted_all : now.0 ≡ reseen (take at lines) me.0 → length lines ≤ at → now.0 ≡ reseen lines me.0
  counted_all same whole = same ∙ ap (λ (s : List L). reseen s me.0) (take_all at lines whole)

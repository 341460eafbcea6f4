-- What each step on the table asks, at the seat of a pass.
use Rattle.std.proofs.Common.{◌≡◌, ℕ, ◌+◌, ◌%◌, ◌^◌, false, true, List, [], ◌∷◌, ◌++◌, bit_or, Option, Some, sym, refl, ap, ◌∙◌, subst, arith, append_assoc}
use Rattle.std.specs.Int.{bit_at}
use Rattle.std.specs.List.{AllByRecursion}
use Rattle.std.proofs.lemmas.Nat.Bits.{bit_at-pow_same, bit_at-pow_other}
use mathlib.Core.Logic.{dite}
use native.Mathlib.Decide.{ℕ_discrete}
use mathlib.Core.Option.{none}
use Rattle.atomic_table.specs.Table.{Me, step, Allows}
use Rattle.nb_turn.specs.declared.chronicle.View.{View}
use Rattle.nb_turn.specs.Views.{found_one, found_more, took}
use Rattle.nb_turn.specs.Rule.{Kept}
use Rattle.nb_turn.specs.Told.{Takes, Counts, Frees, Claims, Settles, Meets, TakenOnce, TakenAtLast}
use Rattle.nb_turn.specs.Seats.{IsPass, IsNext}
use Rattle.nb_turn.proofs.Rules.{has_part}
use Rattle.nb_turn.proofs.Taking.{takes_turn, frees_turn}
use Rattle.nb_turn.proofs.Counting.{counts_line}
use Rattle.nb_turn.proofs.Splitting.{claims_number, settles}

-- two powers of two are equal at one exponent alone
pub same_power : (i k : ℕ) → 2 ^ i ≡ 2 ^ k → i ≡ k
same_power i k same = dite (ℕ_discrete i k) (λ e. e) (λ apart. absurd (omega (arith, bit_at-pow_same i, bit_at-pow_other k i apart, ap (λ x. bit_at x i) same)))

module _ {T O L : Type 0} (origin : T → O) (history_of : T → List L) (maker : L → ℕ) (start : O) (slots id : ℕ) (me : Me (Option T) (View O L)) (one : slots ≡ 1) where
  pub takes_as : (n k : ℕ) → IsPass maker me n k → Allows (Kept origin history_of maker start) slots id me 0 (λ _. 1) (Takes origin history_of maker (step slots 0 1 0 none) me)
  takes_as n k p = subst (λ (x : ℕ × List (ℕ × Option T)). Allows (Kept origin history_of maker start) x.0 id (me.0, x.1) 0 (λ _. 1) (Takes origin history_of maker (step x.0 0 1 0 none) (me.0, x.1))) (λ i. (sym one i, sym p.empty i))
      (takes_turn origin history_of maker start id me.0 p.idle p.from (has_part me.0.parts n p.number_is))

  pub frees_as : (value : T) → me.1 ≡ (0, Some value) ∷ [] → me.0.holds ≡ true → me.0.origin ≡ Some (origin value) → history_of value ≡ me.0.seen
      → Allows (Kept origin history_of maker start) slots id me 0 (λ _. 0) (Frees maker (step slots 0 0 0 none) me)
  frees_as value slot holds from lines = subst (λ (x : ℕ × List (ℕ × Option T)). Allows (Kept origin history_of maker start) x.0 id (me.0, x.1) 0 (λ _. 0) (Frees maker (step x.0 0 0 0 none) (me.0, x.1))) (λ i. (sym one i, sym slot i))
      (frees_turn origin history_of maker start id me.0 value holds from lines)

  pub counts_as : (line : List L) → IsNext maker me.0 line → Allows (Kept origin history_of maker start) slots id me 1 (λ c. (c + 1) % 2 ^ 64) (Counts line (step slots 1 1 0 none) me)
  counts_as line next = subst (λ (x : ℕ × List L). Allows (Kept origin history_of maker start) x.0 id me 1 (λ c. (c + 1) % 2 ^ 64) (Counts x.1 (step x.0 1 1 0 none) me)) (λ i. (sym one i, sym next.1 i))
      (counts_line origin history_of maker start id me.0 me.1 next.0 (maker next.0) next.3 next.2 refl next.4)

  pub claims_as : (number bit : ℕ) → bit ≡ 2 ^ number → me.1 ≡ [] → me.0.holds ≡ false → me.0.parts ≡ []
      → Allows (Kept origin history_of maker start) slots id me 2 (λ value. bit_or value bit) (Claims maker (step slots 2 bit 0 none) me)
  claims_as number bit is empty idle none_yet =
      subst (λ (x : ℕ × List (ℕ × Option T) × ℕ). Allows (Kept origin history_of maker start) x.0 id (me.0, x.1) 2 (λ value. bit_or value x.2) (Claims maker (step x.0 2 x.2 0 none) (me.0, x.1))) (λ i. (sym one i, sym empty i, sym is i))
      (claims_number origin history_of maker start id me.0 number idle none_yet)

  pub settles_as : Allows (Kept origin history_of maker start) slots id me 0 (λ n. n) (Settles maker (step slots 0 0 0 none) me)
  settles_as = subst (λ (x : ℕ). Allows (Kept origin history_of maker start) x id me 0 (λ n. n) (Settles maker (step x 0 0 0 none) me)) (sym one) (settles origin history_of maker start id me.0 me.1)

module _ {T O L : Type 0} (origin : T → O) (history_of : T → List L) (maker : L → ℕ) where
  -- one more swap found the turn held
  pub waits : (v w u : View O L) → ((more : List (ℕ × ℕ)) × AllByRecursion (λ (f : ℕ × ℕ). f ≡ (0, 1)) more × (w ≡ found_more more v)) → u ≡ found_one 0 1 w
      → (more : List (ℕ × ℕ)) × AllByRecursion (λ (f : ℕ × ℕ). f ≡ (0, 1)) more × (u ≡ found_more more v)
  waits v w u (more, busy, same) found = (more ++ (0, 1) ∷ [], all_busy more busy, found ∙ ap (found_one 0 1) same ∙ (λ i. record { origin = v.origin; seen = v.seen; parts = v.parts; found = append_assoc v.found more ((0, 1) ∷ []) i; holds = v.holds })) where
    all_busy : (fs : List (ℕ × ℕ)) → AllByRecursion (λ (f : ℕ × ℕ). f ≡ (0, 1)) fs → AllByRecursion (λ (f : ℕ × ℕ). f ≡ (0, 1)) (fs ++ (0, 1) ∷ [])
    all_busy [] a = (refl, tt)
    all_busy (f ∷ fs) a = (a.0, all_busy fs a.1)

  -- and then it was taken
  pub taken_at_last : (v w u : View O L) (value : T) → ((more : List (ℕ × ℕ)) × AllByRecursion (λ (f : ℕ × ℕ). f ≡ (0, 1)) more × (w ≡ found_more more v)) → TakenOnce origin history_of maker w u value → TakenAtLast origin history_of maker v u value
  taken_at_last v w u value (more, busy, same) taken =
      let m : Meets origin history_of maker (found_more more v) value = subst (λ (x : View O L). Meets origin history_of maker x value) same taken.1 in
      ((more, busy, taken.0 ∙ ap (took (history_of value)) same), record { others = m.others; origin_is = m.origin_is; begins = m.begins; alone = m.alone; parts = m.parts; own = m.own })

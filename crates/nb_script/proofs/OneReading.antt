-- Lines say one thing.
use Rattle.std.proofs.Common.{◌≡◌, ℕ, ◌+◌, List, [], ◌∷◌, Option, Some, None, Result, inl, inr, sym, subst, ◌∙◌}
use Rattle.nb_script.specs.declared.line.Line.{Line}
use Rattle.nb_script.specs.Settings.{Setting, bare, behind}
use Rattle.nb_script.specs.Reads.{LinesSay, HeadSays, first_head, second_cap, behind_two}
use Rattle.nb_script.specs.Laws.{OneReading}

some_is : (x y : Line) → ◌≡◌ {A = Option Line} (Some x) (Some y) → x ≡ y
some_is x y e = cc

one_said : (s : Setting) (before : ℕ) (lines : List (List ℕ)) (a b : Result Setting ℕ) → LinesSay s before lines a → LinesSay s before lines b → a ≡ b
one_said s before [] a b f g = absurd f
one_said s before (rest ∷ []) a b f g = f ∙ sym g
one_said s before (bytes ∷ next ∷ more) a b (inl (l, here, said)) (inl (m, there, told)) =
    let same : m ≡ l = some_is m l (sym there.says ∙ here.says) in
    one_said (behind s (before + 1) l) (before + 1) (next ∷ more) a b said (subst (λ (k : Line). LinesSay (behind s (before + 1) k) (before + 1) (next ∷ more) b) same told)
one_said s before (bytes ∷ next ∷ more) a b (inl (l, here, said)) (inr (none, is)) = absurd (none l here)
one_said s before (bytes ∷ next ∷ more) a b (inr (none, is)) (inl (l, here, said)) = absurd (none l here)
one_said s before (bytes ∷ next ∷ more) a b (inr (none, is)) (inr (other, told)) = is ∙ sym told

pub one_reading : OneReading
one_reading lines a b f g = by (first_head lines) (second_cap lines) f g
  where
    by : (head : Option (List ℕ)) (cap : Option ℕ) → HeadSays head cap (behind_two lines) a → HeadSays head cap (behind_two lines) b → a ≡ b
    by None cap f g = f ∙ sym g
    by (Some head) None f g = f ∙ sym g
    by (Some head) (Some cap) f g = one_said (bare head cap) 2 (behind_two lines) a b f g

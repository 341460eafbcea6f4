use Rattle.std.proofs.Common.{◌≡◌, ◌⊎◌, inl, inr, ℕ, ◌+◌, ◌*◌, ◌/◌, ◌<◌, ◌≤◌, Bool, true, false, length, refl, arith, nat_lt, if◌then◌else◌}
use Rattle.std.proofs.lemmas.Bool.{ltb-true, ltb-false}
use Rattle.nb_journal.proofs.laws.zeros_where_reached.Goals as goal

-- the zeros, where it is settled whether a multiple is reached and whether the item is long
abbrev zeros : Bool → Bool → ℕ
zeros reaches long = if reaches then (if long then 0 else 131072) else 0

by : (gate next len : ℕ) (reaches long : Bool) → nat_lt (gate / 131072) (next / 131072) ≡ reaches → nat_lt 32768 len ≡ long
    → ((k : ℕ) → gate < k * 131072 → k * 131072 ≤ next → len ≤ 32768 → zeros reaches long ≡ 131072)
    × ((zeros reaches long ≡ 0) ⊎ ((len ≤ 32768) × ((k : ℕ) × (gate < k * 131072) × (k * 131072 ≤ next))))
by gate next len false long is wide = (λ k past reached short. omega (arith, ltb-false (gate / 131072) (next / 131072) is), inl refl)
by gate next len true true is wide = (λ k past reached short. omega (arith, ltb-true 32768 len wide), inl refl)
by gate next len true false is wide =
    let reached = ltb-true (gate / 131072) (next / 131072) is
    in (λ k past reaches short. refl, inr (ltb-false 32768 len wide, (next / 131072, omega (arith, reached), omega arith)))

pub returns : goal.returns
returns c = λ gate item. by gate (gate + (length item + 5)) (length item) _ _ refl refl

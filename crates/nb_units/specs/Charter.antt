-- The versions and the rates that the journal of a house may have.
use Rattle.std.specs.Prelude.{◌≡◌, ◌⊎◌, ℕ, ◌≤◌}
use Rattle.nb_units.specs.declared.limits.TheConstants.{FIRST_VERSION, FEE_VERSION, MAX_RATE}

-- what decides may be given: one of the two versions, and a rate of at most 1,000
abbrev pub MayRule : ℕ → ℕ → Type 0
MayRule version rate = ((version ≡ FIRST_VERSION) ⊎ (version ≡ FEE_VERSION)) × (rate ≤ MAX_RATE)

-- what a journal may have: the first version has no rate, the second one of at most 1,000
abbrev pub AreVersionAndRate : ℕ → ℕ → Type 0
AreVersionAndRate version rate = ((version ≡ FIRST_VERSION) × (rate ≡ 0)) ⊎ ((version ≡ FEE_VERSION) × (rate ≤ MAX_RATE))

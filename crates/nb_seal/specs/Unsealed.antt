-- Why bytes were not unsealed.
use Rattle.std.specs.Prelude.{◌≡◌, ℕ, List, ⊤}
use Rattle.nb_seal.specs.declared.seals.Unsealed.{Unsealed}
use Rattle.nb_seal.specs.declared.seals.Unsealed.TheVariants.{BadSeal, NoMemory}
use Rattle.nb_seal.specs.Seal.{IsNoSeal, iv_shown}

-- a bad seal is the seal of no text, and its iv is its front; of want of memory nothing is said
abbrev pub Refuses : List ℕ → List ℕ → List ℕ → Unsealed → Type 0
Refuses key label bytes (BadSeal iv) = IsNoSeal key label bytes × (iv ≡ iv_shown bytes)
Refuses key label bytes NoMemory = ⊤

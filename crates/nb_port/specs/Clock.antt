-- What a clock gives. The moments that a clock gave are None where it does not tell.
use Rattle.std.specs.Prelude.{◌≡◌, ℕ, List, [], ◌∷◌, ◌++◌, Option, Some, None, ⊤}

-- the moment is the next of those given; a clock may stop telling, and does not begin to
abbrev pub Gives : Option (List ℕ) → Option (List ℕ) → ℕ → Type 0
Gives old None moment = ⊤
Gives None (Some given) moment = ⊥
Gives (Some before) (Some given) moment = given ≡ before ++ moment ∷ []

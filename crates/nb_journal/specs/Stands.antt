-- What an image of a journal stands for.
use Rattle.std.specs.Prelude.{◌≡◌, ◌≢◌, ◌⊎◌, ℕ, List, [], ◌∷◌, ◌++◌}
use Rattle.nb_journal.specs.Layout.{open_gate, up_to_gate}

-- the image has this front and these items, and then a gate that is not open; what follows that gate is free
pub record Stands (front : List ℕ) (items : List (List ℕ)) (image : List ℕ) : Type 0 where
  pub gate : ℕ
  pub rest : List ℕ
  pub shut : gate ≢ open_gate
  pub bytes : image ≡ up_to_gate front items ++ gate ∷ rest

-- the image stands for the items alone, or for these and one more
abbrev pub BeforeOrAfter : List ℕ → List (List ℕ) → List ℕ → List ℕ → Type 0
BeforeOrAfter front items item image = Stands front items image ⊎ Stands front (items ++ item ∷ []) image

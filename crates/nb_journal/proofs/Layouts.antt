-- The bytes of items, one behind the other.
use Rattle.std.proofs.Common.{◌≡◌, ℕ, ◌+◌, List, [], ◌∷◌, ◌++◌, length, arith, sym, ap, ◌∙◌}
use Rattle.std.specs.List.{flat_map}
use Rattle.std.proofs.lemmas.Grind.{flat_map-append}
use Rattle.std.proofs.lemmas.List.{append_assoc, append-nil}
use Rattle.nb_journal.specs.Layout.{item_bytes, up_to_gate}

-- an item takes five bytes more than it has
pub item_length : (item : List ℕ) → length (item_bytes item) ≡ length item + 5
unfolding item_bytes
item_length item = omega arith

-- one item more
pub flat_more : (items : List (List ℕ)) (item : List ℕ) → flat_map item_bytes (items ++ item ∷ []) ≡ flat_map item_bytes items ++ item_bytes item
flat_more items item = flat_map-append item_bytes items (item ∷ []) ∙ ap (λ (xs : List ℕ). flat_map item_bytes items ++ xs) (append-nil (item_bytes item))

-- the same with the front
pub up_to_next : (front : List ℕ) (items : List (List ℕ)) (item : List ℕ) → up_to_gate front (items ++ item ∷ []) ≡ up_to_gate front items ++ item_bytes item
up_to_next front items item = ap (λ (xs : List ℕ). front ++ xs) (flat_more items item) ∙ sym (append_assoc front (flat_map item_bytes items) (item_bytes item))

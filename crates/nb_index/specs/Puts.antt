-- What was put into an index, and what is found in it.
use Rattle.std.specs.Prelude.{◌≡◌, ℕ, ◌+◌, ◌*◌, ◌-◌, ◌<◌, ◌≤◌, List, [], ◌∷◌, Option, Some, None, IsNone, take, length, slice_index_or, if◌then◌else◌}
use Rattle.std.specs.List.{HoldsAt, AllByRecursion}
use Rattle.std.specs.Str.{bytes_eq}
use Rattle.nb_index.specs.declared.put.Put.{Put}

-- what does not change as an index is used: how many slots it has, its own key, by which keys fall on slots, and for how many items each of
-- its three lists has memory: its slots, its puts, and the put before each
pub record Shape : Type 0 where
  pub slots : ℕ
  pub key : List ℕ
  pub places : List ℕ

-- what an index is seen as: its puts in order, and its shape
pub record Indexed : Type 0 where
  pub puts : List Put
  pub shape : Shape

-- so many slots, this key, and memory in each list for as many items as such an index may have puts
pub record IsShaped (slots : ℕ) (key : List ℕ) (shape : Shape) : Type 0 where
  pub slots_are : shape.slots ≡ slots
  pub key_is : shape.key ≡ key
  pub room : AllByRecursion (λ n. slots + 1 ≤ 2 * n) shape.places

-- the number of the first put under this key
abbrev pub value_in : List Put → List ℕ → Option ℕ
value_in [] k = None
value_in (p ∷ ps) k = if bytes_eq p.key k then Some p.value else value_in ps k

-- each key was absent when it was put
abbrev pub AreNew : List Put → Type 0
AreNew ps = (i : ℕ) (d : Put) → i < length ps → IsNone (value_in (take i ps) (slice_index_or ps i d).key)

-- this is the key of the last put
abbrev pub IsLast : List Put → List ℕ → Type 0
IsLast ps k = HoldsAt (λ p. p.key ≡ k) ps (length ps - 1)

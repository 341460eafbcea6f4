-- For invariants and the contracts of private functions alone: which price is offered for a product and a group, as a map has it.
use Rattle.std.specs.Prelude.{ℕ, List}
use Rattle.std.specs.declared.cmp.Ordering.{Ordering}
use Rattle.std.specs.Ordering.{nat_cmp, ordering_then}
use Rattle.nb_numbers.specs.Beside.{AreFirsts}
use Rattle.nb_groups.specs.Offers.{same_key}

-- the order of products and groups: by the product, and then by the group
abbrev pub key_cmp : ℕ × ℕ → ℕ × ℕ → Ordering
key_cmp a b = ordering_then (nat_cmp a.0 b.0) (nat_cmp a.1 b.1)

-- a map with these entries has for each product and group the price that the pairs have for them first, and no other
abbrev pub AreFirstPrices : List ((ℕ × ℕ) × ℕ) → List ((ℕ × ℕ) × ℕ) → Type 0
AreFirstPrices entries prices = AreFirsts key_cmp same_key entries prices

-- The least of prices, offer by offer.
use Rattle.std.proofs.Common.{◌≡◌, ℕ, ◌<◌, ◌+◌, min, List, [], ◌∷◌, length, drop, get_or, refl, ap, ◌∙◌, arith, true, add-one}
use Rattle.std.proofs.Math.Seq.{drop-cons}
use Rattle.nb_groups.specs.declared.found.Offer.{Offer}
use Rattle.nb_groups.specs.Quote.{least}
use Rattle.nb_groups.specs.Groups.{are_groups}

-- a price more among those that the least is of
pub least_with : (a b : ℕ) (offers : List Offer) → least (min a b) offers ≡ min b (least a offers)
least_with a b [] = omega arith
least_with a b (o ∷ offers) = let inner : least (min a b) offers ≡ min b (least a offers) = least_with a b offers in omega (arith, inner)

-- one group is the groups of a credential
pub one_group : (groups : List ℕ) → length groups ≡ 1 → are_groups groups ≡ true
one_group [] e = absurd (omega (arith, e))
one_group (a ∷ []) e = refl
one_group (a ∷ b ∷ groups) e = absurd (omega (arith, e))

-- the next offer is among those that the least is of
pub least_more : (offers items : List Offer) (i a p b : ℕ) (d : Offer) → items ≡ offers → i < length items → p ≡ (get_or items i d).price → b ≡ min a p → least b (drop (i + 1) offers) ≡ least a (drop i offers)
least_more offers items i a p b d same below is made =
    let there : i < length offers = omega (arith, below, ap length same) in
    let price : p ≡ (get_or offers i d).price = is ∙ ap (λ (l : List Offer). (get_or l i d).price) same in
    made_by ∙ least_with a p (drop (i + 1) offers) ∙ rw (price, drop-cons offers i d there, add-one) refl
  where
    made_by : least b (drop (i + 1) offers) ≡ least (min a p) (drop (i + 1) offers)
    made_by = ap (λ (n : ℕ). least n (drop (i + 1) offers)) made

-- Offers by product and group, in a list and in pairs.
use Rattle.std.proofs.Common.{◌≡◌, ℕ, true, false, List, [], ◌∷◌, ◌++◌, map, Option, None, Some, refl, ap, subst, ◌∙◌}
use Rattle.std.specs.List.{IsDistinct}
use Rattle.std.specs.Prelude.{cond, is_some}
use Rattle.std.specs.Map.{lookup, keys_of}
use Rattle.std.proofs.lemmas.List.{map-append}
use Rattle.std.proofs.lemmas.Bool.{false≢true}
use Rattle.nb_groups.specs.declared.found.Offer.{Offer}
use Rattle.nb_groups.specs.Offers.{key_of, same_key, AreApart, offer_at, price_for}

-- the pairs have the price that the list has
pub looked_up : (entries : List ((ℕ × ℕ) × ℕ)) (key : ℕ × ℕ) → lookup (same_key key) entries ≡ price_for (map offer_at entries) key
looked_up [] key = refl
looked_up (e ∷ entries) key = ap (cond (same_key key e.0) (Some e.1)) (looked_up entries key)

-- the offers of entries with one more
pub pushed : (entries new : List ((ℕ × ℕ) × ℕ)) (o : Offer) → new ≡ entries ++ ((o.product, o.group), o.price) ∷ [] → map offer_at new ≡ map offer_at entries ++ o ∷ []
pushed entries new o e = ap (map offer_at) e ∙ map-append offer_at entries (((o.product, o.group), o.price) ∷ [])

-- an answer that is something is not nothing
pub some_is_not_none : (o : Option ℕ) → is_some o ≡ true → o ≡ None → ⊥
some_is_not_none None is e = absurd (false≢true is)
some_is_not_none (Some n) is e = no_some n e
  where
    no_some : (x : ℕ) → ◌≡◌ {A = Option ℕ} (Some x) None → ⊥
    no_some x e = cc

-- the keys of the offers of pairs are those of the pairs
pub keys_again : (entries : List ((ℕ × ℕ) × ℕ)) → keys_of entries ≡ map key_of (map offer_at entries)
keys_again [] = refl
keys_again (e ∷ entries) = ap (λ (l : List (ℕ × ℕ)). e.0 ∷ l) (keys_again entries)

pub apart_of : (entries : List ((ℕ × ℕ) × ℕ)) → IsDistinct same_key (keys_of entries) → AreApart (map offer_at entries)
apart_of entries apart = subst (IsDistinct same_key) (keys_again entries) apart

-- A price more for a product and a group, in pairs and in a map.
use Rattle.std.proofs.Common.{◌≡◌, ℕ, false, List, [], ◌∷◌, ◌++◌, map, Some, None, sym, subst, ◌∙◌}
use Rattle.std.specs.Prelude.{◌==◌}
use Rattle.std.specs.Ordering.{is_eq, nat_cmp}
use Rattle.std.specs.Cmp.{both_tied, unsigned_ties}
use Rattle.std.specs.List.{IsDistinct, list_any}
use Rattle.std.specs.Map.{lookup, keys_of}
use Rattle.std.proofs.lemmas.List.{map-append}
use Rattle.std.proofs.lemmas.Map.Keys.{IsDistinct-push}
use Rattle.nb_numbers.proofs.Beside.{Puts, more_firsts}
use Rattle.nb_groups.specs.Offers.{same_key, offer_at}
use Rattle.nb_groups.specs.Prices.{key_cmp, AreFirstPrices}
use Rattle.nb_groups.proofs.Lookups.{looked_up, keys_again}
use Rattle.nb_groups.proofs.Reading.{keys_equiv, same_keys, absent}

ties : (a b : ℕ × ℕ) → same_key a b ≡ is_eq (key_cmp a b)
ties a b = both_tied (a.0 == b.0) (a.1 == b.1) (nat_cmp a.0 b.0) (nat_cmp a.1 b.1) (unsigned_ties a.0 b.0) (unsigned_ties a.1 b.1)

-- no two of none are for one product and one group
pub none_apart : IsDistinct same_key []
unfolding IsDistinct
none_apart = tt

pub more_prices : (entries later prices new : List ((ℕ × ℕ) × ℕ)) (key : ℕ × ℕ) (price : ℕ) → AreFirstPrices entries prices → lookup (same_key key) prices ≡ None
    → Puts key_cmp same_key entries later key (Some price) → new ≡ prices ++ (key, price) ∷ [] → AreFirstPrices later new
more_prices entries later prices new key price = more_firsts key_cmp same_key ties same_keys keys_equiv.symm entries later prices new key price

pub apart_more : (prices new : List ((ℕ × ℕ) × ℕ)) (key : ℕ × ℕ) (price : ℕ) → IsDistinct same_key (keys_of prices) → lookup (same_key key) prices ≡ None → new ≡ prices ++ (key, price) ∷ []
    → IsDistinct same_key (keys_of new)
apart_more prices new key price apart none new_is =
    let not_there = subst (λ (l : List (ℕ × ℕ)). list_any (same_key key) l ≡ false) (sym (keys_again prices)) (absent (map offer_at prices) key (sym (looked_up prices key) ∙ none)) in
    subst (λ (l : List ((ℕ × ℕ) × ℕ)). IsDistinct same_key (keys_of l)) (sym new_is)
    (subst (IsDistinct same_key) (sym (map-append (λ (e : (ℕ × ℕ) × ℕ). e.0) prices ((key, price) ∷ []))) (IsDistinct-push keys_equiv (keys_of prices) key apart not_there))

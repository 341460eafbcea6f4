-- Which purchase was ordered first with each identifier, in a list and in a map.
use Rattle.std.proofs.Common.{◌≡◌, ℕ, Bool, true, cond, List, [], ◌∷◌, ◌++◌, Option, Some, None, Ok, Err, Result, sym, ap, ◌∙◌}
use Rattle.std.specs.Prelude.{OnOk, nat_eq, is_some}
use Rattle.std.specs.Ordering.{nat_cmp}
use Rattle.std.specs.Cmp.Lexicographic.{pointwise, slice_cmp, texts_ties, bytes_decides, nat_list_eq_equiv}
use Rattle.nb_numbers.proofs.Beside.{Puts, more_firsts, back_firsts}
use Rattle.nb_units.specs.declared.memory.NoMemory.{NoMemory}
use Rattle.nb_consumer.specs.State.{ordered_with, noted}
use Rattle.nb_consumer.specs.Firsts.{AreFirstOrders}

-- an identifier that has a purchase keeps it
pub known_noted : (r : Result (Unit {0}) NoMemory) (orders : List (List ℕ × ℕ)) (k : List ℕ) (t : ℕ) → true ≡ is_some (ordered_with orders k) → OnOk r (orders ≡ noted orders k t)
known_noted (Ok done) orders k t is = ap (λ (b : Bool). cond b orders (orders ++ (k, t) ∷ [])) is
known_noted (Err none) orders k t is = tt

-- one that has none gets this one
pub new_noted : (orders new : List (List ℕ × ℕ)) (k : List ℕ) (t : ℕ) → ordered_with orders k ≡ None → new ≡ orders ++ (k, t) ∷ [] → new ≡ noted orders k t
new_noted orders new k t none is = is ∙ sym (ap (λ (o : Option ℕ). cond (is_some o) orders (orders ++ (k, t) ∷ [])) none)

pub more_orders : (entries later orders new : List (List ℕ × ℕ)) (k : List ℕ) (t : ℕ) → AreFirstOrders entries orders → ordered_with orders k ≡ None
    → Puts (slice_cmp nat_cmp) (pointwise nat_eq) entries later k (Some t) → new ≡ orders ++ (k, t) ∷ [] → AreFirstOrders later new
more_orders entries later orders new k t =
    more_firsts (slice_cmp nat_cmp) (pointwise nat_eq) texts_ties (λ x y. (bytes_decides x y).0) nat_list_eq_equiv.symm entries later orders new k t

pub orders_again : (entries later last orders new : List (List ℕ × ℕ)) (k : List ℕ) (t : ℕ) → AreFirstOrders entries orders → ordered_with orders k ≡ None
    → Puts (slice_cmp nat_cmp) (pointwise nat_eq) entries later k (Some t) → Puts (slice_cmp nat_cmp) (pointwise nat_eq) later last k None → new ≡ orders → AreFirstOrders last new
orders_again entries later last orders new k t =
    back_firsts (slice_cmp nat_cmp) (pointwise nat_eq) texts_ties (λ x y. (bytes_decides x y).0) nat_list_eq_equiv.symm entries later last orders new k t

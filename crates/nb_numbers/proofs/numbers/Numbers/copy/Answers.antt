use Rattle.std.proofs.Common.{◌≡◌, ℕ, ◌∙◌}
use Rattle.nb_numbers.proofs.Finding.{one_list, one_pair, same_found}
use Rattle.nb_numbers.proofs.numbers.Numbers.copy.Goals as goal

pub invariant_of-result : goal.invariant_of-result
invariant_of-result c =
    same_found c.self.inside.places.entries c.in_ok-places.places.entries c.self.inside.in_order.items c.in_ok-in_order.in_order.items c.self.invariant
    (one_list (λ (p q : ℕ × ℕ). (q.0 ≡ p.0) × (q.1 ≡ p.1)) one_pair c.self.inside.places.entries c.in_ok-places.places.entries c.in_ok-places.ensures.cases)
    (one_list (λ (x y : ℕ). y ≡ x) (λ x y e. e) c.self.inside.in_order.items c.in_ok-in_order.in_order.items c.in_ok-in_order.ensures.cases.0)

pub returns : goal.returns
returns c = one_list (λ (x y : ℕ). y ≡ x) (λ x y e. e) c.self.inside.in_order.items c.in_ok-in_order.in_order.items c.in_ok-in_order.ensures.cases.0 ∙ c.self.view_is

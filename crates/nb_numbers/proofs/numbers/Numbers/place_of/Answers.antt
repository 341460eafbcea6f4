use Rattle.std.proofs.Common.{ℕ, ◌<◌, length, Option, sym, subst, ◌∙◌}
use Rattle.std.specs.Prelude.{IfSome, nat_eq}
use Rattle.nb_numbers.proofs.Finding.{place_within}
use Rattle.nb_numbers.proofs.numbers.Numbers.place_of.Goals as goal

pub returns-clause-index : goal.returns-clause-index
returns-clause-index c = rw (← c.self.view_is) (c.copied.ensures ∙ c.get.ensures.value ∙ c.self.invariant.each c.args.number)

pub returns-clause-within : goal.returns-clause-within
returns-clause-within c =
    rw (← c.self.view_is)
    (subst (λ (o : Option ℕ). IfSome o (λ i. i < length c.self.inside.in_order.items)) (sym (c.copied.ensures ∙ c.get.ensures.value ∙ c.self.invariant.each c.args.number))
    (place_within (nat_eq c.args.number) c.self.inside.in_order.items))

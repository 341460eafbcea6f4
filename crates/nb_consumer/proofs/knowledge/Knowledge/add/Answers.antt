use Rattle.std.proofs.Common.{◌≡◌, None, sym, ap, subst, ◌∙◌}
use Rattle.std.specs.Prelude.{position, nat_eq}
use Rattle.nb_consumer.specs.State.{Buyer, place_of, fresh}
use Rattle.nb_consumer.proofs.Purchases.{add_keeps, pushed_so}
use Rattle.nb_consumer.proofs.knowledge.Knowledge.add.Goals as goal

pub add-requires : goal.add-requires
add-requires c =
    let none : place_of c.self.inside.purchases.items c.args.start.transaction ≡ None =
    subst (λ (b : Buyer). place_of b.purchases c.args.start.transaction ≡ None) (sym c.self.view_is) c.requires.1 in
    record { new = ap (position (nat_eq c.args.start.transaction)) c.self.invariant.numbers ∙ none }

pub invariant_of-self-2 : goal.invariant_of-self-2
invariant_of-self-2 c =
    let k = add_keeps c.self.inside.numbers c.add.new.self c.self.inside.purchases.items c.push_reserved.new.self.items (fresh c.args.start)
    c.self.invariant.numbers c.self.invariant.sound c.in_ok-add.ensures.added
    (pushed_so c.self.inside.purchases.items c.reserve.new.self.items c.push_reserved.new.self.items c.new.result (fresh c.args.start) c.in_ok-reserve.ensures.items c.new.ensures c.push_reserved.ensures.items)
    (c.requires.0, tt) in
    record { numbers = k.0; sound = k.1; firsts = c.self.invariant.firsts }

use Rattle.std.proofs.Common.{◌≡◌, Some, sym, subst, ap, ◌∙◌}
use Rattle.nb_wallet.specs.declared.purchase.Change.TheVariants.{More}
use Rattle.nb_wallet.specs.declared.purchase.Stage.{Stage}
use Rattle.nb_wallet.specs.Changes.{StageIsSound}
use Rattle.nb_wallet.specs.Stages.{ordered_from}
use Rattle.std.specs.Prelude.{position, nat_eq}
use Rattle.nb_consumer.specs.State.{Buyer, place_of, purchase_of}
use Rattle.nb_consumer.proofs.Purchases.{change_keeps, order_so}
use Rattle.nb_consumer.proofs.knowledge.Knowledge.order.Goals as goal

pub invariant_of-self : goal.invariant_of-self
invariant_of-self c =
    let k = change_keeps c.order_at.result c.self.inside.numbers c.self.inside.purchases.items c.order_at.new.purchases.items c.in-Some-place_of.at c.ordered_from-stage.result (More c.args.part)
    c.self.invariant.numbers c.self.invariant.sound (c.ordered_from-stage.ensures.sound (subst StageIsSound (sym c.stage.ensures) c.in-Some.ensures.sound.1) c.requires.0) c.order_at.ensures.changed c.order_at.ensures.err in
    record { numbers = k.0; sound = k.1; firsts = c.order_at.ensures.firsts }

pub returns-clause-remembered : goal.returns-clause-remembered
returns-clause-remembered c =
    let t = c.args.transaction in
    let b : Buyer = record { wallet = c.self.inside.wallet; purchases = c.self.inside.purchases.items; orders = c.self.inside.orders.items } in
    let found : purchase_of b t ≡ Some c.in-Some.purchase.now = subst (λ (x : Buyer). purchase_of x t ≡ Some c.in-Some.purchase.now) (sym c.self.view_is) (sym c.in-Some.ensures.found) in
    let place : place_of b.purchases t ≡ Some c.in-Some-place_of.at = ap (position (nat_eq t)) (sym c.self.invariant.numbers) ∙ sym c.in-Some-place_of.ensures.index in
    rw (← c.self.view_is)
    (order_so c.order_at.result b t c.args.order c.args.part c.in-Some-place_of.at c.in-Some.purchase.now c.ordered_from-stage.result c.order_at.new.purchases.items c.order_at.new.orders.items c.write.result
    place found (c.ordered_from-stage.ensures.stage ∙ ap (λ (s : Stage). ordered_from s c.args.order) c.stage.ensures) c.order_at.ensures.changed c.order_at.ensures.noted c.write.ensures.spelling)

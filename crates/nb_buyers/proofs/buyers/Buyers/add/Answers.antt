use Rattle.std.proofs.Common.{◌≡◌, None, List, ◌++◌, ◌∷◌, [], sym, ap, subst, ◌∙◌}
use Rattle.std.specs.Prelude.{position, nat_eq}
use Rattle.nb_consumer.specs.State.{Buyer, new_buyer}
use Rattle.nb_buyers.specs.Buyers.{buyer_number}
use Rattle.nb_packets.proofs.Places.{numbers_more, number_new}
use Rattle.nb_buyers.proofs.buyers.Buyers.add.Goals as goal

pub add-requires : goal.add-requires
add-requires c =
    let none = subst (λ bs. position (λ (b : Buyer). nat_eq b.wallet.id.0 c.args.wallet.id.0) bs ≡ None) (sym c.self.view_is) c.requires.new in
    record { new = number_new c.args.wallet.id.0 buyer_number c.self.inside.numbers c.self.inside.each.items c.self.invariant none }

pub invariant_of-self-2 : goal.invariant_of-self-2
invariant_of-self-2 c =
    let x : Buyer = new_buyer c.args.wallet in
    let pushed = c.push_reserved.ensures.items ∙ ap (λ (xs : List Buyer). xs ++ c.new.result ∷ []) c.reserve.ensures.items ∙ ap (λ (y : Buyer). c.self.inside.each.items ++ y ∷ []) c.new.ensures in
    numbers_more buyer_number c.self.inside.numbers c.add.new.self c.self.inside.each.items c.push_reserved.new.self.items x c.self.invariant c.in_ok-add.ensures.added pushed

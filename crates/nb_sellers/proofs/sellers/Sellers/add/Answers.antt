use Rattle.std.proofs.Common.{◌≡◌, None, List, ◌++◌, ◌∷◌, [], sym, ap, subst, ◌∙◌}
use Rattle.std.specs.Prelude.{position, nat_eq}
use Rattle.nb_merchant.specs.Shop.{Shop, new_shop}
use Rattle.nb_sellers.specs.Sellers.{shop_number}
use Rattle.nb_packets.proofs.Places.{numbers_more, number_new}
use Rattle.nb_sellers.proofs.sellers.Sellers.add.Goals as goal

pub add-requires : goal.add-requires
add-requires c =
    let none = subst (λ bs. position (λ (s : Shop). nat_eq s.stall.id.0 c.args.stall.id.0) bs ≡ None) (sym c.self.view_is) c.requires.new in
    record { new = number_new c.args.stall.id.0 shop_number c.self.inside.numbers c.self.inside.each.items c.self.invariant none }

pub invariant_of-self-2 : goal.invariant_of-self-2
invariant_of-self-2 c =
    let x : Shop = new_shop c.args.stall c.args.catalogue None in
    let pushed = c.push_reserved.ensures.items ∙ ap (λ (xs : List Shop). xs ++ c.new.result ∷ []) c.reserve.ensures.items ∙ ap (λ (y : Shop). c.self.inside.each.items ++ y ∷ []) c.new.ensures in
    numbers_more shop_number c.self.inside.numbers c.add.new.self c.self.inside.each.items c.push_reserved.new.self.items x c.self.invariant c.in_ok-add.ensures.added pushed

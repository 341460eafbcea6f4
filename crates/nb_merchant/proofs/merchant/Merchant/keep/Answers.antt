use Rattle.std.proofs.Common.{◌≡◌, ◌++◌, ◌∷◌, [], true, List, ap, sym, subst, ◌∙◌}
use Rattle.std.specs.BTreeMap.{get}
use Rattle.nb_stall.specs.declared.delivery.Delivery.{Delivery}
use Rattle.nb_stall.specs.declared.item.Item.{Item}
use Rattle.nb_merchant.specs.Shop.{Shop}
use Rattle.nb_merchant.specs.Keeping.{follows}
use Rattle.nb_merchant.specs.Noting.{HasParts, Holds}
use Rattle.nb_stall.specs.Sales.{purchase_cmp, deliveries_in}
use Rattle.nb_merchant.proofs.Keeping.{holds_more}
use Rattle.nb_merchant.proofs.merchant.Merchant.keep.Goals as goal

pub invariant_of-self-2 : goal.invariant_of-self-2
invariant_of-self-2 c =
    let x = c.args.item in
    let shop : Shop = record { stall = c.self.inside.stall; products = c.self.inside.catalogue; offers = c.self.inside.offers; items = c.self.inside.items.items } in
    let new = get purchase_cmp c.note.new.sales in
    let more = c.note_delivery.new.deliveries.items in
    let seen : shop ≡ c.args.self.now = c.self.view_is in
    let items : c.push_reserved.new.self.items ≡ c.self.inside.items.items ++ x ∷ [] = c.push_reserved.ensures.items ∙ ap (λ (xs : List Item). xs ++ x ∷ []) c.reserve.ensures.items in
    let behind : more ≡ c.self.inside.deliveries.items ++ deliveries_in (x ∷ []) = c.note_delivery.ensures ∙ ap (λ (ds : List Delivery). ds ++ deliveries_in (x ∷ [])) c.reserve-2.ensures.items in
    subst (λ (xs : List Item). Holds (record { stall = c.self.inside.stall; products = c.self.inside.catalogue; offers = c.self.inside.offers; items = xs }) new more) (sym items)
    (holds_more shop x c.args.parts (get purchase_cmp c.self.inside.sales) new c.self.inside.deliveries.items more c.self.invariant c.requires.within
    (subst (λ (s : Shop). follows s x ≡ true) (sym seen) c.requires.follows) (subst (λ (s : Shop). HasParts s x c.args.parts) (sym seen) c.requires.parts)
    c.in_ok-note.ensures.noted behind)

use Rattle.std.proofs.Common.{sym, subst, ◌∙◌}
use Rattle.nb_stall.specs.Ledger.{AreSerials}
use Rattle.nb_merchant.specs.Shop.{new_shop}
use Rattle.nb_merchant.proofs.Serials.{serials_kept}
use Rattle.nb_merchant.proofs.merchant.Merchant.sold_as.Goals as goal

pub delivery_at-requires : goal.delivery_at-requires
delivery_at-requires c =
    subst AreSerials (sym (c.deref.ensures.value ∙ c.self.invariant.deliveries))
    (serials_kept (new_shop c.self.inside.stall c.self.inside.catalogue c.self.inside.offers) c.self.inside.items.items c.self.invariant.kept.follow)

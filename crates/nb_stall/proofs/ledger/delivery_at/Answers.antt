use Rattle.std.proofs.Common.{Option, arith, ap, sym, ◌∙◌}
use Rattle.nb_stall.specs.declared.delivery.Delivery.{Delivery}
use Rattle.nb_stall.specs.Ledger.{given_as}
use Rattle.nb_stall.proofs.Serials.{before_first, by_serial}
use Rattle.nb_stall.proofs.ledger.delivery_at.Goals as goal

pub returns-then-epoid-eq0 : goal.returns-then-epoid-eq0
returns-then-epoid-eq0 c = sym (before_first 1 c.args.deliveries.now c.args.epoid.now c.requires (omega arith))

pub returns : goal.returns
returns c =
    let e = c.args.epoid.now in
    c.given_as.ensures ∙ ap (λ (o : Option Delivery). given_as o e) c.delivery_of.ensures ∙ sym (by_serial 1 c.args.deliveries.now e c.requires (omega arith))

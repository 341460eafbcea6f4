use Rattle.std.proofs.Common.{◌∙◌, sym}
use Rattle.nb_msgs.specs.declared.node.Reason.TheVariants.{Unknown}
use Rattle.nb_consumer.specs.State.{purchase_of}
use Rattle.nb_consumer.proofs.Purchases.{found_number, found_some}
use Rattle.nb_consumer.proofs.knowledge.Knowledge.hear_goods.Goals as goal

pub take-requires-clause-number : goal.take-requires-clause-number
take-requires-clause-number c =
    c.in_ok-told.ensures.number
    ∙ found_number c.args.self.now c.args.transaction c.in_ok-purchase.purchase.now
    (found_some Unknown (purchase_of c.args.self.now c.args.transaction) c.in_ok-purchase.purchase.now (sym c.in_ok-purchase.ensures.found))

use Rattle.nb_consumer.proofs.Purchases.{end_keeps}
use Rattle.nb_consumer.proofs.knowledge.Knowledge.close.Goals as goal

pub invariant_of-self : goal.invariant_of-self
invariant_of-self c =
    let k = end_keeps c.self.inside.numbers c.self.inside.purchases.items c.close_at.new.purchases.items c.in-Some.at c.args.receipt.now.receipt
    c.self.invariant.numbers c.self.invariant.sound c.close_at.ensures in
    record { numbers = k.0; sound = k.1; firsts = c.self.invariant.firsts }

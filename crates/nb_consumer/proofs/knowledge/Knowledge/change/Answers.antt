use Rattle.nb_consumer.proofs.Purchases.{change_keeps}
use Rattle.nb_consumer.proofs.knowledge.Knowledge.change.Goals as goal

pub invariant_of-self : goal.invariant_of-self
invariant_of-self c =
    let k = change_keeps c.change_at.result c.self.inside.numbers c.self.inside.purchases.items c.change_at.new.purchases.items c.in-Some.at c.args.stage c.args.parts
    c.self.invariant.numbers c.self.invariant.sound c.requires.sound c.change_at.ensures.changed c.change_at.ensures.err in
    record { numbers = k.0; sound = k.1; firsts = c.self.invariant.firsts }

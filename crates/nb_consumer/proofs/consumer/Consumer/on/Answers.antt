use Rattle.nb_consumer.specs.Runs.{Hears}
use Rattle.nb_consumer.proofs.Running.{has_more}
use Rattle.nb_consumer.proofs.consumer.Consumer.on.Goals as goal

pub invariant_of-self : goal.invariant_of-self
invariant_of-self c =
    has_more c.self.inside.known c.answer.new.self (Hears c.args.message.now) c.hear-deed.result c.answer.result c.answer.ensures.answers c.hear-deed.ensures.row c.self.invariant

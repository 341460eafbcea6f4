use Rattle.nb_consumer.specs.Runs.{Waits}
use Rattle.nb_consumer.proofs.Running.{has_more}
use Rattle.nb_consumer.proofs.consumer.Consumer.quiet.Goals as goal

pub invariant_of-self : goal.invariant_of-self
invariant_of-self c =
    has_more c.self.inside.known c.answer.new.self (Waits c.args.transaction) c.wait-deed.result c.answer.result c.answer.ensures.answers c.wait-deed.ensures.row c.self.invariant

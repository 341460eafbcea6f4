use Rattle.nb_consumer.specs.Runs.{Starts}
use Rattle.nb_consumer.proofs.Running.{has_more}
use Rattle.nb_consumer.proofs.consumer.Consumer.start.Goals as goal

pub invariant_of-self : goal.invariant_of-self
invariant_of-self c =
    has_more c.self.inside.known c.answer.new.self (Starts c.args.start.now) c.begin-deed.result c.answer.result c.answer.ensures.answers c.begin-deed.ensures.row c.self.invariant

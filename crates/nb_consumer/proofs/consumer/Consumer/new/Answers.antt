use Rattle.nb_consumer.proofs.Running.{has_none}
use Rattle.nb_consumer.proofs.consumer.Consumer.new.Goals as goal

pub invariant_of-result : goal.invariant_of-result
invariant_of-result c = rw c.new.ensures (has_none c.args.wallet)

use Rattle.nb_consumer.proofs.Running.{has_again}
use Rattle.nb_consumer.proofs.consumer.Consumer.restart.Goals as goal

pub invariant_of-result : goal.invariant_of-result
invariant_of-result c = has_again c.args.wallet c.args.items.now c.in_ok-known.known c.in_ok-known.ensures

use Rattle.nb_consumer.proofs.Knowing.{kept_order_is_so}
use Rattle.nb_consumer.proofs.laws.kept_order_is_so.Goals as goal

pub returns : goal.returns
returns c = kept_order_is_so

use Rattle.nb_consumer.proofs.Keeping.{paid_opens}
use Rattle.nb_consumer.proofs.laws.paid_opens.Goals as goal

pub returns : goal.returns
returns c = paid_opens

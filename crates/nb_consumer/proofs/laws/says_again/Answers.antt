use Rattle.nb_consumer.proofs.Again.{says_again}
use Rattle.nb_consumer.proofs.laws.says_again.Goals as goal

pub returns : goal.returns
returns c = says_again

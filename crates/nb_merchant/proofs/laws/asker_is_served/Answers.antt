use Rattle.nb_merchant.proofs.Serving.{asker_is_served}
use Rattle.nb_merchant.proofs.laws.asker_is_served.Goals as goal

pub returns : goal.returns
returns c = asker_is_served

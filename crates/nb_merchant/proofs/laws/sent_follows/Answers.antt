use Rattle.nb_merchant.proofs.Running.{sent_follows}
use Rattle.nb_merchant.proofs.laws.sent_follows.Goals as goal

pub returns : goal.returns
returns c = sent_follows

use Rattle.nb_merchant.proofs.Running.{passed_is_heard}
use Rattle.nb_merchant.proofs.laws.passed_is_heard.Goals as goal

pub returns : goal.returns
returns c = passed_is_heard

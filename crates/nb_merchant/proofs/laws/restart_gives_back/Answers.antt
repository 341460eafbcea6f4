use Rattle.nb_merchant.proofs.Restarting.{restart_gives_back}
use Rattle.nb_merchant.proofs.laws.restart_gives_back.Goals as goal

pub returns : goal.returns
returns c = restart_gives_back

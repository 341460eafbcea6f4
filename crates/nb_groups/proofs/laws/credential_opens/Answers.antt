use Rattle.nb_groups.proofs.Layouts.{credential_opens}
use Rattle.nb_groups.proofs.laws.credential_opens.Goals as goal

pub returns : goal.returns
returns c = credential_opens

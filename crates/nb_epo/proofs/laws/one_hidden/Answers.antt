use Rattle.nb_epo.proofs.Layouts.{one_hidden}
use Rattle.nb_epo.proofs.laws.one_hidden.Goals as goal

pub returns : goal.returns
returns c = one_hidden

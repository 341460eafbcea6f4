use Rattle.nb_epo.proofs.Layouts.{lengths}
use Rattle.nb_epo.proofs.laws.lengths.Goals as goal

pub returns : goal.returns
returns c = lengths

use Rattle.nb_headline.proofs.Standbys.{other_is_never_told}
use Rattle.nb_headline.proofs.laws.other_is_never_told.Goals as goal

pub returns : goal.returns
returns c = other_is_never_told

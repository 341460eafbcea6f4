use Rattle.nb_headline.proofs.Standbys.{promoted_has_told}
use Rattle.nb_headline.proofs.laws.promoted_has_told.Goals as goal

pub returns : goal.returns
returns g c = promoted_has_told g.D.Disk.tells g.met.D.Disk.only_now

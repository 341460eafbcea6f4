use Rattle.nb_headline.proofs.Standbys.{ships_are_shipped}
use Rattle.nb_headline.proofs.laws.ships_are_shipped.Goals as goal

pub returns : goal.returns
returns c = ships_are_shipped

use Rattle.nb_session.proofs.Completing.{complete}
use Rattle.nb_session.proofs.laws.completes.Goals as goal

pub returns : goal.returns
returns g c = complete g.D.Disk.tells

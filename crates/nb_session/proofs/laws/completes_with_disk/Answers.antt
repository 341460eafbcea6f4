use Rattle.nb_session.proofs.Completing.{complete_with_disk}
use Rattle.nb_session.proofs.laws.completes_with_disk.Goals as goal

pub returns : goal.returns
returns g c = complete_with_disk g.D.Disk.tells

use Rattle.nb_vault.proofs.Seeing.{lines_fit}
use Rattle.nb_vault.proofs.laws.lines_fit.Goals as goal

pub returns : goal.returns
returns g c = lines_fit g.D.Disk.tells

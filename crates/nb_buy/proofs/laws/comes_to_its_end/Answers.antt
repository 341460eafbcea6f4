use Rattle.nb_buy.proofs.Coming.{comes_to_its_end}
use Rattle.nb_buy.proofs.laws.comes_to_its_end.Goals as goal

pub returns : goal.returns
returns g c = comes_to_its_end g.D.Disk.tells

use Rattle.nb_headline.proofs.Along.{desk_turns}
use Rattle.nb_headline.proofs.laws.desk_turns_are_of_house.Goals as goal

pub returns : goal.returns
returns g c = desk_turns g.D.Disk.tells

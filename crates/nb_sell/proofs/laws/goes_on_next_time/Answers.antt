use Rattle.nb_sell.proofs.NextTime.{goes_on_next_time}
use Rattle.nb_sell.proofs.laws.goes_on_next_time.Goals as goal

pub returns : goal.returns
returns g c = goes_on_next_time g.D.Disk.tells g.met.D.Disk.only_now

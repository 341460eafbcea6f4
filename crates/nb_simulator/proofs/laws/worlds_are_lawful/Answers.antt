use Rattle.nb_simulator.proofs.Lawful.{worlds_are_lawful}
use Rattle.nb_simulator.proofs.laws.worlds_are_lawful.Goals as goal

pub returns : goal.returns
returns c = worlds_are_lawful c.stays_legal.ensures c.records_legal.ensures

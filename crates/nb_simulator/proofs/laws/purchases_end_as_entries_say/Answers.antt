use Rattle.nb_simulator.proofs.Lawful.{ends_told}
use Rattle.nb_simulator.proofs.laws.purchases_end_as_entries_say.Goals as goal

pub returns : goal.returns
returns c = ends_told c.stays_legal.ensures c.records_legal.ensures

use Rattle.nb_parties.proofs.Ending.{ends_law, real_is_one}
use Rattle.nb_parties.proofs.laws.purchases_end_as_entries_say.Goals as goal

pub returns-clause-ends : goal.returns-clause-ends
returns-clause-ends g c = ends_law {M = g.row.M.Denot} c.stays_legal.ensures c.records_legal.ensures

pub returns-clause-real : goal.returns-clause-real
returns-clause-real g c = real_is_one

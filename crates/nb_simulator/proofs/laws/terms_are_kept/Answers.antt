use Rattle.nb_simulator.proofs.Terms.{terms_are_kept}
use Rattle.nb_simulator.proofs.laws.terms_are_kept.Goals as goal

pub returns : goal.returns
returns c = terms_are_kept c.stays_legal.ensures c.records_legal.ensures

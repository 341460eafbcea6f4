use Rattle.nb_parties.proofs.Played.{premises_are_met}
use Rattle.nb_parties.proofs.laws.premises_are_met.Goals as goal

pub returns : goal.returns
returns c = premises_are_met c.stays_legal.ensures

use Rattle.nb_escrow.proofs.Replying.{keys_are_the_parties}
use Rattle.nb_escrow.proofs.laws.keys_are_the_parties.Goals as goal

pub returns : goal.returns
returns c = keys_are_the_parties

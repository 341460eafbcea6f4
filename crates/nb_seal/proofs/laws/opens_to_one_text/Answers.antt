use Rattle.nb_seal.proofs.Opening.{opens_once}
use Rattle.nb_seal.proofs.laws.opens_to_one_text.Goals as goal

pub returns : goal.returns
returns c = opens_once

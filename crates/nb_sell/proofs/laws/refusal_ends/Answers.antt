use Rattle.nb_sell.proofs.Again.{refusal_ends}
use Rattle.nb_sell.proofs.laws.refusal_ends.Goals as goal

pub returns : goal.returns
returns c = refusal_ends

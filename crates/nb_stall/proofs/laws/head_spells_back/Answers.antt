use Rattle.nb_stall.proofs.Heads.{head_spells_back}
use Rattle.nb_stall.proofs.laws.head_spells_back.Goals as goal

pub returns : goal.returns
returns c = head_spells_back

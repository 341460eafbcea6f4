use Rattle.nb_judge.proofs.Layouts.{case_spells_back}
use Rattle.nb_judge.proofs.laws.case_spells_back.Goals as goal

pub returns : goal.returns
returns c = case_spells_back

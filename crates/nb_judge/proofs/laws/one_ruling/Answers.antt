use Rattle.nb_judge.proofs.Once.{one_ruling}
use Rattle.nb_judge.proofs.laws.one_ruling.Goals as goal

pub returns : goal.returns
returns c = one_ruling

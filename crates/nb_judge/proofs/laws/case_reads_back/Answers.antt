use Rattle.nb_judge.proofs.Layouts.{case_reads_back}
use Rattle.nb_judge.proofs.laws.case_reads_back.Goals as goal

pub returns : goal.returns
returns c = case_reads_back

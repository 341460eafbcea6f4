use Rattle.nb_epo.proofs.Layouts.{hidden_reads_back}
use Rattle.nb_epo.proofs.laws.hidden_reads_back.Goals as goal

pub returns : goal.returns
returns c = hidden_reads_back

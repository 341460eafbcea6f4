use Rattle.nb_epo.proofs.Layouts.{order_reads_back}
use Rattle.nb_epo.proofs.laws.order_reads_back.Goals as goal

pub returns : goal.returns
returns c = order_reads_back

use Rattle.nb_body.proofs.Layouts.{query_reads_back}
use Rattle.nb_body.proofs.laws.query_reads_back.Goals as goal

pub returns : goal.returns
returns c = query_reads_back

use Rattle.nb_body.proofs.Layouts.{quote_reads_back}
use Rattle.nb_body.proofs.laws.quote_reads_back.Goals as goal

pub returns : goal.returns
returns c = quote_reads_back

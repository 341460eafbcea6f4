use Rattle.nb_body.proofs.Layouts.{funding_reads_back}
use Rattle.nb_body.proofs.laws.funding_reads_back.Goals as goal

pub returns : goal.returns
returns c = funding_reads_back

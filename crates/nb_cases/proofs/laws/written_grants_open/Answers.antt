use Rattle.nb_cases.proofs.Opening.{written_grants_open}
use Rattle.nb_cases.proofs.laws.written_grants_open.Goals as goal

pub returns : goal.returns
returns c = written_grants_open

use Rattle.nb_consumer.proofs.Keeping.{rows_are_so}
use Rattle.nb_consumer.proofs.laws.rows_are_so.Goals as goal

pub returns : goal.returns
returns c = rows_are_so

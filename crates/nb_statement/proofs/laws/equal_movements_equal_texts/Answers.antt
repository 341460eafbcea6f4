use Rattle.nb_statement.proofs.Telling.{equal_texts}
use Rattle.nb_statement.proofs.laws.equal_movements_equal_texts.Goals as goal

pub returns : goal.returns
returns c = equal_texts

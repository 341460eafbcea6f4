use Rattle.nb_statement.proofs.Telling.{each_line}
use Rattle.nb_statement.proofs.laws.each_line_has_its_balance.Goals as goal

pub returns : goal.returns
returns c = each_line

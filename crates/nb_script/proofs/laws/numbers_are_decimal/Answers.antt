use Rattle.nb_script.proofs.Joining.{numbers_are_decimal}
use Rattle.nb_script.proofs.laws.numbers_are_decimal.Goals as goal

pub returns : goal.returns
returns c = numbers_are_decimal

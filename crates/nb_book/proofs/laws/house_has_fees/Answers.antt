use Rattle.nb_book.proofs.Balances.{house_has_fees}
use Rattle.nb_book.proofs.laws.house_has_fees.Goals as goal

pub returns : goal.returns
returns c = house_has_fees

use Rattle.nb_book.proofs.Fees.{fee_within_price, rest_and_fee}
use Rattle.nb_book.proofs.laws.fee_within_price.Goals as goal

pub returns-clause-most : goal.returns-clause-most
returns-clause-most c = fee_within_price

pub returns-clause-rest : goal.returns-clause-rest
returns-clause-rest c = rest_and_fee

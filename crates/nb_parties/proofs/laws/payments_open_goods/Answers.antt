use Rattle.nb_parties.proofs.Paying.{goods_law, goods_of_each_payment}
use Rattle.nb_parties.proofs.laws.payments_open_goods.Goals as goal

pub returns-clause-behind : goal.returns-clause-behind
returns-clause-behind c = goods_law c.stays_legal.ensures c.records_legal.ensures

pub returns-clause-each : goal.returns-clause-each
returns-clause-each c = goods_of_each_payment c.stays_legal.ensures c.records_legal.ensures

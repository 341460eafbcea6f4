use Rattle.nb_sell.proofs.Rows.{house_told}
use Rattle.nb_sell.proofs.hearing.told.Goals as goal

pub returns-in-Ok-clause-whom : goal.returns-in-Ok-clause-whom
returns-in-Ok-clause-whom c = house_told c.args.merchant.now c.in-Ok.message c.on_server-step.result c.on_server-step.ensures.step

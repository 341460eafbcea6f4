use Rattle.nb_merchant.specs.Table.{heard_of_house}
use Rattle.nb_merchant.proofs.Following.{heard_of_house_follows, plans_follow}
use Rattle.nb_merchant.proofs.Keeping.{plain_plans}
use Rattle.nb_merchant.proofs.Sent.{result_is, result_keeps}
use Rattle.nb_merchant.proofs.merchant.Merchant.on_server.Goals as goal

pub perform-step-requires-clause-follows : goal.perform-step-requires-clause-follows
perform-step-requires-clause-follows c =
    let shop = c.args.self.now in
    plans_follow shop c.hear_house-planned.result (heard_of_house shop c.args.message.now) c.hear_house-planned.ensures.row (heard_of_house_follows shop c.args.message.now)

pub perform-step-requires-clause-parts : goal.perform-step-requires-clause-parts
perform-step-requires-clause-parts c = plain_plans c.args.self.now c.hear_house-planned.result c.hear_house-planned.ensures.parts

pub returns-clause-sent : goal.returns-clause-sent
returns-clause-sent c = result_is c.args.self.now c.perform-step.new.self c.hear_house-planned.result (heard_of_house c.args.self.now c.args.message.now) c.perform-step.result c.hear_house-planned.ensures.row (heard_of_house_follows c.args.self.now c.args.message.now) c.witness.ensures.kept c.perform-step.ensures.step c.perform-step.ensures.kept

pub returns-clause-fits : goal.returns-clause-fits
returns-clause-fits c = result_keeps c.args.self.now c.perform-step.new.self c.hear_house-planned.result (heard_of_house c.args.self.now c.args.message.now) c.perform-step.result c.hear_house-planned.ensures.row c.witness.ensures.kept c.perform-step.ensures.step c.perform-step.ensures.kept

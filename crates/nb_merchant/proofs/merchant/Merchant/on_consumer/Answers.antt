use Rattle.nb_merchant.specs.Table.{heard}
use Rattle.nb_merchant.proofs.Following.{heard_follows, plans_follow}
use Rattle.nb_merchant.proofs.Sent.{result_is, result_keeps}
use Rattle.nb_merchant.proofs.merchant.Merchant.on_consumer.Goals as goal

pub perform-step-requires-clause-follows : goal.perform-step-requires-clause-follows
perform-step-requires-clause-follows c =
    let shop = c.args.self.now in
    plans_follow shop c.hear-planned.result (heard shop c.args.message.now c.args.moment) c.hear-planned.ensures.row (heard_follows shop c.args.message.now c.args.moment)

pub returns-clause-sent : goal.returns-clause-sent
returns-clause-sent c = result_is c.args.self.now c.perform-step.new.self c.hear-planned.result (heard c.args.self.now c.args.message.now c.args.moment) c.perform-step.result c.hear-planned.ensures.row (heard_follows c.args.self.now c.args.message.now c.args.moment) c.witness.ensures.kept c.perform-step.ensures.step c.perform-step.ensures.kept

pub returns-clause-fits : goal.returns-clause-fits
returns-clause-fits c = result_keeps c.args.self.now c.perform-step.new.self c.hear-planned.result (heard c.args.self.now c.args.message.now c.args.moment) c.perform-step.result c.hear-planned.ensures.row c.witness.ensures.kept c.perform-step.ensures.step c.perform-step.ensures.kept

use Rattle.nb_merchant.specs.Table.{purchase_by, silent}
use Rattle.nb_merchant.proofs.Following.{silence_follows, plans_follow}
use Rattle.nb_merchant.proofs.Keeping.{plain_plans}
use Rattle.nb_merchant.proofs.Sent.{result_is, result_keeps}
use Rattle.nb_merchant.proofs.merchant.Merchant.quiet.Goals as goal

pub perform-step-requires-clause-follows : goal.perform-step-requires-clause-follows
perform-step-requires-clause-follows c =
    let shop = c.args.self.now in
    let p = purchase_by c.args.consumer c.args.transaction in
    plans_follow shop c.silent-planned.result (silent shop p) c.silent-planned.ensures.row (silence_follows shop p)

pub perform-step-requires-clause-parts : goal.perform-step-requires-clause-parts
perform-step-requires-clause-parts c = plain_plans c.args.self.now c.silent-planned.result c.silent-planned.ensures.parts

pub returns-clause-sent : goal.returns-clause-sent
returns-clause-sent c = result_is c.args.self.now c.perform-step.new.self c.silent-planned.result (silent c.args.self.now (purchase_by c.args.consumer c.args.transaction)) c.perform-step.result c.silent-planned.ensures.row (silence_follows c.args.self.now (purchase_by c.args.consumer c.args.transaction)) c.witness.ensures.kept c.perform-step.ensures.step c.perform-step.ensures.kept

pub returns-clause-fits : goal.returns-clause-fits
returns-clause-fits c = result_keeps c.args.self.now c.perform-step.new.self c.silent-planned.result (silent c.args.self.now (purchase_by c.args.consumer c.args.transaction)) c.perform-step.result c.silent-planned.ensures.row c.witness.ensures.kept c.perform-step.ensures.step c.perform-step.ensures.kept

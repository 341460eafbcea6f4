use Rattle.std.proofs.Common.{[]}
use Rattle.nb_msgs.specs.ReplyBytes.{joined}
use Rattle.nb_turns.specs.Turns.{FitTurn}
use Rattle.nb_vault.specs.Asking.{requests_of}
use Rattle.nb_turn.specs.Passes.{held_sees, sees}
use Rattle.nb_desk.proofs.Turning.{given, at_last, asks_fit}
use Rattle.nb_desk.proofs.desk.Desk.decide_all.Goals as goal

pub returns-clause-goes_on : goal.returns-clause-goes_on
returns-clause-goes_on g c =
    let fits : FitTurn (requests_of c.args.bytes.now c.args.asks.now) = asks_fit c.args.bytes.now c.args.asks.now c.requires.some c.requires.most in
    at_last g.D.Disk.tells c.args.pass.number c.take-held.result.hold.number (sees c.args.pass) (held_sees c.take-held.result) (sees c.decide_all_held.result.0) (requests_of c.args.bytes.now c.args.asks.now) c.decide_all_held.ensures.answers.0 [] (joined c.decide_all_held.new.drafts.items) c.take-held.result.value c.decide_all_held.result.1 fits c.args.pass.is_pass.number_is (c.take-held.ensures.number) c.decide_all_held.ensures.answers.2 c.take-held.ensures.taken

pub returns-clause-gives : goal.returns-clause-gives
returns-clause-gives g c =
    let fits : FitTurn (requests_of c.args.bytes.now c.args.asks.now) = asks_fit c.args.bytes.now c.args.asks.now c.requires.some c.requires.most in
    (c.decide_all_held.ensures.answers.0, c.decide_all_held.ensures.answers.1, given g.D.Disk.tells c.args.pass.number c.take-held.result.hold.number (sees c.args.pass) (held_sees c.take-held.result) (sees c.decide_all_held.result.0) (requests_of c.args.bytes.now c.args.asks.now) c.decide_all_held.ensures.answers.0 [] (joined c.decide_all_held.new.drafts.items) c.take-held.result.value c.decide_all_held.result.1 fits c.args.pass.is_pass.number_is (c.take-held.ensures.number) c.decide_all_held.ensures.answers.2 c.take-held.ensures.taken.1)

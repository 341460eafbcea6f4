use Rattle.std.proofs.Common.{[]}
use Rattle.nb_msgs.specs.ReplyBytes.{joined}
use Rattle.nb_turns.specs.Turns.{FitTurn}
use Rattle.nb_vault.specs.Asking.{requests_of}
use Rattle.nb_turn.specs.Passes.{held_sees, sees}
use Rattle.nb_desk.proofs.Turning.{tried, asks_fit}
use Rattle.nb_desk.proofs.desk.Desk.try_decide_all.Goals as goal

pub returns-in-Ok-clause-tries : goal.returns-in-Ok-clause-tries
returns-in-Ok-clause-tries g c =
    let fits : FitTurn (requests_of c.args.bytes.now c.args.asks.now) = asks_fit c.args.bytes.now c.args.asks.now c.requires.some c.requires.most in
    (c.decide_all_held.ensures.answers.0, c.decide_all_held.ensures.answers.1, tried g.D.Disk.tells c.args.pass.number c.in-Ok.held.hold.number (sees c.args.pass) (held_sees c.in-Ok.held) (sees c.decide_all_held.result.0) (requests_of c.args.bytes.now c.args.asks.now) c.decide_all_held.ensures.answers.0 [] (joined c.decide_all_held.new.drafts.items) c.in-Ok.held.value c.decide_all_held.result.1 fits c.args.pass.is_pass.number_is (c.in-Ok.ensures.ok.1) c.decide_all_held.ensures.answers.2 c.in-Ok.ensures.ok.2)

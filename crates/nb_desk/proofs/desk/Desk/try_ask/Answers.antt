use Rattle.std.proofs.Common.{[], ◌∷◌, arith}
use Rattle.nb_turns.specs.Turns.{FitTurn}
use Rattle.nb_vault.specs.Asking.{request_of}
use Rattle.nb_turn.specs.Passes.{held_sees, sees}
use Rattle.nb_desk.specs.Asks.{all_asked, place_asked}
use Rattle.nb_desk.proofs.Turning.{tried}
use Rattle.nb_desk.proofs.desk.Desk.try_ask.Goals as goal

pub returns-in-Ok-clause-tries : goal.returns-in-Ok-clause-tries
returns-in-Ok-clause-tries g c =
    let fits : FitTurn (request_of c.args.kind c.args.body.now c.args.moment ∷ []) = (omega arith, omega arith) in
    tried g.D.Disk.tells c.args.pass.number c.in-Ok.held.hold.number (sees c.args.pass) (held_sees c.in-Ok.held) (sees c.ask_held.result.0) (request_of c.args.kind c.args.body.now c.args.moment ∷ []) (place_asked c.ask_held.result.1) c.args.out.now.items c.ask_held.new.out.items c.in-Ok.held.value (all_asked c.ask_held.result.1) fits c.args.pass.is_pass.number_is (c.in-Ok.ensures.ok.1) c.ask_held.ensures.answers c.in-Ok.ensures.ok.2

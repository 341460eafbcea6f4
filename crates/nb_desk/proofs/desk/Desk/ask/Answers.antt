use Rattle.std.proofs.Common.{[], ◌∷◌, arith}
use Rattle.nb_turns.specs.Turns.{FitTurn}
use Rattle.nb_vault.specs.Asking.{request_of}
use Rattle.nb_turn.specs.Passes.{held_sees, sees}
use Rattle.nb_desk.specs.Asks.{all_asked, place_asked}
use Rattle.nb_desk.proofs.Turning.{given, at_last}
use Rattle.nb_desk.proofs.desk.Desk.ask.Goals as goal

pub returns-clause-goes_on : goal.returns-clause-goes_on
returns-clause-goes_on g c =
    let fits : FitTurn (request_of c.args.kind c.args.body.now c.args.moment ∷ []) = (omega arith, omega arith) in
    at_last g.D.Disk.tells c.args.pass.number c.take-held.result.hold.number (sees c.args.pass) (held_sees c.take-held.result) (sees c.ask_held.result.0) (request_of c.args.kind c.args.body.now c.args.moment ∷ []) (place_asked c.ask_held.result.1) c.args.out.now.items c.ask_held.new.out.items c.take-held.result.value (all_asked c.ask_held.result.1) fits c.args.pass.is_pass.number_is (c.take-held.ensures.number) c.ask_held.ensures.answers c.take-held.ensures.taken

pub returns-clause-gives : goal.returns-clause-gives
returns-clause-gives g c =
    let fits : FitTurn (request_of c.args.kind c.args.body.now c.args.moment ∷ []) = (omega arith, omega arith) in
    given g.D.Disk.tells c.args.pass.number c.take-held.result.hold.number (sees c.args.pass) (held_sees c.take-held.result) (sees c.ask_held.result.0) (request_of c.args.kind c.args.body.now c.args.moment ∷ []) (place_asked c.ask_held.result.1) c.args.out.now.items c.ask_held.new.out.items c.take-held.result.value (all_asked c.ask_held.result.1) fits c.args.pass.is_pass.number_is (c.take-held.ensures.number) c.ask_held.ensures.answers c.take-held.ensures.taken.1

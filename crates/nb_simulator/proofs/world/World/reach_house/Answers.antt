use Rattle.std.proofs.Common.{◌≡◌, Some, List, sym, subst, ap, ◌++◌, ◌∷◌, [], ◌∙◌}
use Rattle.std.specs.Prelude.{option_map}
use Rattle.std.specs.List.{slice_get}
use Rattle.nb_msgs.specs.declared.node.To.TheVariants as to
use Rattle.nb_world.specs.declared.call.Call.{Call}
use Rattle.nb_world.specs.declared.call.CallPhase.TheVariants.{Waiting}
use Rattle.nb_world.specs.declared.packet.Packet.{Packet}
use Rattle.nb_simulator.specs.Worlds.{Simulated}
use Rattle.nb_simulator.proofs.Calls.{house_called}
use Rattle.nb_simulator.proofs.world.World.reach_house.Goals as goal

pub returns-clause-world : goal.returns-clause-world
returns-clause-world c =
    let whom = subst (λ (s : Simulated). option_map (λ (packet : Packet). packet.to) (slice_get s.world.packets c.args.number) ≡ Some to.Server) (sym c.self.view_is) c.requires.to in
    let call : Call = record { packet = c.args.number; moment = c.self.inside.moment; phase = Waiting } in
    rw (← c.self.view_is) (house_called _ c.args.number c.push_reserved.new.self.items whom (c.push_reserved.ensures.items ∙ ap (λ (cs : List Call). cs ++ call ∷ []) c.reserve.ensures.items))

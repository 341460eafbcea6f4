use Rattle.std.proofs.Common.{List, refl, sym, ap, ◌∙◌}
use Rattle.std.specs.Prelude.{option_map}
use Rattle.std.specs.List.{slice_get}
use Rattle.nb_world.specs.declared.packet.Packet.{Packet}
use Rattle.nb_simulator.proofs.Nodes.{deliver_to_none}
use Rattle.nb_simulator.proofs.world.World.deliver.Goals as goal

pub returns-in-None-clause-world : goal.returns-in-None-clause-world
returns-in-None-clause-world c =
    let none = ap (λ (ps : List Packet). option_map (λ (x : Packet). x.to) (slice_get ps c.args.number)) (sym c.as_slice.ensures.value) ∙ sym c.addressee.ensures.to ∙ c.in-None.is in
    rw (← c.self.view_is) (deliver_to_none _ _ c.args.number none, refl)

use Rattle.std.proofs.Common.{◌≡◌, ◌<◌, Some, List, ◌++◌, length, get_or, refl, sym, ap, subst, ◌∙◌}
use Rattle.nb_world.specs.declared.packet.Maker.TheVariants as by
use Rattle.nb_world.specs.declared.packet.Packet.{Packet}
use Rattle.nb_packets.specs.Doing.{packets_did}
use Rattle.std.specs.Prelude.{option_map}
use Rattle.std.specs.List.{slice_get}
use Rattle.nb_msgs.specs.declared.node.To.TheVariants as to
use Rattle.nb_simulator.specs.Worlds.{Simulated}
use Rattle.nb_msgs.specs.Reading.{message_of}
use Rattle.nb_parties.specs.Rules.{buyer_hears}
use Rattle.nb_packets.proofs.Hearing.{unread}
use Rattle.nb_simulator.proofs.Nodes.{consumer_heard, consumer_absent}
use Rattle.nb_packets.proofs.Places.{stands_at}
use Rattle.nb_simulator.proofs.world.World.reach_consumer.Goals as goal

pub returns-in-None-clause-world : goal.returns-in-None-clause-world
returns-in-None-clause-world c =
    let whom = subst (λ (s : Simulated). option_map (λ (packet : Packet). packet.to) (slice_get s.world.packets c.args.number) ≡ Some (to.Consumer c.args.id)) (sym c.self.view_is) c.requires.to in
    rw (← c.self.view_is) (consumer_absent _ _ c.args.number c.args.id whom (sym c.find.ensures.found ∙ c.in-None.is), refl)

pub returns-clause-world : goal.returns-clause-world
returns-clause-world c =
    let packet : Packet = c.index-packet.result.now in
    let whom = subst (λ (s : Simulated). option_map (λ (x : Packet). x.to) (slice_get s.world.packets c.args.number) ≡ Some (to.Consumer c.args.id)) (sym c.self.view_is) c.requires.to in
    let within = subst (λ (s : Simulated). c.args.number < length s.world.packets) (sym c.self.view_is) c.requires.within in
    let there = stands_at c.self.inside.packets.items c.args.number packet packet within (c.index-packet.ensures ∙ ap (λ (ps : List Packet). get_or ps c.args.number packet) c.reserve.ensures.items) in
    let sent = c.send.ensures ∙ ap (λ (ps : List Packet). ps ++ packets_did (by.Consumer c.args.id) c.in_ok-did.did) c.reserve.ensures.items in
    rw (← c.self.view_is) (consumer_heard _ _ c.args.number packet c.args.id c.in-Some.i c.hear.new.self c.in_ok-did.did c.send.new.packets.items there whom (sym c.find.ensures.found ∙ c.in-Some.is)
    (λ b. unread buyer_hears (λ b place. refl) (message_of c.index-packet.result.now.kind c.index-packet.result.now.body) b) c.in_ok-did.ensures.goes.0 sent)

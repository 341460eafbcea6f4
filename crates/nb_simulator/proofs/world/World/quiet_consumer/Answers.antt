use Rattle.std.proofs.Common.{List, ◌++◌, refl, sym, ap, ◌∙◌}
use Rattle.nb_world.specs.declared.packet.Maker.TheVariants as by
use Rattle.nb_world.specs.declared.packet.Packet.{Packet}
use Rattle.nb_packets.specs.Doing.{packets_did}
use Rattle.nb_simulator.proofs.Nodes.{quiet_consumer_went, quiet_consumer_not, quiet_consumer_unknown}
use Rattle.nb_simulator.proofs.world.World.quiet_consumer.Goals as goal

pub returns-in-None-clause-world : goal.returns-in-None-clause-world
returns-in-None-clause-world c = rw (← c.self.view_is) (quiet_consumer_unknown _ _ c.args.id c.args.transaction (sym c.find.ensures.found ∙ c.in-None.is), refl)

pub returns-then-not-knows-clause-world : goal.returns-then-not-knows-clause-world
returns-then-not-knows-clause-world c = rw (← c.self.view_is) (quiet_consumer_not _ _ c.args.id c.args.transaction c.in-Some.i (sym c.find.ensures.found ∙ c.in-Some.is) c.if-not-knows.ensures, refl)

pub returns-clause-world : goal.returns-clause-world
returns-clause-world c =
    let sent = c.send.ensures ∙ ap (λ (ps : List Packet). ps ++ packets_did (by.Consumer c.args.id) c.in_ok-did.did) c.reserve.ensures.items in
    rw (← c.self.view_is) (quiet_consumer_went _ _ c.args.id c.args.transaction c.in-Some.i c.quiet.new.self c.in_ok-did.did c.send.new.packets.items (sym c.find.ensures.found ∙ c.in-Some.is) c.if-not-knows.ensures c.in_ok-did.ensures.goes.0 sent)

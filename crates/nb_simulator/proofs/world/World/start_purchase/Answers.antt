use Rattle.std.proofs.Common.{◌≡◌, List, ◌++◌, Some, sym, ap, subst, ◌∙◌}
use Rattle.nb_world.specs.Steps.{consumer_at}
use Rattle.nb_world.specs.declared.packet.Maker.TheVariants as by
use Rattle.nb_world.specs.declared.packet.Packet.{Packet}
use Rattle.nb_packets.specs.Doing.{packets_did}
use Rattle.nb_simulator.specs.Worlds.{Simulated, rules_of}
use Rattle.nb_simulator.proofs.Nodes.{buy_went, buy_ignored_is}
use Rattle.nb_simulator.proofs.world.World.start_purchase.Goals as goal

pub returns-then-is_nothing-clause-world : goal.returns-then-is_nothing-clause-world
returns-then-is_nothing-clause-world c =
    let place = subst (λ (s : Simulated). consumer_at (rules_of s) s.world c.args.id ≡ Some c.args.i) (sym c.self.view_is) c.requires.place in
    rw (← c.self.view_is) (buy_ignored_is _ _ c.args.id c.args.start.now c.args.i c.start.new.self c.in_ok-did.did c.reserve.new.self.items place c.requires.request c.requires.memo c.in_ok-did.ensures.goes.0
    (sym c.is_nothing.ensures ∙ c.if-is_nothing.true) c.reserve.ensures.items)

pub returns-clause-world : goal.returns-clause-world
returns-clause-world c =
    let place = subst (λ (s : Simulated). consumer_at (rules_of s) s.world c.args.id ≡ Some c.args.i) (sym c.self.view_is) c.requires.place in
    let sent = c.send.ensures ∙ ap (λ (ps : List Packet). ps ++ packets_did (by.Consumer c.args.id) c.in_ok-did.did) c.reserve.ensures.items in
    rw (← c.self.view_is) (buy_went _ _ c.args.id c.args.start.now c.args.i c.start.new.self c.in_ok-did.did c.send.new.packets.items place c.requires.request c.requires.memo c.in_ok-did.ensures.goes.0
    (sym c.is_nothing.ensures ∙ c.if-is_nothing.false) sent)

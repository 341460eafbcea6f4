use Rattle.nb_consumer.specs.Runs.{Waits}
use Rattle.nb_buyers.proofs.Kept.{keeps_more}
use Rattle.nb_buyers.proofs.buying.Buying.quiet.Goals as goal

pub invariant_of-self-2 : goal.invariant_of-self-2
invariant_of-self-2 c =
    let so = keeps_more c.keeps_restarting.ensures c.self.inside.wallet c.self.inside.core c.quiet.new.self (Waits c.args.transaction) c.in_ok-step.step c.self.inside.kept.items c.make_room.new.kept.items c.carry_out.new.kept.items
    c.self.invariant.wallet c.self.invariant.kept c.make_room.ensures.same c.in_ok-step.ensures.answers c.carry_out.ensures.kept c.in_ok-make_room.ensures.room.1 in
    record { wallet = so.wallet; kept = so.kept; few = so.few }

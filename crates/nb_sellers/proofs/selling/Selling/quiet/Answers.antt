use Rattle.nb_sellers.proofs.Kept.{sells_more}
use Rattle.nb_packets.proofs.Keeping.{few_more}
use Rattle.nb_sellers.proofs.selling.Selling.quiet.Goals as goal

pub invariant_of-self-2 : goal.invariant_of-self-2
invariant_of-self-2 c = record {
  kept = sells_more c.self.inside.core c.quiet.new.self _ c.in_ok-step.step c.self.inside.kept.items c.make_room.new.kept.items c.carry_out.new.kept.items
      c.self.invariant.kept c.make_room.ensures.same c.in_ok-step.ensures.kept c.in_ok-step.ensures.step c.carry_out.ensures.kept;
  few = few_more c.make_room.new.kept.items c.carry_out.new.kept.items c.in_ok-step.step c.carry_out.ensures.kept c.in_ok-make_room.ensures.room.1;
}

use Rattle.std.proofs.Common.{ap, ◌∙◌}
use Rattle.nb_consumer.specs.State.{ordered_with}
use Rattle.nb_consumer.proofs.knowledge.Knowledge.ordered_with.Goals as goal

pub returns : goal.returns
returns c =
    rw (← c.self.view_is) (c.copied.ensures ∙ c.get.ensures.value ∙ c.self.invariant.firsts.each c.write.result ∙ ap (ordered_with c.self.inside.orders.items) c.write.ensures.spelling)

use Rattle.std.proofs.Common.{ap}
use Rattle.nb_buyers.specs.Buyers.{buyer_number}
use Rattle.nb_packets.proofs.Places.{numbers_at}
use Rattle.nb_buyers.proofs.buyers.restart_at.Goals as goal

pub returns-clause-numbers : goal.returns-clause-numbers
returns-clause-numbers c = numbers_at buyer_number c.args.each.now.items c.args.i c.index_mut.result.now c.restart.new.self _ c.requires.within c.index_mut.ensures.value (ap (λ w. w.id.0) c.restart.ensures.same)

use Rattle.std.proofs.Common.{ap}
use Rattle.nb_sellers.specs.Sellers.{shop_number}
use Rattle.nb_packets.proofs.Places.{numbers_at}
use Rattle.nb_sellers.proofs.sellers.quiet_at.Goals as goal

pub returns-clause-numbers : goal.returns-clause-numbers
returns-clause-numbers c = numbers_at shop_number c.args.each.now.items c.args.i c.index_mut.result.now c.quiet.new.self _ c.requires.within c.index_mut.ensures.value (ap (λ s. s.id.0) c.quiet.ensures.same)

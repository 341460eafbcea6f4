use Rattle.std.proofs.Common.{subst}
use Rattle.nb_groups.specs.Offers.{Tariff, AreApart}
use Rattle.nb_groups.proofs.Lookups.{apart_of}
use Rattle.nb_groups.proofs.offers.Offers.apart.Goals as goal

pub returns : goal.returns
returns c = subst (λ (t : Tariff). AreApart t.offers) c.self.view_is (apart_of c.self.inside.prices.items c.self.invariant.apart)

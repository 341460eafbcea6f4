use Rattle.nb_buyers.proofs.Kept.{restart_so}
use Rattle.nb_buyers.proofs.buying.Buying.restart.Goals as goal

pub invariant_of-self : goal.invariant_of-self
invariant_of-self c =
    let so = restart_so c.self.inside.wallet c.self.inside.kept.items c.as_slice.result.now c.self.inside.core c.in-Ok.core c.self.invariant.wallet c.self.invariant.kept c.self.invariant.few c.as_slice.ensures.value c.in-Ok.ensures in
    record { wallet = so.wallet; kept = so.kept; few = so.few }

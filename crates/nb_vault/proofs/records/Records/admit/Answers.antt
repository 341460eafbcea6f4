use Rattle.std.proofs.Common.{sym, subst}
use Rattle.nb_units.specs.Charter.{MayRule}
use Rattle.nb_units.specs.declared.charter.Charter.{Charter}
use Rattle.nb_vault.proofs.Joining.{may_rule}
use Rattle.nb_vault.proofs.records.Records.admit.Goals as goal

pub may_follow-requires : goal.may_follow-requires
may_follow-requires g c =
    let charter = c.args.self.now.charter in
    subst (λ (at : Charter). MayRule at.version at.rate) (sym c.begin.ensures.charter) (may_rule charter.version charter.rate c.requires.rests.carries.terms.ruled)

use Rattle.std.proofs.Common.{◌⊎◌, subst}
use Rattle.nb_journal.specs.Time.{LeavesOnly}
use Rattle.nb_vault.specs.Vaults.{Chronicled, StandsForState}
use Rattle.nb_standby.proofs.following.follow.Goals as goal

pub returns-clause-any_moment : goal.returns-clause-any_moment
returns-clause-any_moment g c =
    subst (λ (v : Chronicled g.row.D.Denot). LeavesOnly g.D.Disk.tells v.disk c.taken_as-code.new.vault.disk (λ image. StandsForState v image ⊎ StandsForState c.taken_as-code.new.vault image))
    c.house_state-house.ensures.same c.taken_as-code.ensures.any_moment

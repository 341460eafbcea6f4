use Rattle.std.proofs.Common.{◌⊎◌, subst}
use Rattle.nb_journal.specs.Time.{LeavesOnly}
use Rattle.nb_vault.specs.Parts.{seen_as}
use Rattle.nb_vault.specs.Taking.{TakesIn}
use Rattle.nb_vault.specs.Vaults.{Chronicled, StandsForState}
use Rattle.nb_vault.proofs.Seeing.{keeps}
use Rattle.nb_vault.proofs.vault.Vault.take_in.Goals as goal

pub returns-clause-keeps : goal.returns-clause-keeps
returns-clause-keeps g c = keeps g.D.Disk.tells c.take_in.new.self c.take_in.ensures.vault

pub returns-clause-any_moment : goal.returns-clause-any_moment
returns-clause-any_moment g c =
    subst (λ (v : Chronicled _). LeavesOnly g.D.Disk.tells v.disk c.take_in.new.self.records.journal.disk (λ image. StandsForState v image ⊎ StandsForState (seen_as c.take_in.new.self) image)) c.self.view_is
    c.take_in.ensures.any_moment

pub returns-clause-turn : goal.returns-clause-turn
returns-clause-turn g c =
    subst (λ (v : Chronicled _). TakesIn g.D.Disk.tells v (seen_as c.take_in.new.self) c.args.by c.args.place c.args.e.now c.take_in.result) c.self.view_is c.take_in.ensures.turn

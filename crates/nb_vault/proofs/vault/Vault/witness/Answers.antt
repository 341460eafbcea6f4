use Rattle.std.proofs.Common.{subst}
use Rattle.nb_vault.specs.Vaults.{Keeps}
use Rattle.nb_vault.proofs.Seeing.{keeps}
use Rattle.nb_vault.proofs.vault.Vault.witness.Goals as goal

pub returns : goal.returns
returns g c =
    record { keeps = subst (Keeps g.D.Disk.tells) c.self.view_is (keeps g.D.Disk.tells c.self.inside.parts c.self.invariant.vault) }

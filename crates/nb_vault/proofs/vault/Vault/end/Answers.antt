use Rattle.std.proofs.Common.{subst}
use Rattle.nb_vault.specs.Vaults.{GateIsAt}
use Rattle.nb_vault.proofs.Seeing.{gate_is_at}
use Rattle.nb_vault.proofs.vault.Vault.end.Goals as goal

pub returns : goal.returns
returns g c =
    rw c.gate.ensures
    (subst (λ v. GateIsAt g.D.Disk.tells v c.self.inside.parts.records.journal.gate) c.self.view_is (gate_is_at g.D.Disk.tells c.self.inside.parts c.self.invariant.vault))

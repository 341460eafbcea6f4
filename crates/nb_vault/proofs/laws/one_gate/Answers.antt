use Rattle.nb_vault.proofs.Gating.{one_gate}
use Rattle.nb_vault.proofs.laws.one_gate.Goals as goal

pub returns : goal.returns
returns g c = one_gate g.D.Disk.tells

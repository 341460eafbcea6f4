use Rattle.nb_vault.proofs.Paying.{payable_is_paid}
use Rattle.nb_vault.proofs.laws.payable_is_paid.Goals as goal

pub returns : goal.returns
returns g c = payable_is_paid g.D.Disk.tells

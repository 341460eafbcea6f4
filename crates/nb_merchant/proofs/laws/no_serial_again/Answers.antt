use Rattle.nb_merchant.proofs.Running.{no_serial_again}
use Rattle.nb_merchant.proofs.laws.no_serial_again.Goals as goal

pub returns : goal.returns
returns c = no_serial_again

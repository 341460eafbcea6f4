use Rattle.nb_escrow.proofs.Replying.{status_tells_the_order}
use Rattle.nb_escrow.proofs.laws.status_tells_the_order.Goals as goal

pub returns : goal.returns
returns c = status_tells_the_order

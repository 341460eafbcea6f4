use Rattle.nb_escrow.proofs.Keys.{status_tells_key}
use Rattle.nb_escrow.proofs.laws.status_tells_key.Goals as goal

pub returns : goal.returns
returns c = status_tells_key

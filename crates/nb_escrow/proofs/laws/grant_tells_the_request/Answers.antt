use Rattle.nb_escrow.proofs.Granting.{grant_tells_the_request}
use Rattle.nb_escrow.proofs.laws.grant_tells_the_request.Goals as goal

pub returns : goal.returns
returns c = grant_tells_the_request

use Rattle.nb_epo.proofs.Placing.{checksum_is_spelled}
use Rattle.nb_epo.proofs.places.checksum_is_spelled.Goals as goal

pub returns : goal.returns
returns c = checksum_is_spelled

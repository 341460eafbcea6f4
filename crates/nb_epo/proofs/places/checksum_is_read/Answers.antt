use Rattle.nb_epo.proofs.Placing.{checksum_is_read}
use Rattle.nb_epo.proofs.places.checksum_is_read.Goals as goal

pub returns : goal.returns
returns c = checksum_is_read

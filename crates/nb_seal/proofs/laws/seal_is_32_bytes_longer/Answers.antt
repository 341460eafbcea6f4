use Rattle.nb_seal.proofs.Opening.{length-seal_of}
use Rattle.nb_seal.proofs.laws.seal_is_32_bytes_longer.Goals as goal

pub returns : goal.returns
returns c = length-seal_of

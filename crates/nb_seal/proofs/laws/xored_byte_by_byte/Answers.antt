use Rattle.nb_seal.proofs.Xoring.{length-xored, xored-at}
use Rattle.nb_seal.proofs.laws.xored_byte_by_byte.Goals as goal

pub returns-clause-bytes : goal.returns-clause-bytes
returns-clause-bytes c key bytes place i h = xored-at key place i bytes h

pub returns-clause-len : goal.returns-clause-len
returns-clause-len c key bytes place = length-xored key place bytes

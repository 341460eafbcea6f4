use Rattle.nb_seal.proofs.Opening.{length-seal_of}
use Rattle.nb_msgs.proofs.opening.sealed.Goals as goal

pub returns-clause-long : goal.returns-clause-long
returns-clause-long c = rw (c.from_vec.ensures, c.seal_spare.ensures.sealed, c.in_ok-bytes.ensures.items) (length-seal_of _ _ _)

use Rattle.nb_consumer.proofs.Moving.{silent_moves}
use Rattle.nb_consumer.proofs.laws.silent_moves.Goals as goal

pub returns : goal.returns
returns c = silent_moves

use Rattle.nb_consumer.proofs.Moving.{start_moves}
use Rattle.nb_consumer.proofs.laws.start_moves.Goals as goal

pub returns : goal.returns
returns c = start_moves

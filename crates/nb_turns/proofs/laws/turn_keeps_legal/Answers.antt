use Rattle.nb_turns.proofs.Keeping.{turn_keeps_legal}
use Rattle.nb_turns.proofs.laws.turn_keeps_legal.Goals as goal

pub returns : goal.returns
returns c = turn_keeps_legal c.stays_legal.ensures

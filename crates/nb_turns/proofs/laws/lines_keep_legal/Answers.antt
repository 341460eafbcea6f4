use Rattle.nb_turns.proofs.Adding.{lines_keep_legal}
use Rattle.nb_turns.proofs.laws.lines_keep_legal.Goals as goal

pub returns : goal.returns
returns c = lines_keep_legal c.stays_legal.ensures

use Rattle.nb_turns.proofs.Following.{own_lines_alone}
use Rattle.nb_turns.proofs.laws.own_lines_alone.Goals as goal

pub returns : goal.returns
returns c = own_lines_alone

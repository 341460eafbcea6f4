use Rattle.nb_turns.proofs.Numbering.{lines_tell_failure}
use Rattle.nb_turns.proofs.laws.lines_tell_failure.Goals as goal

pub returns : goal.returns
returns c = lines_tell_failure

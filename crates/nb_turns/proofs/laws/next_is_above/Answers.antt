use Rattle.nb_turns.proofs.Numbering.{next_is_above}
use Rattle.nb_turns.proofs.laws.next_is_above.Goals as goal

pub returns : goal.returns
returns c = next_is_above

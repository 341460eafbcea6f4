use Rattle.nb_turns.proofs.Telling.{each_is_answered}
use Rattle.nb_turns.proofs.laws.each_is_answered.Goals as goal

pub returns : goal.returns
returns c = each_is_answered

use Rattle.nb_turns.proofs.Sounding.{lines_stay_sound}
use Rattle.nb_turns.proofs.laws.lines_stay_sound.Goals as goal

pub returns : goal.returns
returns c = lines_stay_sound

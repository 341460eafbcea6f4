use Rattle.nb_words.proofs.Once.{one_command}
use Rattle.nb_words.proofs.laws.one_command.Goals as goal

pub returns : goal.returns
returns c = one_command

use Rattle.nb_journal.proofs.Crowning.{crown_stands}
use Rattle.nb_journal.proofs.laws.crown_stands.Goals as goal

pub returns : goal.returns
returns c = crown_stands

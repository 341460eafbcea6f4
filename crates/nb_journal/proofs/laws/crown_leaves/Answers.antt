use Rattle.nb_journal.proofs.Crowning.{crown_leaves}
use Rattle.nb_journal.proofs.laws.crown_leaves.Goals as goal

pub returns : goal.returns
returns c = crown_leaves

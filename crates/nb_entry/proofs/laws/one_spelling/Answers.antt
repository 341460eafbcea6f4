use Rattle.nb_entry.proofs.Layouts.{one_spelling}
use Rattle.nb_entry.proofs.laws.one_spelling.Goals as goal

pub returns : goal.returns
returns c = one_spelling

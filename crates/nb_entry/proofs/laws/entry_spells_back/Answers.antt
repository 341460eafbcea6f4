use Rattle.nb_entry.proofs.Layouts.{entry_spells_back}
use Rattle.nb_entry.proofs.laws.entry_spells_back.Goals as goal

pub returns : goal.returns
returns c = entry_spells_back

use Rattle.nb_entry.proofs.Layouts.{entry_layout}
use Rattle.nb_entry.proofs.laws.entry_layout.Goals as goal

pub returns : goal.returns
returns c = entry_layout

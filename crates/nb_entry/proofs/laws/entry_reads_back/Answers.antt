use Rattle.nb_entry.proofs.Layouts.{entry_reads_back}
use Rattle.nb_entry.proofs.laws.entry_reads_back.Goals as goal

pub returns : goal.returns
returns c = entry_reads_back

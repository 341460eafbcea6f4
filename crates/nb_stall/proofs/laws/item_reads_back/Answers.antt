use Rattle.nb_stall.proofs.Layouts.{item_reads_back}
use Rattle.nb_stall.proofs.laws.item_reads_back.Goals as goal

pub returns : goal.returns
returns c = item_reads_back

use Rattle.nb_units.proofs.EpoidLaws.{reads_back}
use Rattle.nb_units.proofs.laws.epoid_reads_back.Goals as goal

pub returns : goal.returns
returns c = reads_back

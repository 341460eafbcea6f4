use Rattle.nb_port.proofs.Ranges.{leaves_by_ranges}
use Rattle.nb_port.proofs.laws.by_ranges.Goals as goal

pub returns : goal.returns
returns c = leaves_by_ranges

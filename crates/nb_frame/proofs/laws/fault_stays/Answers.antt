use Rattle.nb_frame.proofs.Cutting.{fault_stays}
use Rattle.nb_frame.proofs.laws.fault_stays.Goals as goal

pub returns : goal.returns
returns c = fault_stays

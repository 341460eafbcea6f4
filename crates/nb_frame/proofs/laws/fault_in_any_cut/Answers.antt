use Rattle.nb_frame.proofs.Cutting.{fault_in_any_cut}
use Rattle.nb_frame.proofs.laws.fault_in_any_cut.Goals as goal

pub returns : goal.returns
returns c = fault_in_any_cut

use Rattle.nb_frame.proofs.Cutting.{in_any_cut}
use Rattle.nb_frame.proofs.laws.in_any_cut.Goals as goal

pub returns : goal.returns
returns c = in_any_cut

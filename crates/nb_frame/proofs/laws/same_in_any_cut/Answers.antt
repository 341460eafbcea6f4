use Rattle.nb_frame.proofs.Cutting.{same_in_any_cut}
use Rattle.nb_frame.proofs.laws.same_in_any_cut.Goals as goal

pub returns : goal.returns
returns c = same_in_any_cut

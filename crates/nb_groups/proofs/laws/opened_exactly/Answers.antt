use Rattle.nb_groups.proofs.Exactly.{opened_exactly}
use Rattle.nb_groups.proofs.laws.opened_exactly.Goals as goal

pub returns : goal.returns
returns c = opened_exactly

use Rattle.std.proofs.lemmas.List.{drop-replicate}
use Rattle.nb_units.proofs.small.filled.Goals as goal

pub returns : goal.returns
returns c = rw (c.copy_from_slice.ensures.after, drop-replicate)

-- The limit of a batch, written out. It has a name in the code, by which the other definitions speak of it.
use Rattle.std.specs.Prelude.{◌≡◌}
use Rattle.nb_batch.specs.declared.batch.TheConstants.{MOST_FRAMES}

-- one batch answers at most so many frames
abbrev pub LimitIs : Type 0
LimitIs = MOST_FRAMES ≡ 10000000

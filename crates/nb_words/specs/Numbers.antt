-- The numbers of the words, written out. Each has a name in the code, by which the other definitions speak of it.
use Rattle.std.specs.Prelude.{◌≡◌}
use Rattle.nb_words.specs.declared.words.TheConstants.{MAX_WORKERS, MAX_LINKS}

-- the limits of a server: workers, and links over all of them
abbrev pub LimitsAre : Type 0
LimitsAre = (MAX_WORKERS ≡ 64) × (MAX_LINKS ≡ 10000)

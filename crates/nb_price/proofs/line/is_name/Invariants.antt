use Rattle.std.proofs.Common.{ℕ, ◌<◌}
use Rattle.std.specs.Prelude.{slice_index}
use Rattle.nb_price.specs.Shelf.{IsNameByte}
use Rattle.nb_price.proofs.line.is_name.Given as goal

-- each byte so far is one of a name
abbrev pub invariant-loop-b : goal.invariant-loop-b
invariant-loop-b l = (k : ℕ) → k < l.b-index → IsNameByte (slice_index l.name k)

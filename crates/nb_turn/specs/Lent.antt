-- What is written through the borrow of a held value.
use Rattle.std.specs.Borrow.{Lends, Fml, RattleType, MutBor}
use Rattle.nb_turn.specs.declared.chronicle.Chronicle.{Ghosts}
use Rattle.nb_turn.specs.declared.types.Held.{Held}
use Rattle.nb_turn.specs.contracts.types.Held.{the_row}

-- at the borrow's end the value is what was written, and the seat is as it was
abbrev pub LendsValue : (T O L : RattleType) (d : Ghosts T.Denot O.Denot L.Denot) → MutBor (Held T.Denot O.Denot L.Denot d) → MutBor T.Denot → Fml
LendsValue T O L d s r = Lends (the_row T O L d) T s r (λ w. record s.now { value = w })

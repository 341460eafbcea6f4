use Rattle.std.proofs.Common.{◌≡◌, [], ◌∷◌, take, drop, length, None}
use Rattle.nb_turn.specs.Views.{reseen}
use Rattle.nb_turn.proofs.types.Turn.give.Given as goal

abbrev pub invariant-loop : goal.invariant-loop
invariant-loop g l = record {
  turn : l.seat.table_id ≡ l.initial.seat.table_id;
  slot : l.seat.me.1 ≡ (0, None) ∷ [];
  view : l.seat.me.0 ≡ reseen (take l.counter (g.T.Chronicle.history l.value)) l.initial.seat.me.0;
}

abbrev pub ghosts-count_line : goal.ghosts-count_line
ghosts-count_line g a = record { line = take 1 (drop (length a.seat.now.me.0.seen) (g.T.Chronicle.history a.value.now)) }

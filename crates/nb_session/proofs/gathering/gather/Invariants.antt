use Rattle.std.proofs.Common.{◌≡◌, ◌+◌}
use Rattle.std.specs.Prelude.{vec_capacity, vec_len}
use Rattle.std.specs.List.{All}
use Rattle.nb_vault.specs.Asking.{IsWithin, requests_of}
use Rattle.nb_session.specs.Steps.{Gathers}
use Rattle.nb_session.proofs.gathering.gather.Given as goal

-- as many frames as were counted are gathered
abbrev pub invariant-gathering : goal.invariant-gathering
invariant-gathering g l = record {
  gathers : Gathers l.fn.frames l.frames (g.C.Clock.moments l.fn.clock) (g.C.Clock.moments l.clock) l.fn.moments.items l.moments.items (requests_of l.fn.frames.held l.asks.items);
  held : l.frames.held ≡ l.fn.frames.held;
  within : All (IsWithin l.fn.frames.held) l.asks.items;
  asks : vec_len l.asks ≡ l.counter;
  moments : vec_len l.moments ≡ vec_len l.fn.moments + l.counter;
  asks_room : vec_capacity l.asks ≡ vec_capacity l.fn.asks;
  moments_room : vec_capacity l.moments ≡ vec_capacity l.fn.moments;
}

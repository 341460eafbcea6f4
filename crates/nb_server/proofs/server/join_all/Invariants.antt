use Rattle.std.proofs.Common.{◌≡◌, ◌+◌}
use Rattle.std.specs.Prelude.{vec_len}
use Rattle.nb_turn.specs.Passes.{sees}
use Rattle.nb_desk.specs.Desks.{IsAt, IsSameDesk}
use Rattle.nb_server.specs.Steps.{Joining, desk_id, pass_seen}
use Rattle.nb_server.proofs.server.join_all.Given as goal

-- those that are gone are joined
abbrev pub invariant-joining : goal.invariant-joining
invariant-joining g l = record {
  joining : Joining pass_seen (desk_id l.fn.desk) (sees l.fn.first) l.fn.passes.items l.passes.items (sees l.pass);
  same : IsSameDesk l.desk l.fn.desk;
  desk : IsAt l.pass l.desk;
  count : vec_len l.passes + l.counter ≡ vec_len l.fn.passes;
}

use Rattle.std.proofs.Common.{◌≡◌, ◌+◌}
use Rattle.std.specs.Prelude.{vec_len, vec_capacity}
use Rattle.nb_turn.specs.Passes.{sees}
use Rattle.nb_desk.specs.Desks.{IsAt, IsSameDesk}
use Rattle.nb_server.specs.Steps.{AreSplit, IsFresh, desk_id, pass_seen}
use Rattle.nb_server.proofs.server.split_all.Given as goal

-- the last workers have a job each
abbrev pub invariant-splitting : goal.invariant-splitting
invariant-splitting g l = record {
  split : AreSplit pass_seen (desk_id l.fn.desk) (sees l.fn.pass).origin l.fn.workers.items l.workers.items l.jobs.items;
  same : IsSameDesk l.desk l.fn.desk;
  desk : IsAt l.pass l.desk;
  number : l.pass.number ≡ 0;
  fresh : IsFresh (sees l.fn.pass).origin 0 (sees l.pass);
  count : vec_len l.workers + l.counter ≡ vec_len l.fn.workers + 1;
  jobs : vec_len l.jobs + 1 ≡ l.counter;
  room : vec_capacity l.workers ≡ vec_capacity l.fn.workers;
  jobs_room : vec_capacity l.jobs ≡ vec_capacity l.fn.jobs;
}

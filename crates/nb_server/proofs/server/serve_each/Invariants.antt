use Rattle.std.proofs.Common.{◌≡◌, ◌+◌, ◌≤◌}
use Rattle.std.specs.Prelude.{vec_len, vec_capacity}
use Rattle.nb_turn.specs.Passes.{sees}
use Rattle.nb_desk.specs.Desks.{IsAt}
use Rattle.nb_server.specs.Served.{worker_seen}
use Rattle.nb_server.specs.Steps.{Gathering, desk_id, pass_seen}
use Rattle.nb_server.proofs.server.serve_each.Given as goal

-- as many workers as were counted are gathered, and the first one
abbrev pub invariant-gathering : goal.invariant-gathering
invariant-gathering g l = record {
  gathering : Gathering g.D.Disk.tells pass_seen (worker_seen g.P.Port.seen g.C.Clock.moments) (desk_id l.desk) (sees l.fn.pass).origin (sees l.pass) l.fn.workers.items l.workers.items l.ends.items l.passes.items l.jobs.items;
  desk : IsAt l.pass l.desk;
  number : l.pass.number ≡ 0;
  jobs : vec_len l.jobs + l.counter ≡ vec_len l.fn.workers;
  workers : vec_len l.workers ≡ l.counter;
  ends : vec_len l.ends ≡ l.counter;
  passes : vec_len l.passes ≡ l.counter;
  workers_room : vec_len l.fn.workers ≤ vec_capacity l.workers;
  ends_room : vec_len l.fn.workers ≤ vec_capacity l.ends;
  passes_room : vec_len l.fn.workers ≤ vec_capacity l.passes;
}

use Rattle.std.proofs.Common.{◌≡◌}
use Rattle.std.specs.Prelude.{vec_len}
use Rattle.nb_turn.specs.Passes.{sees}
use Rattle.nb_desk.specs.Desks.{IsAt}
use Rattle.nb_server.specs.Served.{worker_seen}
use Rattle.nb_server.specs.Steps.{HasServed}
use Rattle.nb_server.proofs.worker.serve_links.Given as goal

-- as many links as were counted were served
abbrev pub invariant-serving : goal.invariant-serving
invariant-serving g l = record {
  worked : HasServed g.D.Disk.tells l.fn.pass.number (sees l.fn.pass) (sees l.pass) (worker_seen g.P.Port.seen g.C.Clock.moments l.fn.worker) (worker_seen g.P.Port.seen g.C.Clock.moments l.worker) l.records.items;
  desk : IsAt l.pass l.desk;
  number : l.pass.number ≡ l.fn.pass.number;
  count : vec_len l.records ≡ l.serial;
}

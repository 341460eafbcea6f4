use Rattle.std.proofs.Common.{◌≡◌, ℕ, ◌++◌, ◌∷◌, [], List, ◌∙◌, length, refl, subst, sym, ap, arith}
use Rattle.nb_turn.specs.Passes.{sees}
use Rattle.nb_session.specs.declared.ended.Record.{Record}
use Rattle.nb_session.specs.Session.{IsTold, around}
use Rattle.nb_server.specs.Served.{WorkerSeen, worker_seen}
use Rattle.nb_server.specs.Steps.{HasServed}
use Rattle.nb_server.proofs.Working.{worked_more, worked_none}
use Rattle.nb_server.proofs.worker.serve_links.Goals as goal

pub serving-init : goal.serving-init
serving-init g c =
    let old : WorkerSeen = worker_seen g.P.Port.seen g.C.Clock.moments c.args.worker.now in
    record {
      worked = subst (HasServed g.D.Disk.tells c.args.pass.number (sees c.args.pass) (sees c.args.pass) old old) (sym c.new-records.ensures.items) (worked_none g.D.Disk.tells c.args.pass.number (sees c.args.pass) old);
      desk = c.requires.desk;
      number = refl;
      count = c.new-records.ensures.len;
    }

pub serving-preserved : goal.serving-preserved
serving-preserved g c =
    let old : WorkerSeen = worker_seen g.P.Port.seen g.C.Clock.moments c.args.worker.now in
    let mid : WorkerSeen = worker_seen g.P.Port.seen g.C.Clock.moments c.serving.worker in
    let same : c.serving.serial ≡ length c.serving.records.items = omega (arith, c.serving.records.ok, c.serving.invariant.count) in
    let pushed : c.push_reserved.new.self.items ≡ c.serving.records.items ++ c.session-next.result.1 ∷ [] = c.push_reserved.ensures.items ∙ ap (λ (rs : List Record). rs ++ c.session-next.result.1 ∷ []) c.reserve.ensures.items in
    record {
      worked = subst (HasServed g.D.Disk.tells c.args.pass.number (sees c.args.pass) (sees c.session-next.result.0) old (worker_seen g.P.Port.seen g.C.Clock.moments (record { port = c.back.new.self; clock = c.session-next.new.clock }))) (sym pushed)
          (worked_more g.D.Disk.tells c.args.pass.number (sees c.args.pass) (sees c.serving.pass) (sees c.session-next.result.0) old mid (g.P.Port.seen c.next.new.self) (g.P.Port.seen c.back.new.self)
          (g.C.Clock.moments c.session-next.new.clock) (g.P.Joined.Link.seen c.in-Got.link) (g.P.Joined.Link.seen c.session-next.new.link) c.serving.records.items c.session-next.result.1 c.serving.invariant.worked c.in-Got.ensures
          (subst (λ (x : ℕ × ℕ). IsTold g.D.Disk.tells x.0 x.1 (around (sees c.serving.pass) (g.P.Joined.Link.seen c.in-Got.link) (g.C.Clock.moments c.serving.worker.clock))
          (around (sees c.session-next.result.0) (g.P.Joined.Link.seen c.session-next.new.link) (g.C.Clock.moments c.session-next.new.clock)) c.session-next.result.1) (λ i. (c.serving.invariant.number i, same i)) c.session-next.ensures.told)
          (record { out = c.back.ensures.out; taken = c.back.ensures.taken; same = c.back.ensures.same }));
      desk = c.session-next.ensures.desk;
      number = c.session-next.ensures.pass ∙ c.serving.invariant.number;
      count = omega (arith, c.push_reserved.ensures.len, c.reserve.ensures.len, c.serving.invariant.count);
    }

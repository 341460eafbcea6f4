use Rattle.std.proofs.Common.{◌∙◌, [], ◌∷◌, ◌++◌, List, None, length, reverse, sym, ap, subst, arith}
use Rattle.nb_turn.specs.Passes.{sees}
use Rattle.nb_turn.proofs.Lists.{no_length}
use Rattle.nb_server.specs.declared.worker.WorkerEnd.{WorkerEnd}
use Rattle.nb_server.specs.Served.{worker_seen}
use Rattle.nb_server.specs.Steps.{AreReady, desk_id, pass_seen}
use Rattle.nb_server.proofs.Splitting.{all_can}
use Rattle.nb_server.proofs.Gathering.{first_ran, gather_first, gather_more, gathered_all, next_still, number_zero}
use Rattle.nb_server.proofs.server.serve_each.Goals as goal

pub run_all-requires-clause-can : goal.run_all-requires-clause-can
run_all-requires-clause-can g c κs within = all_can pass_seen (desk_id c.split_all.new.desk) (sees c.args.pass).origin c.args.workers.now.items c.split_all.new.jobs.items
    (subst (λ id. AreReady pass_seen id (sees c.args.pass).origin 0 c.args.workers.now.items (reverse c.split_all.new.jobs.items)) (sym c.split_all.ensures.same) c.split_all.ensures.ready)

pub take_first-first-requires : goal.take_first-first-requires
take_first-first-requires g c = first_ran g.D.Disk.tells pass_seen (worker_seen g.P.Port.seen g.C.Clock.moments) (desk_id c.split_all.new.desk) (sees c.args.pass).origin c.args.workers.now.items c.run_all.new.jobs.items c.pop.new.self.items c.in-Some.job
    (c.run_all.ensures.done (sees c.args.pass).origin c.args.workers.now.items
    (subst (λ id. AreReady pass_seen id (sees c.args.pass).origin 0 c.args.workers.now.items (reverse c.split_all.new.jobs.items)) (sym c.split_all.ensures.same) c.split_all.ensures.ready)) c.in-Some.ensures.items

pub gathering-init : goal.gathering-init
gathering-init g c =
    let f = gather_first g.D.Disk.tells pass_seen (worker_seen g.P.Port.seen g.C.Clock.moments) (desk_id c.split_all.new.desk) (sees c.args.pass).origin c.args.workers.now.items c.push_reserved.new.self.items c.push_reserved-2.new.self.items
    c.push_reserved-3.new.self.items c.run_all.new.jobs.items c.pop.new.self.items c.in-Some.job c.take_first-first.result.0 c.take_first-first.result.2
    (c.run_all.ensures.done (sees c.args.pass).origin c.args.workers.now.items
    (subst (λ id. AreReady pass_seen id (sees c.args.pass).origin 0 c.args.workers.now.items (reverse c.split_all.new.jobs.items)) (sym c.split_all.ensures.same) c.split_all.ensures.ready))
    c.in-Some.ensures.items c.take_first-first.ensures.ran
    (c.push_reserved.ensures.items ∙ ap (λ ws. ws ++ c.take_first-first.result.1 ∷ []) c.split_all.ensures.none ∙ ap (λ w. w ∷ []) c.take_first-first.ensures.worker)
    (c.push_reserved-2.ensures.items ∙ ap (λ (es : List WorkerEnd). es ++ c.take_first-first.result.2 ∷ []) c.requires.none.1)
    (c.push_reserved-3.ensures.items ∙ ap (λ ps. ps ++ None ∷ []) c.requires.none.2) in
    record {
      gathering = f.1;
      desk = f.0;
      number = number_zero (sees c.args.pass).origin (sees c.take_first-first.result.0) c.take_first-first.result.0.number f.1.gathered.main_is c.take_first-first.result.0.is_pass.number_is;
      jobs = omega (arith, c.in-Some.ensures.cases, c.run_all.ensures.len, c.split_all.ensures.len);
      workers = omega (arith, c.push_reserved.ensures.len, c.split_all.new.workers.ok.0, ap length c.split_all.ensures.none);
      ends = omega (arith, c.push_reserved-2.ensures.len, c.args.ends.now.ok.0, ap length c.requires.none.1);
      passes = omega (arith, c.push_reserved-3.ensures.len, c.args.passes.now.ok.0, ap length c.requires.none.2);
      workers_room = omega (arith, c.push_reserved.ensures.capacity, c.split_all.ensures.room, c.args.workers.now.ok);
      ends_room = omega (arith, c.push_reserved-2.ensures.capacity, c.requires.room.1);
      passes_room = omega (arith, c.push_reserved-3.ensures.capacity, c.requires.room.2);
    }

pub unreachable-requires-in_default-pop : goal.unreachable-requires-in_default-pop
unreachable-requires-in_default-pop g c = omega (arith, c.in_default-pop.ensures.cases, c.gathering.invariant.jobs, c.gathering-test.true, c.len-count.ensures)

pub settle-next-requires-clause-still : goal.settle-next-requires-clause-still
settle-next-requires-clause-still g c κs within = next_still g.D.Disk.tells pass_seen (worker_seen g.P.Port.seen g.C.Clock.moments) (desk_id c.split_all.new.desk) (sees c.args.pass).origin (sees c.gathering.pass) c.args.workers.now.items c.gathering.workers.items
    c.gathering.ends.items c.gathering.passes.items c.gathering.jobs.items c.pop-in-gathering.new.self.items c.in-Some-pop.job c.gathering.invariant.gathering c.in-Some-pop.ensures.items

pub gathering-preserved : goal.gathering-preserved
gathering-preserved g c =
    let m = gather_more g.D.Disk.tells pass_seen (worker_seen g.P.Port.seen g.C.Clock.moments) (desk_id c.split_all.new.desk) (sees c.args.pass).origin c.gathering.pass c.settle-next.result.0 c.args.workers.now.items c.gathering.workers.items
    c.push_reserved-in-gathering.new.self.items c.gathering.ends.items c.push_reserved-in-gathering-2.new.self.items c.gathering.passes.items c.push_reserved-in-gathering-3.new.self.items c.gathering.jobs.items c.pop-in-gathering.new.self.items
    c.in-Some-pop.job c.settle-next.result.1 c.settle-next.result.2 c.settle-next.result.3 c.gathering.invariant.gathering c.gathering.invariant.number c.gathering.invariant.desk c.in-Some-pop.ensures.items c.settle-next.ensures.settles
    c.push_reserved-in-gathering.ensures.items c.push_reserved-in-gathering-2.ensures.items c.push_reserved-in-gathering-3.ensures.items in
    record {
      gathering = m.1;
      desk = c.settle-next.ensures.desk;
      number = m.0;
      jobs = omega (arith, c.in-Some-pop.ensures.cases, c.gathering.invariant.jobs);
      workers = omega (arith, c.push_reserved-in-gathering.ensures.len, c.gathering.invariant.workers);
      ends = omega (arith, c.push_reserved-in-gathering-2.ensures.len, c.gathering.invariant.ends);
      passes = omega (arith, c.push_reserved-in-gathering-3.ensures.len, c.gathering.invariant.passes);
      workers_room = omega (arith, c.push_reserved-in-gathering.ensures.capacity, c.gathering.invariant.workers_room);
      ends_room = omega (arith, c.push_reserved-in-gathering-2.ensures.capacity, c.gathering.invariant.ends_room);
      passes_room = omega (arith, c.push_reserved-in-gathering-3.ensures.capacity, c.gathering.invariant.passes_room);
    }

pub returns-clause-gathers : goal.returns-clause-gathers
returns-clause-gathers g c = gathered_all g.D.Disk.tells pass_seen (worker_seen g.P.Port.seen g.C.Clock.moments) (desk_id c.split_all.new.desk) (sees c.args.pass).origin (sees c.gathering.pass) c.args.workers.now.items c.gathering.workers.items
    c.gathering.ends.items c.gathering.passes.items c.gathering.jobs.items c.gathering.invariant.gathering
    (no_length c.gathering.jobs.items (omega (arith, c.gathering.jobs.ok.0, c.gathering.invariant.jobs, c.gathering-test.false, c.len-count.ensures, c.requires.some)))

use Rattle.std.proofs.Common.{◌≡◌, ℕ, ◌∙◌, Option, refl, subst, ap, length, arith}
use Rattle.nb_turn.specs.Passes.{TableId, sees}
use Rattle.nb_vault.specs.declared.origin.Origin.{Origin}
use Rattle.nb_server.specs.Steps.{IsFresh, ReadyAt, desk_id, pass_seen}
use Rattle.nb_server.proofs.Splitting.{split_none, split_more}
use Rattle.nb_server.proofs.server.split_all.Goals as goal

pub splitting-init : goal.splitting-init
splitting-init g c = record {
  split = split_none pass_seen (desk_id c.args.desk.now) (sees c.args.pass).origin c.args.workers.now.items c.args.jobs.now.items c.requires.none;
  same = refl;
  desk = c.requires.desk;
  number = c.requires.number;
  fresh = c.requires.fresh;
  count = refl;
  jobs = omega (arith, c.args.jobs.now.ok, ap length c.requires.none);
  room = refl;
  jobs_room = refl;
}

pub split_one-rest-requires-clause-few : goal.split_one-rest-requires-clause-few
split_one-rest-requires-clause-few g c = (
  λ none. absurd (omega (arith, none, c.len-number.ensures, c.in-Some.ensures.cases, c.splitting.invariant.count, c.splitting-test.true, c.len-end.ensures)),
  omega (arith, c.len-number.ensures, c.in-Some.ensures.cases, c.splitting.invariant.count, c.splitting.invariant.jobs, c.requires.few),
)

pub splitting-preserved : goal.splitting-preserved
splitting-preserved g c =
    let count : c.len-number.result ≡ length c.pop.new.self.items = omega (arith, c.len-number.ensures, c.pop.new.self.ok) in
    record {
      split = split_more pass_seen (desk_id c.args.desk.now) (sees c.args.pass).origin c.args.workers.now.items c.splitting.workers.items c.pop.new.self.items c.in-Some.worker c.splitting.jobs.items c.push_reserved.new.self.items
          (record { worker = c.in-Some.worker; number = c.len-number.result; stage = c.split_one-rest.result.1 }) c.splitting.invariant.split c.push_reserved.ensures.items c.in-Some.ensures.items refl count
          (subst (λ (x : TableId × Option Origin × ℕ). ReadyAt pass_seen x.0 x.1 x.2 c.split_one-rest.result.1)
          (λ i. ((c.split_one-rest.ensures.same ∙ c.splitting.invariant.same) i, c.splitting.invariant.fresh.own.origin_is i, count i)) c.split_one-rest.ensures.ready);
      same = c.split_one-rest.ensures.same ∙ c.splitting.invariant.same;
      desk = c.split_one-rest.ensures.desk;
      number = c.split_one-rest.ensures.first;
      fresh = subst (λ (o : Option Origin). IsFresh o 0 (sees c.split_one-rest.result.0)) c.splitting.invariant.fresh.own.origin_is c.split_one-rest.ensures.fresh;
      count = omega (arith, c.in-Some.ensures.cases, c.splitting.invariant.count);
      jobs = omega (arith, c.push_reserved.ensures.len, c.splitting.invariant.jobs);
      room = c.in-Some.ensures.capacity ∙ c.splitting.invariant.room;
      jobs_room = c.push_reserved.ensures.capacity ∙ c.splitting.invariant.jobs_room;
    }

pub unreachable-requires-in_default-pop : goal.unreachable-requires-in_default-pop
unreachable-requires-in_default-pop g c = omega (arith, c.in_default-pop.ensures.cases, c.splitting.invariant.count, c.splitting.auto.counter, c.splitting.auto.counter-end, c.requires.some, c.len-end.ensures)

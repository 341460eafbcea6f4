use Rattle.std.proofs.Common.{[], ◌∷◌, ◌∙◌, subst, sym, arith}
use Rattle.nb_turn.specs.Passes.{sees}
use Rattle.nb_turn.proofs.Lists.{no_length}
use Rattle.nb_server.specs.Steps.{AreAt, desk_id, pass_seen}
use Rattle.nb_server.proofs.Joining.{joined_all, joining_more, next_at}
use Rattle.nb_server.proofs.server.join_all.Goals as goal

pub join_one-pass-requires-clause-other : goal.join_one-pass-requires-clause-other
join_one-pass-requires-clause-other g c = subst (λ id. AreAt pass_seen id (c.in-Some.own ∷ [])) (sym c.joining.invariant.same)
    (next_at pass_seen (desk_id c.args.desk.now) (sees c.args.first) (sees c.joining.pass) c.args.passes.now.items c.joining.passes.items c.pop.new.self.items c.in-Some.own c.joining.invariant.joining c.in-Some.ensures.items)

pub joining-preserved : goal.joining-preserved
joining-preserved g c = record {
  joining = joining_more pass_seen (desk_id c.args.desk.now) (sees c.args.first) (sees c.joining.pass) (sees c.join_one-pass.result) c.args.passes.now.items c.joining.passes.items c.pop.new.self.items c.in-Some.own
      c.joining.invariant.joining c.in-Some.ensures.items c.join_one-pass.ensures.joins;
  same = c.join_one-pass.ensures.same ∙ c.joining.invariant.same;
  desk = c.join_one-pass.ensures.desk;
  count = omega (arith, c.joining.invariant.count, c.in-Some.ensures.cases);
}

pub returns-clause-joins : goal.returns-clause-joins
returns-clause-joins g c = joined_all pass_seen (desk_id c.args.desk.now) (sees c.args.first) (sees c.joining.pass) c.args.passes.now.items c.joining.passes.items c.joining.invariant.joining
    (no_length c.joining.passes.items (omega (arith, c.joining.passes.ok, c.joining.invariant.count, c.joining-test.false, c.len-end.ensures)))

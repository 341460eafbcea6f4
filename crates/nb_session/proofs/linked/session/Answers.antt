use Rattle.std.proofs.Common.{List, ℕ, refl, sym, subst}
use Rattle.nb_turns.specs.declared.mark.Mark.{Mark}
use Rattle.nb_turn.specs.Passes.{sees}
use Rattle.nb_session.specs.Session.{Session}
use Rattle.nb_session.specs.declared.ended.SessionEnd.TheVariants.{NoMemory}
use Rattle.nb_session.proofs.Ending.{unbegun}
use Rattle.nb_session.proofs.linked.session.Goals as goal

pub returns-in_default-clause-told : goal.returns-in_default-clause-told
returns-in_default-clause-told g c = record {
  session = subst (λ (x : List ℕ × List Mark). Session g.D.Disk.tells c.args.pass.number (sees c.args.pass) (sees c.args.pass) (g.L.Link.seen c.args.link.now) (g.L.Link.seen c.args.link.now) (g.C.Clock.moments c.args.clock.now) (g.C.Clock.moments c.args.clock.now) x.0 x.1 NoMemory)
      (λ i. (sym c.new-in_default.ensures.items i, sym c.new-in_default-2.ensures.items i))
      (unbegun g.D.Disk.tells c.args.pass.number (sees c.args.pass) (g.L.Link.seen c.args.link.now) (g.C.Clock.moments c.args.clock.now) c.args.pass.is_pass.from);
  number_is = refl;
  before = c.seen-seen_before.ensures;
  behind = c.seen-seen_before.ensures;
}

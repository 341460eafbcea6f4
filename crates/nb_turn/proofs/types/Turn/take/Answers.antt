use Rattle.std.proofs.Common.{◌∙◌}
use Rattle.nb_turn.specs.Passes.{sees}
use Rattle.nb_turn.proofs.Steps.{waits}
use Rattle.nb_turn.proofs.types.Turn.take.Goals as goal

pub loop-preserved : goal.loop-preserved
loop-preserved g c =
    let t = g.T.Chronicle in
    let busy = c.in-Err.ensures.busy in
    record {
      turn = busy.1;
      number = busy.2 ∙ c.loop.invariant.number;
      waited = waits t.origin t.history t.maker (sees c.args.pass) (sees c.loop.waiting) (sees c.in-Err.pass) c.loop.invariant.waited busy.3;
    }

use Rattle.std.proofs.Common.{sym}
use Rattle.nb_player.proofs.Events.{one_event}
use Rattle.nb_player.proofs.happening.happen.Goals as goal

pub returns : goal.returns
returns c =
    let e = one_event c.args.world.now.world c.args.act.now c.in_default.not-Serve in
    rw (e, sym c.in_ok-event_of.ensures) c.step.ensures

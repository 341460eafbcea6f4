use Rattle.std.proofs.Common.{[], take}
use Rattle.nb_simulator.specs.declared.setup.Setup.{Setup}
use Rattle.nb_simulator.specs.Laws.{IsBehind}
use Rattle.nb_player.specs.Playing.{events_behind}
use Rattle.nb_player.proofs.playing.happen_all.Given as goal

abbrev pub invariant-loop-act : goal.invariant-loop-act
invariant-loop-act l = (s : Setup) → IsBehind s [] l.fn.world → IsBehind s (events_behind s [] (take l.act-index l.acts)) l.world

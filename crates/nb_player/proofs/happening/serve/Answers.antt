use Rattle.std.proofs.Common.{List, [], ◌∷◌, ◌++◌}
use Rattle.std.proofs.lemmas.Result.{IfOk-weaker}
use Rattle.nb_world.specs.declared.event.Event.{Event}
use Rattle.nb_world.specs.declared.event.Event.TheVariants as event
use Rattle.nb_simulator.specs.declared.setup.Setup.{Setup}
use Rattle.nb_simulator.specs.Laws.{IsBehind}
use Rattle.nb_player.specs.Playing.{served}
use Rattle.nb_player.proofs.Events.{behind_five}
use Rattle.nb_player.proofs.happening.serve.Goals as goal

pub returns : goal.returns
returns c =
    let call = c.args.call in
    let w = c.step-5.new.world in
    IfOk-weaker c.step-5.result (λ _. (s : Setup) (es : List Event) → IsBehind s es c.step-4.new.world → IsBehind s (es ++ event.Answer call ∷ []) w)
    (λ _. (s : Setup) (es : List Event) → IsBehind s es c.args.world.now → IsBehind s (es ++ served c.args.packet call) w)
    (λ done last. λ s es is.
    let one : List Event = es ++ event.Deliver c.args.packet ∷ [] in
    let two : List Event = one ++ event.Turn call ∷ [] in
    let three : List Event = two ++ event.Write call ∷ [] in
    let four : List Event = three ++ event.Open call ∷ [] in
    behind_five s es (event.Deliver c.args.packet) (event.Turn call) (event.Write call) (event.Open call) (event.Answer call) w
    (last s four (c.in_ok-step-4.ensures s three (c.in_ok-step-3.ensures s two (c.in_ok-step-2.ensures s one (c.in_ok-step.ensures s es is))))))
    c.step-5.ensures

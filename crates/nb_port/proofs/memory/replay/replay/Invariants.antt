-- What the rest of the steps make of the content and the image so far is what all of them make of the start.
use Rattle.std.proofs.Common.{◌≡◌, drop}
use Rattle.nb_port.specs.Images.{image_from}
use Rattle.nb_port.proofs.memory.replay.replay.Given as goal

abbrev pub invariant-loop-step : goal.invariant-loop-step
invariant-loop-step l =
    image_from l.fill l.content.items l.image.items (drop l.step-index l.steps) ≡ image_from l.fill l.start l.start l.steps

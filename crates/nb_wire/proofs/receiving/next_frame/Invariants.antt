use Rattle.std.proofs.Common.{◌-◌, [], length}
use Rattle.nb_frame.specs.State.{waiting}
use Rattle.nb_wire.specs.Received.{wire, ReceivedPromptly}
use Rattle.nb_wire.proofs.receiving.next_frame.Given as goal

-- no frame was given out yet
abbrev pub invariant-fetching : goal.invariant-fetching
invariant-fetching g l = ReceivedPromptly (wire (g.L.Link.seen l.fn.link) l.fn.frames) (wire (g.L.Link.seen l.link) l.frames) []

-- less than a frame waits where more is read
abbrev pub decreases-fetching : goal.decreases-fetching
decreases-fetching g l = 1048584 - length (waiting l.frames)

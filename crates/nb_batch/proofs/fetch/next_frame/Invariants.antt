use Rattle.std.proofs.Common.{◌-◌, ◌≤◌, [], length}
use Rattle.nb_frame.specs.State.{waiting}
use Rattle.nb_batch.specs.Fetch.{Reads, IsNewest}
use Rattle.nb_batch.proofs.fetch.next_frame.Given as goal

-- what was read so far waits behind what waited
abbrev pub invariant-fetching : goal.invariant-fetching
invariant-fetching g l = record {
  reads : Reads (g.S.Source.left l.fn.source) (g.S.Source.left l.source) l.fn.frames l.frames [];
  newest : IsNewest l.fn.frames l.frames;
  count : g.S.Source.faults l.fn.source ≤ g.S.Source.faults l.source;
}

-- less than a frame waits where more is read
abbrev pub decreases-fetching : goal.decreases-fetching
decreases-fetching g l = 1048584 - length (waiting l.frames)

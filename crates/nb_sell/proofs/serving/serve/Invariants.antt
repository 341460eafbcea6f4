use Rattle.std.proofs.Common.{◌+◌, ◌-◌, ◌*◌, Some}
use Rattle.nb_sell.specs.declared.peer.Peer.TheVariants.{Consumer}
use Rattle.nb_sell.specs.Steps.{IsNearAt, Ran, at, lines_of, next_awaits}
use Rattle.nb_sell.proofs.Rounds.{next_rank}
use Rattle.nb_sell.proofs.serving.serve.Given as goal

-- the link was served up to here from the outset
abbrev pub invariant-serving : goal.invariant-serving
invariant-serving g l = record {
  ran : Ran g.D.Disk.tells
      (at l.fn.journal l.fn.merchant (lines_of (g.M.Link.seen l.fn.server) (g.L.Link.seen l.fn.link) l.fn.sides) (g.C.Clock.moments l.fn.clock) l.fn.sides.last (Some Consumer))
      (at l.journal l.merchant (lines_of (g.M.Link.seen l.server) (g.L.Link.seen l.link) l.sides) (g.C.Clock.moments l.clock) l.sides.last (next_awaits l.next)) l.next l.sides.read;
  near : IsNearAt l.next l.sides;
}

-- a frame of the consumer's is read, or one of the house's behind it, or nothing more is done
abbrev pub decreases-serving : goal.decreases-serving
decreases-serving g l = (10000 - l.sides.read) * 4 + next_rank l.next

use Rattle.std.proofs.Common.{◌+◌, ◌-◌, ◌*◌}
use Rattle.nb_consumer.specs.Goods.{IsOpen}
use Rattle.nb_buy.specs.Bought.{point}
use Rattle.nb_buy.specs.Run.{phase_for}
use Rattle.nb_buy.specs.Steps.{IsNear, Ran, lines_of}
use Rattle.nb_buy.proofs.Rounds.{asked_rank, next_rank}
use Rattle.nb_buy.proofs.trading.trade.Given as goal

-- the purchase came here from the outset
abbrev pub invariant-trading : goal.invariant-trading
invariant-trading g l = record {
  ran : Ran g.D.Disk.tells l.fn.start (point l.fn.journal l.fn.consumer (lines_of (g.L.Link.seen l.fn.server) (g.L.Link.seen l.fn.seller) l.fn.sides))
      (point l.journal l.consumer (lines_of (g.L.Link.seen l.server) (g.L.Link.seen l.seller) l.sides)) l.asked l.next l.sides.read;
  near : IsNear l.sides;
  going : IsOpen (phase_for l.fn.start l.consumer);
}

-- a frame is read, the house is asked, or nothing more comes of who was waited for
abbrev pub decreases-trading : goal.decreases-trading
decreases-trading g l = (10000 - l.sides.read) * 4 + asked_rank l.asked + next_rank l.next

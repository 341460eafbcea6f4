-- What selling on a link comes to.
use Rattle.std.proofs.Common.{◌≡◌, inl, ℕ, List, [], Option, Some, refl, subst, arith}
use Rattle.nb_port.specs.Tells.{DiskTells}
use Rattle.nb_journal.specs.declared.journal.Journal.{Journal}
use Rattle.nb_link.specs.Link.{LinkSeen}
use Rattle.nb_units.specs.declared.ids.PartyId.{PartyId}
use Rattle.nb_frame.specs.State.{Collected}
use Rattle.nb_wire.specs.Received.{wire}
use Rattle.nb_wire.specs.declared.sending.Sent.{Sent}
use Rattle.nb_merchant.specs.Shop.{Shop}
use Rattle.nb_trade.specs.declared.lost.Lost.{Lost}
use Rattle.nb_trade.specs.declared.lost.Lost.TheVariants as lost
use Rattle.nb_trade.proofs.Going.{line_none}
use Rattle.nb_wire.specs.declared.receiving.LinkEnd.TheVariants.{Ended, BadFrame, ReadFault}
use Rattle.nb_sell.specs.declared.peer.Peer.{Peer}
use Rattle.nb_sell.specs.declared.peer.Peer.TheVariants.{House, Consumer}
use Rattle.nb_sell.specs.declared.peer.Over.{Over}
use Rattle.nb_sell.specs.declared.peer.Over.TheVariants as over
use Rattle.nb_sell.specs.declared.ended.SellEnd.{SellEnd}
use Rattle.nb_sell.specs.declared.ended.SellEnd.TheVariants as ends
use Rattle.nb_sell.specs.declared.sides.Sides.{Sides}
use Rattle.nb_sell.specs.Run.{way}
use Rattle.nb_sell.specs.Sold.{Point, point, Stopped, SellLost, around, first_point, end_for, StoppedAs, EndsAt, Sold}
use Rattle.nb_sell.specs.Steps.{AreBegun, lines_of, at, lost_end}
use Rattle.nb_sell.proofs.Clocks.{gave_none}
use Rattle.nb_sell.proofs.Rounds.{served_none}

module _ {D : Type 0} (tells : DiskTells D) where
  -- there was no memory at the outset
  pub sold_nothing : (journal : Journal D) (shop : Shop) (house consumer : LinkSeen) (clock : Option (List ℕ))
      → Sold tells (around journal shop house consumer clock) (around journal shop house consumer clock) ends.NoMemory
  unfolding served_none
  sold_nothing journal shop house consumer clock =
      let p : Point D = first_point (around journal shop house consumer clock) in
      record {
        last = p;
        last_is = record { journal = refl; shop = refl; house = refl; consumer = refl; clock = refl };
        ended = record {
          mid = p;
          served = served_none tells p;
          sent = record { house = refl; consumer = refl };
          last = [];
          one = omega arith;
          few = omega arith;
          obeys = tt;
          loses = record { journal = refl; shop = inl refl; house = line_none p.lines.house; consumer = line_none p.lines.consumer; clock = gave_none p.clock };
        };
      }

  -- the point at the outset is that of what is held beside the links then
  begun_point : (journal : Journal D) (shop : Shop) (house consumer : LinkSeen) (clock : Option (List ℕ)) (sides : Sides) → AreBegun sides
      → at journal shop (lines_of house consumer sides) clock sides.last (Some Consumer) ≡ first_point (around journal shop house consumer clock)
  begun_point journal shop house consumer clock sides is = λ i. whole (is.house.frames i) (is.house.sent i) (is.consumer.frames i) (is.consumer.sent i) (is.last i)
    where
      whole : Collected → Sent → Collected → Sent → Option PartyId → Point D
      whole held so kept too last =
          point journal (way shop last (Some Consumer)) (record { house = record { wire = wire house held; sent = so }; consumer = record { wire = wire consumer kept; sent = too } }) clock

  pub sold_at : (journal journal' : Journal D) (shop shop' : Shop) (house consumer house' consumer' : LinkSeen) (clock clock' : Option (List ℕ)) (sides sides' : Sides) (awaits : Option Peer) (end : SellEnd) → AreBegun sides
      → EndsAt tells (at journal shop (lines_of house consumer sides) clock sides.last (Some Consumer)) (at journal' shop' (lines_of house' consumer' sides') clock' sides'.last awaits) end
      → Sold tells (around journal shop house consumer clock) (around journal' shop' house' consumer' clock') end
  sold_at journal journal' shop shop' house consumer house' consumer' clock clock' sides sides' awaits end begun ended = record {
    last = at journal' shop' (lines_of house' consumer' sides') clock' sides'.last awaits;
    last_is = record { journal = refl; shop = refl; house = refl; consumer = refl; clock = refl };
    ended = subst (λ (p : Point D). EndsAt tells p (at journal' shop' (lines_of house' consumer' sides') clock' sides'.last awaits) end)
        (begun_point journal shop house consumer clock sides begun) ended;
  }

  -- ---- the ends

  abbrev stopped_so : {p q : Point D} (end : SellEnd) (why : Over) → end_for why ≡ end → Stopped tells p q why → StoppedAs tells p q end
  stopped_so end why is stopped = record { why = why; ends = is; stopped = stopped }

  -- nothing more was done, for this reason
  pub stopped_ends : (p q : Point D) (why : Over) → Stopped tells p q why → EndsAt tells p q (end_for why)
  stopped_ends p q (over.NoFrame House ReadFault) stopped = stopped_so ends.ServerFault (over.NoFrame House ReadFault) refl stopped
  stopped_ends p q (over.NoFrame House (Ended rest)) stopped = stopped_so ends.Ended (over.NoFrame House (Ended rest)) refl stopped
  stopped_ends p q (over.NoFrame House (BadFrame fault)) stopped = stopped_so ends.Ended (over.NoFrame House (BadFrame fault)) refl stopped
  stopped_ends p q (over.NoFrame Consumer end) stopped = stopped_so ends.Ended (over.NoFrame Consumer end) refl stopped
  stopped_ends p q (over.WriteFault House) stopped = stopped_so ends.ServerFault (over.WriteFault House) refl stopped
  stopped_ends p q (over.WriteFault Consumer) stopped = stopped_so ends.Ended (over.WriteFault Consumer) refl stopped
  stopped_ends p q over.Ignored stopped = stopped_so ends.Ended over.Ignored refl stopped
  stopped_ends p q over.Spent stopped = stopped_so ends.Ended over.Spent refl stopped

  -- a step was lost
  pub lost_ends : (p q : Point D) (why : Lost) → SellLost tells p q why → EndsAt tells p q (lost_end why)
  lost_ends p q lost.NoMemory t = t
  lost_ends p q (lost.Full cap) t = t
  lost_ends p q (lost.DiskFault before after) t = t

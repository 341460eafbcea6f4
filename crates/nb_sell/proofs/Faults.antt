-- Counts of faults on a link that was sold on: none fell, and where it is said that a call failed one rose.
use Rattle.std.proofs.Common.{◌≡◌, ◌⊎◌, inl, inr, ℕ, ◌≤◌, List, sym, ap, subst, arith}
use Rattle.nb_port.specs.Tells.{DiskTells}
use Rattle.nb_port.specs.Faults.{Rose}
use Rattle.nb_journal.specs.declared.journal.Journal.{Journal}
use Rattle.nb_link.specs.Link.{LinkSeen}
use Rattle.nb_wire.specs.Sent.{WroteOn}
use Rattle.nb_wire.specs.declared.sending.Sent.{Sent}
use Rattle.nb_wire.specs.declared.sending.Sent.TheVariants.{All, Failed}
use Rattle.nb_wire.specs.declared.receiving.LinkEnd.{LinkEnd}
use Rattle.nb_wire.specs.declared.receiving.LinkEnd.TheVariants.{Ended, BadFrame, ReadFault}
use Rattle.nb_trade.specs.Lines.{Line}
use Rattle.nb_sell.specs.declared.peer.Peer.{Peer}
use Rattle.nb_sell.specs.declared.peer.Peer.TheVariants.{House, Consumer}
use Rattle.nb_sell.specs.declared.peer.Over.{Over}
use Rattle.nb_sell.specs.declared.peer.Over.TheVariants as over
use Rattle.nb_sell.specs.declared.ended.SellEnd.TheVariants as ends
use Rattle.nb_sell.specs.Run.{Act}
use Rattle.nb_sell.specs.Sold.{Around, Point, Went, LineEnds, IsOverAt, Stopped, Sold, end_for, first_point}

-- no count fell
pub record NoneFell {D : Type 0} (tells : DiskTells D) (old new : D) (house later : LinkSeen) : Type 0 where
  pub disk : tells.faults old ≤ tells.faults new
  pub reads : house.read_faults ≤ later.read_faults
  pub writes : house.write_faults ≤ later.write_faults

module _ {D : Type 0} (tells : DiskTells D) where
  went_counts : (p q : Point D) (acts : List Act) → Went tells p q acts → NoneFell tells p.journal.disk q.journal.disk p.lines.house.wire.link q.lines.house.wire.link
  went_counts p q acts went = record { disk = went.journal.count; reads = went.house.received.read_count; writes = went.house.received.write_count }

  same_counts : (p q : Point D) → q ≡ p → NoneFell tells p.journal.disk q.journal.disk p.lines.house.wire.link q.lines.house.wire.link
  same_counts p q is = record {
    disk = omega (arith, ap (λ (x : Point D). tells.faults x.journal.disk) is);
    reads = omega (arith, ap (λ (x : Point D). x.lines.house.wire.link.read_faults) is);
    writes = omega (arith, ap (λ (x : Point D). x.lines.house.wire.link.write_faults) is);
  }

  -- where no frame comes any more
  end_counts : (p q : Point D) (peer : Peer) (end : LinkEnd) → LineEnds p q peer end → NoneFell tells p.journal.disk q.journal.disk p.lines.house.wire.link q.lines.house.wire.link
  end_counts p q House end e = record {
    disk = omega (arith, ap (λ (j : Journal D). tells.faults j.disk) e.journal);
    reads = e.line.fetches.0.received.read_count;
    writes = e.line.fetches.0.received.write_count;
  }
  end_counts p q Consumer end e = record {
    disk = omega (arith, ap (λ (j : Journal D). tells.faults j.disk) e.journal);
    reads = omega (arith, ap (λ (l : Line). l.wire.link.read_faults) e.other);
    writes = omega (arith, ap (λ (l : Line). l.wire.link.write_faults) e.other);
  }

  over_counts : (p mid q : Point D) (acts : List Act) (why : Over) → IsOverAt tells p mid q acts why
      → NoneFell tells mid.journal.disk q.journal.disk mid.lines.house.wire.link q.lines.house.wire.link
  over_counts p mid q acts (over.NoFrame peer end) o = end_counts mid q peer end o.0
  over_counts p mid q acts (over.WriteFault peer) o = same_counts mid q o.0
  over_counts p mid q acts over.Ignored o = same_counts mid q o.0
  over_counts p mid q acts over.Spent o = same_counts mid q o.0

  stopped_counts : (p q : Point D) (why : Over) → Stopped tells p q why → NoneFell tells p.journal.disk q.journal.disk p.lines.house.wire.link q.lines.house.wire.link
  stopped_counts p q why s =
      let first = went_counts p s.mid s.served.acts s.served.went in
      let then = over_counts p s.mid q s.served.acts why s.over in
      record { disk = omega (arith, first.disk, then.disk); reads = omega (arith, first.reads, then.reads); writes = omega (arith, first.writes, then.writes) }

  pub none_fell : (old new : Around D) → Sold tells old new ends.Ended → NoneFell tells old.journal.disk new.journal.disk old.house new.house
  none_fell old new s =
      subst (λ (x : Journal D × LinkSeen). NoneFell tells old.journal.disk x.0.disk old.house x.1) (λ i. (sym s.last_is.journal i, sym s.last_is.house i))
      (stopped_counts (first_point old) s.last s.ended.why s.ended.stopped)

  -- ---- a link to the house that failed

  wrote_failed : (old new : Sent) (link later : LinkSeen) (bytes : List ℕ) → WroteOn old new link later bytes → old ≡ All → new ≡ Failed → Rose link.write_faults later.write_faults
  wrote_failed All Failed link later bytes wrote first last = wrote.0
  wrote_failed All All link later bytes wrote first last = absurd cc
  wrote_failed Failed new link later bytes wrote first last = absurd cc

  rose_at : (p q : Point D) (why : Over) → end_for why ≡ ends.ServerFault → Stopped tells p q why
      → Rose p.lines.house.wire.link.read_faults q.lines.house.wire.link.read_faults ⊎ Rose p.lines.house.wire.link.write_faults q.lines.house.wire.link.write_faults
  rose_at p q (over.NoFrame House ReadFault) is s =
      let rose : Rose s.mid.lines.house.wire.link.read_faults q.lines.house.wire.link.read_faults = s.over.0.line.fetches.1.0 in
      inl (omega (arith, rose, (went_counts p s.mid s.served.acts s.served.went).reads))
  rose_at p q (over.NoFrame House (Ended rest)) is s = absurd cc
  rose_at p q (over.NoFrame House (BadFrame fault)) is s = absurd cc
  rose_at p q (over.NoFrame Consumer end) is s = absurd cc
  rose_at p q (over.WriteFault House) is s =
      let u = s.over.1 in
      let before = went_counts p u.mid u.before u.first in
      let same : q.lines.house.wire.link.write_faults ≡ s.mid.lines.house.wire.link.write_faults = ap (λ (x : Point D). x.lines.house.wire.link.write_faults) s.over.0 in
      let rose : Rose u.mid.lines.house.wire.link.write_faults s.mid.lines.house.wire.link.write_faults =
      wrote_failed u.mid.lines.house.sent s.mid.lines.house.sent u.mid.lines.house.wire.link s.mid.lines.house.wire.link _ u.more.house.wrote u.sent.house u.failed in
      inr (omega (arith, before.writes, rose, same))
  rose_at p q (over.WriteFault Consumer) is s = absurd cc
  rose_at p q over.Ignored is s = absurd cc
  rose_at p q over.Spent is s = absurd cc

  pub house_rose : (old new : Around D) → Sold tells old new ends.ServerFault → Rose old.house.read_faults new.house.read_faults ⊎ Rose old.house.write_faults new.house.write_faults
  house_rose old new s =
      subst (λ (link : LinkSeen). Rose old.house.read_faults link.read_faults ⊎ Rose old.house.write_faults link.write_faults) (sym s.last_is.house)
      (rose_at (first_point old) s.last s.ended.why s.ended.ends s.ended.stopped)

  -- ---- a disk that failed

  pub disk_rose : (old new : Around D) (before after : ℕ) → Sold tells old new (ends.DiskFault before after) → Rose (tells.faults old.journal.disk) (tells.faults new.journal.disk)
  disk_rose old new before after s =
      let x = s.ended in
      let first = went_counts (first_point old) x.mid x.served.acts x.served.went in
      omega (arith, first.disk, x.loses.journal.0, x.loses.journal.1, x.loses.journal.2, ap (λ (j : Journal D). tells.faults j.disk) s.last_is.journal)

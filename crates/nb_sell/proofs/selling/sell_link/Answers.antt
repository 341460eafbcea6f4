use Rattle.std.proofs.Common.{None, Some, sym, subst, ◌∙◌}
use Rattle.nb_sell.specs.declared.peer.Peer.TheVariants.{Consumer}
use Rattle.nb_sell.specs.declared.ended.SellEnd.{SellEnd}
use Rattle.nb_sell.specs.Sold.{EndsAt, Sold, around}
use Rattle.nb_sell.specs.Steps.{at, lines_of, over_awaits}
use Rattle.nb_sell.proofs.Ends.{sold_nothing, sold_at, stopped_ends, lost_ends}
use Rattle.nb_sell.proofs.NextTime.{room_stays, stays_kept}
use Rattle.nb_sell.proofs.selling.sell_link.Goals as goal

pub returns-in_default : goal.returns-in_default
returns-in_default g c = record {
  sold = sold_nothing g.D.Disk.tells c.args.journal.now c.args.merchant.now (g.M.Link.seen c.args.server.now) (g.L.Link.seen c.args.link.now) (g.C.Clock.moments c.args.clock.now);
  again = λ kept done. absurd done;
  room = λ done. absurd done;
}

pub returns-in-Ok-served : goal.returns-in-Ok-served
returns-in-Ok-served g c =
    let old = around c.args.journal.now c.args.merchant.now (g.M.Link.seen c.args.server.now) (g.L.Link.seen c.args.link.now) (g.C.Clock.moments c.args.clock.now) in
    let new = around c.serve-served.new.journal c.serve-served.new.merchant (g.M.Link.seen c.serve-served.new.server) (g.L.Link.seen c.serve-served.new.link) (g.C.Clock.moments c.serve-served.new.clock) in
    let sold : Sold g.D.Disk.tells old new c.end_of.result = sold_at g.D.Disk.tells c.args.journal.now c.serve-served.new.journal c.args.merchant.now c.serve-served.new.merchant (g.M.Link.seen c.args.server.now) (g.L.Link.seen c.args.link.now) (g.M.Link.seen c.serve-served.new.server) (g.L.Link.seen c.serve-served.new.link) (g.C.Clock.moments c.args.clock.now) (g.C.Clock.moments c.serve-served.new.clock) c.in-Ok.sides c.serve-served.new.sides
    (over_awaits c.in-Ok-served.why) c.end_of.result c.in-Ok.ensures
    (subst (λ (end : SellEnd). EndsAt g.D.Disk.tells (at c.args.journal.now c.args.merchant.now (lines_of (g.M.Link.seen c.args.server.now) (g.L.Link.seen c.args.link.now) c.in-Ok.sides) (g.C.Clock.moments c.args.clock.now) c.in-Ok.sides.last (Some Consumer)) (at c.serve-served.new.journal c.serve-served.new.merchant (lines_of (g.M.Link.seen c.serve-served.new.server) (g.L.Link.seen c.serve-served.new.link) c.serve-served.new.sides) (g.C.Clock.moments c.serve-served.new.clock) c.serve-served.new.sides.last (over_awaits c.in-Ok-served.why)) end) (sym c.end_of.ensures)
    (stopped_ends g.D.Disk.tells (at c.args.journal.now c.args.merchant.now (lines_of (g.M.Link.seen c.args.server.now) (g.L.Link.seen c.args.link.now) c.in-Ok.sides) (g.C.Clock.moments c.args.clock.now) c.in-Ok.sides.last (Some Consumer)) (at c.serve-served.new.journal c.serve-served.new.merchant (lines_of (g.M.Link.seen c.serve-served.new.server) (g.L.Link.seen c.serve-served.new.link) c.serve-served.new.sides) (g.C.Clock.moments c.serve-served.new.clock) c.serve-served.new.sides.last (over_awaits c.in-Ok-served.why)) c.in-Ok-served.why c.in-Ok-served.ensures)) in
    record {
      sold = sold;
      again = λ kept done. (kept.0, (stays_kept g.D.Disk.tells old new c.end_of.result sold done kept.0 kept.1 c.witness.ensures.kept).0);
      room = λ done. room_stays g.D.Disk.tells old new c.end_of.result sold done ∙ c.requires.room;
    }

pub returns-in-Err : goal.returns-in-Err
returns-in-Err g c =
    let old = around c.args.journal.now c.args.merchant.now (g.M.Link.seen c.args.server.now) (g.L.Link.seen c.args.link.now) (g.C.Clock.moments c.args.clock.now) in
    let new = around c.serve-served.new.journal c.serve-served.new.merchant (g.M.Link.seen c.serve-served.new.server) (g.L.Link.seen c.serve-served.new.link) (g.C.Clock.moments c.serve-served.new.clock) in
    let sold : Sold g.D.Disk.tells old new c.lost_as.result = sold_at g.D.Disk.tells c.args.journal.now c.serve-served.new.journal c.args.merchant.now c.serve-served.new.merchant (g.M.Link.seen c.args.server.now) (g.L.Link.seen c.args.link.now) (g.M.Link.seen c.serve-served.new.server) (g.L.Link.seen c.serve-served.new.link) (g.C.Clock.moments c.args.clock.now) (g.C.Clock.moments c.serve-served.new.clock) c.in-Ok.sides c.serve-served.new.sides
    None c.lost_as.result c.in-Ok.ensures
    (subst (λ (end : SellEnd). EndsAt g.D.Disk.tells (at c.args.journal.now c.args.merchant.now (lines_of (g.M.Link.seen c.args.server.now) (g.L.Link.seen c.args.link.now) c.in-Ok.sides) (g.C.Clock.moments c.args.clock.now) c.in-Ok.sides.last (Some Consumer)) (at c.serve-served.new.journal c.serve-served.new.merchant (lines_of (g.M.Link.seen c.serve-served.new.server) (g.L.Link.seen c.serve-served.new.link) c.serve-served.new.sides) (g.C.Clock.moments c.serve-served.new.clock) c.serve-served.new.sides.last None) end) (sym c.lost_as.ensures)
    (lost_ends g.D.Disk.tells (at c.args.journal.now c.args.merchant.now (lines_of (g.M.Link.seen c.args.server.now) (g.L.Link.seen c.args.link.now) c.in-Ok.sides) (g.C.Clock.moments c.args.clock.now) c.in-Ok.sides.last (Some Consumer)) (at c.serve-served.new.journal c.serve-served.new.merchant (lines_of (g.M.Link.seen c.serve-served.new.server) (g.L.Link.seen c.serve-served.new.link) c.serve-served.new.sides) (g.C.Clock.moments c.serve-served.new.clock) c.serve-served.new.sides.last None) c.in-Err.why c.in-Err.ensures)) in
    record {
      sold = sold;
      again = λ kept done. (kept.0, (stays_kept g.D.Disk.tells old new c.lost_as.result sold done kept.0 kept.1 c.witness.ensures.kept).0);
      room = λ done. room_stays g.D.Disk.tells old new c.lost_as.result sold done ∙ c.requires.room;
    }

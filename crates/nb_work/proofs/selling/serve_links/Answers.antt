use Rattle.std.proofs.Common.{sym, subst, ◌∙◌, arith}
use Rattle.nb_merchant.specs.Laws.{kept_bytes}
use Rattle.nb_sell.specs.Sold.{NothingLost}
use Rattle.nb_work.specs.Selling.{standing}
use Rattle.nb_work.proofs.Sales.{none_sold, one_sold, stopped_at, all_sold, port_failed, goes_on_ended}
use Rattle.nb_work.proofs.selling.serve_links.Goals as goal

pub selling-init : goal.selling-init
selling-init g c = record {
  so = none_sold g.D.Disk.tells (standing c.args.journal.now c.args.merchant.now (g.L.Link.seen c.args.server.now) (g.C.Clock.moments c.args.worker.now.clock)) (g.P.Port.seen c.args.worker.now.port);
  kept = c.requires.kept;
  room = c.requires.room;
}

-- the journal is at rest with what the merchant kept
pub sell_link-end-requires-clause-rest : goal.sell_link-end-requires-clause-rest
sell_link-end-requires-clause-rest g c = (c.selling.invariant.kept.0, kept_bytes c.selling.merchant, c.selling.invariant.kept.1)

pub returns-in-Some : goal.returns-in-Some
returns-in-Some g c =
    let first = standing c.args.journal.now c.args.merchant.now (g.L.Link.seen c.args.server.now) (g.C.Clock.moments c.args.worker.now.clock) in
    let mid = standing c.selling.journal c.selling.merchant (g.L.Link.seen c.selling.server) (g.C.Clock.moments c.selling.worker.clock) in
    let last = standing c.sell_link-end.new.journal c.sell_link-end.new.merchant (g.L.Link.seen c.sell_link-end.new.server) (g.C.Clock.moments c.sell_link-end.new.clock) in
    record {
      serves = stopped_at g.D.Disk.tells first mid (g.P.Port.seen c.args.worker.now.port) (g.P.Port.seen c.selling.worker.port) (g.P.Port.seen c.next.new.self) (g.P.Port.seen c.back.new.self) c.selling.counter
          (record { given = g.P.Joined.Link.seen c.in-Got.link; taken = g.P.Joined.Link.seen c.sell_link-end.new.link; end = c.sell_link-end.result; behind = last }) c.in-Some.stop
          c.selling.invariant.so c.in-Got.ensures (record { out = c.back.ensures.out; taken = c.back.ensures.taken; same = c.back.ensures.same }) c.sell_link-end.ensures.sold
          (sym c.stop_behind.ensures ∙ c.in-Some.is);
    }

pub returns-in-Failed : goal.returns-in-Failed
returns-in-Failed g c =
    let first = standing c.args.journal.now c.args.merchant.now (g.L.Link.seen c.args.server.now) (g.C.Clock.moments c.args.worker.now.clock) in
    let last = standing c.selling.journal c.selling.merchant (g.L.Link.seen c.selling.server) (g.C.Clock.moments c.selling.worker.clock) in
    record {
      serves = port_failed g.D.Disk.tells first last (g.P.Port.seen c.args.worker.now.port) (g.P.Port.seen c.selling.worker.port) (g.P.Port.seen c.next.new.self) c.selling.counter c.selling.invariant.so c.in-Failed.ensures;
    }

pub selling-preserved : goal.selling-preserved
selling-preserved g c =
    let first = standing c.args.journal.now c.args.merchant.now (g.L.Link.seen c.args.server.now) (g.C.Clock.moments c.args.worker.now.clock) in
    let mid = standing c.selling.journal c.selling.merchant (g.L.Link.seen c.selling.server) (g.C.Clock.moments c.selling.worker.clock) in
    let last = standing c.sell_link-end.new.journal c.sell_link-end.new.merchant (g.L.Link.seen c.sell_link-end.new.server) (g.C.Clock.moments c.sell_link-end.new.clock) in
    let given = g.P.Joined.Link.seen c.in-Got.link in
    let taken = g.P.Joined.Link.seen c.sell_link-end.new.link in
    let none = sym c.stop_behind.ensures ∙ c.in-None.is in
    let carried : NothingLost c.sell_link-end.result = subst NothingLost (sym (goes_on_ended c.sell_link-end.result none)) tt in
    record {
      so = one_sold g.D.Disk.tells first mid (g.P.Port.seen c.args.worker.now.port) (g.P.Port.seen c.selling.worker.port) (g.P.Port.seen c.next.new.self) (g.P.Port.seen c.back.new.self) c.selling.counter
          (record { given = given; taken = taken; end = c.sell_link-end.result; behind = last })
          c.selling.invariant.so c.in-Got.ensures (record { out = c.back.ensures.out; taken = c.back.ensures.taken; same = c.back.ensures.same }) c.sell_link-end.ensures.sold none;
      kept = c.sell_link-end.ensures.again c.selling.invariant.kept carried;
      room = c.sell_link-end.ensures.room carried;
    }

pub returns : goal.returns
returns g c =
    let first = standing c.args.journal.now c.args.merchant.now (g.L.Link.seen c.args.server.now) (g.C.Clock.moments c.args.worker.now.clock) in
    let last = standing c.selling.journal c.selling.merchant (g.L.Link.seen c.selling.server) (g.C.Clock.moments c.selling.worker.clock) in
    record {
      serves = all_sold g.D.Disk.tells first last (g.P.Port.seen c.args.worker.now.port) (g.P.Port.seen c.selling.worker.port) c.selling.counter c.selling.invariant.so
          (omega (arith, c.selling-test.false, c.selling.auto.counter-end, c.left-end.ensures.left));
    }

use Rattle.std.proofs.Common.{ℕ, List, sym, subst, refl}
use Rattle.nb_commands.specs.declared.ending.Job.{Job}
use Rattle.nb_work.specs.Work.{WorksAs, workers_seen}
use Rattle.nb_work.specs.Buying.{BuysOver}
use Rattle.nb_work.proofs.working.work.Goals as goal

pub returns-in-Serve : goal.returns-in-Serve
returns-in-Serve g c = record {
  works = subst (λ (job : Job). WorksAs g.D.Disk.tells (workers_seen g.P.Port.seen g.C.Clock.moments) g.L.Link.seen job c.args.disk c.serve.result.disk
      c.args.workers.items c.serve.result.workers.items c.args.dials c.serve.result.dials (g.K.Sink.sent c.args.sink.now) (g.K.Sink.sent c.args.sink.now)
      (g.K.Sink.faults c.args.sink.now) (g.K.Sink.faults c.args.sink.now) c.serve.result.lines.items c.serve.result.ends.items c.serve.result.ending)
      (sym c.in-Serve.is)
      (c.serve.ensures.serves, c.serve.ensures.dials, refl, refl);
}

pub returns-in-Buy : goal.returns-in-Buy
returns-in-Buy g c = record {
  works = subst (λ (job : Job). WorksAs g.D.Disk.tells (workers_seen g.P.Port.seen g.C.Clock.moments) g.L.Link.seen job c.args.disk c.purchase.result.disk
      c.args.workers.items c.purchase.result.workers.items c.args.dials c.purchase.result.dials (g.K.Sink.sent c.args.sink.now) (g.K.Sink.sent c.purchase.new.sink)
      (g.K.Sink.faults c.args.sink.now) (g.K.Sink.faults c.purchase.new.sink) c.purchase.result.lines.items c.purchase.result.ends.items c.purchase.result.ending)
      (sym c.in-Buy.is) (
        subst (λ (x : List ℕ). BuysOver g.D.Disk.tells g.L.Link.seen
            record { transaction = c.in-Buy.transaction; merchant = c.in-Buy.merchant; product = c.in-Buy.product; limit = c.in-Buy.limit; request = c.in-Buy.request; memo = x }
            c.args.disk c.purchase.result.disk c.args.dials c.purchase.result.dials (g.K.Sink.sent c.args.sink.now) (g.K.Sink.sent c.purchase.new.sink)
            (g.K.Sink.faults c.args.sink.now) (g.K.Sink.faults c.purchase.new.sink) c.purchase.result.ending)
            c.nothing.ensures
            c.purchase.ensures.buys,
        (λ i. (c.purchase.ensures.idle.0 i).items),
        c.purchase.ensures.idle.1,
        c.purchase.ensures.idle.2,
      );
}

pub returns-in-Sell : goal.returns-in-Sell
returns-in-Sell g c = record {
  works = subst (λ (job : Job). WorksAs g.D.Disk.tells (workers_seen g.P.Port.seen g.C.Clock.moments) g.L.Link.seen job c.args.disk c.sell.result.disk
      c.args.workers.items c.sell.result.workers.items c.args.dials c.sell.result.dials (g.K.Sink.sent c.args.sink.now) (g.K.Sink.sent c.args.sink.now)
      (g.K.Sink.faults c.args.sink.now) (g.K.Sink.faults c.args.sink.now) c.sell.result.lines.items c.sell.result.ends.items c.sell.result.ending)
      (sym c.in-Sell.is)
      (c.sell.ensures.sells, refl, refl, c.sell.ensures.idle.0, c.sell.ensures.idle.1);
}

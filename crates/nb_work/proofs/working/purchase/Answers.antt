use Rattle.std.proofs.Common.{sym, subst}
use Rattle.nb_commands.specs.declared.ending.Ending.{Ending}
use Rattle.nb_work.specs.Buying.{BuysAs}
use Rattle.nb_work.proofs.working.purchase.Goals as goal

pub returns-clause-buys : goal.returns-clause-buys
returns-clause-buys g c = (
  c.unwrap-server.result,
  c.unwrap-seller.result,
  c.buy_with-disk.new.server,
  c.buy_with-disk.new.seller,
  (λ i. record { server = c.unwrap-server.ensures i; seller = c.unwrap-seller.ensures i }),
  c.idle.ensures.same.2,
  subst (λ (x : g.row.D.Denot × Ending). BuysAs g.D.Disk.tells c.args.start.now
      record { disk = c.args.disk; house = g.L.Link.seen c.unwrap-server.result; seller = g.L.Link.seen c.unwrap-seller.result; sent = g.K.Sink.sent c.args.sink.now; faults = g.K.Sink.faults c.args.sink.now }
      record { disk = x.0; house = g.L.Link.seen c.buy_with-disk.new.server; seller = g.L.Link.seen c.buy_with-disk.new.seller; sent = g.K.Sink.sent c.buy_with-disk.new.sink; faults = g.K.Sink.faults c.buy_with-disk.new.sink }
      x.1)
      (sym (λ i. (c.idle.ensures.same.0 i, c.idle.ensures.same.3 i)))
      c.buy_with-disk.ensures,
)

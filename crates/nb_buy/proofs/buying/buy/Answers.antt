use Rattle.std.proofs.Common.{Result, Ok, ap, subst}
use Rattle.nb_buy.specs.declared.ended.BuyEnd.TheVariants as ends
use Rattle.nb_buy.specs.Bought.{around, point}
use Rattle.nb_buy.specs.declared.ended.Lost.{Lost}
use Rattle.nb_buy.specs.declared.trading.TradeEnd.{TradeEnd}
use Rattle.nb_buy.specs.Steps.{Trades, lines_of}
use Rattle.nb_buy.proofs.Ends.{bought_nothing, bought_at, finished_at}
use Rattle.nb_buy.proofs.buying.buy.Goals as goal

pub returns-in_default-clause-bought : goal.returns-in_default-clause-bought
returns-in_default-clause-bought g c =
    bought_nothing g.D.Disk.tells c.args.start.now (around c.args.journal.now c.args.consumer.now (g.L.Link.seen c.args.server.now) (g.L.Link.seen c.args.seller.now))

pub returns-in-Finished-clause-bought : goal.returns-in-Finished-clause-bought
returns-in-Finished-clause-bought g c =
    let traded = subst (λ (r : Result TradeEnd Lost). Trades g.D.Disk.tells c.args.start.now (point c.args.journal.now c.args.consumer.now (lines_of (g.L.Link.seen c.args.server.now) (g.L.Link.seen c.args.seller.now) c.in-Ok.sides)) (point c.trade-traded.new.journal c.trade-traded.new.consumer (lines_of (g.L.Link.seen c.trade-traded.new.server) (g.L.Link.seen c.trade-traded.new.seller) c.trade-traded.new.sides)) r) (ap Ok c.in-Finished.is) c.in-Ok-traded.ensures in
    bought_at g.D.Disk.tells c.args.start.now c.args.journal.now c.trade-traded.new.journal c.args.consumer.now c.trade-traded.new.consumer
    (g.L.Link.seen c.args.server.now) (g.L.Link.seen c.args.seller.now) (g.L.Link.seen c.trade-traded.new.server) (g.L.Link.seen c.trade-traded.new.seller)
    c.in-Ok.sides c.trade-traded.new.sides c.finish.result c.in-Ok.ensures
    (finished_at g.D.Disk.tells c.args.start.now
    (point c.args.journal.now c.args.consumer.now (lines_of (g.L.Link.seen c.args.server.now) (g.L.Link.seen c.args.seller.now) c.in-Ok.sides))
    (point c.trade-traded.new.journal c.trade-traded.new.consumer (lines_of (g.L.Link.seen c.trade-traded.new.server) (g.L.Link.seen c.trade-traded.new.seller) c.trade-traded.new.sides))
    c.in-Finished.opened (g.K.Sink.faults c.args.sink.now) (g.K.Sink.faults c.finish.new.sink) (g.K.Sink.sent c.args.sink.now) (g.K.Sink.sent c.finish.new.sink)
    c.finish.result c.finish.ensures.finishes c.finish.ensures.carried traded.0.0 traded.0.1)

pub returns-in-Stopped-clause-bought : goal.returns-in-Stopped-clause-bought
returns-in-Stopped-clause-bought g c =
    bought_at g.D.Disk.tells c.args.start.now c.args.journal.now c.trade-traded.new.journal c.args.consumer.now c.trade-traded.new.consumer
    (g.L.Link.seen c.args.server.now) (g.L.Link.seen c.args.seller.now) (g.L.Link.seen c.trade-traded.new.server) (g.L.Link.seen c.trade-traded.new.seller)
    c.in-Ok.sides c.trade-traded.new.sides (ends.Stopped c.in-Stopped.peer c.in-Stopped.why) c.in-Ok.ensures
    (subst (λ (r : Result TradeEnd Lost). Trades g.D.Disk.tells c.args.start.now (point c.args.journal.now c.args.consumer.now (lines_of (g.L.Link.seen c.args.server.now) (g.L.Link.seen c.args.seller.now) c.in-Ok.sides)) (point c.trade-traded.new.journal c.trade-traded.new.consumer (lines_of (g.L.Link.seen c.trade-traded.new.server) (g.L.Link.seen c.trade-traded.new.seller) c.trade-traded.new.sides)) r) (ap Ok c.in-Stopped.is) c.in-Ok-traded.ensures)

pub returns-in-Spent-clause-bought : goal.returns-in-Spent-clause-bought
returns-in-Spent-clause-bought g c =
    bought_at g.D.Disk.tells c.args.start.now c.args.journal.now c.trade-traded.new.journal c.args.consumer.now c.trade-traded.new.consumer
    (g.L.Link.seen c.args.server.now) (g.L.Link.seen c.args.seller.now) (g.L.Link.seen c.trade-traded.new.server) (g.L.Link.seen c.trade-traded.new.seller)
    c.in-Ok.sides c.trade-traded.new.sides (ends.Spent) c.in-Ok.ensures
    (subst (λ (r : Result TradeEnd Lost). Trades g.D.Disk.tells c.args.start.now (point c.args.journal.now c.args.consumer.now (lines_of (g.L.Link.seen c.args.server.now) (g.L.Link.seen c.args.seller.now) c.in-Ok.sides)) (point c.trade-traded.new.journal c.trade-traded.new.consumer (lines_of (g.L.Link.seen c.trade-traded.new.server) (g.L.Link.seen c.trade-traded.new.seller) c.trade-traded.new.sides)) r) (ap Ok c.in-Spent.is) c.in-Ok-traded.ensures)

pub returns-in-Err-clause-bought : goal.returns-in-Err-clause-bought
returns-in-Err-clause-bought g c =
    bought_at g.D.Disk.tells c.args.start.now c.args.journal.now c.trade-traded.new.journal c.args.consumer.now c.trade-traded.new.consumer
    (g.L.Link.seen c.args.server.now) (g.L.Link.seen c.args.seller.now) (g.L.Link.seen c.trade-traded.new.server) (g.L.Link.seen c.trade-traded.new.seller)
    c.in-Ok.sides c.trade-traded.new.sides (ends.Lost c.in-Err.why) c.in-Ok.ensures c.in-Err.ensures

use Rattle.std.proofs.Common.{arith}
use Rattle.nb_wire.proofs.Outgoing.{sent_more}
use Rattle.nb_buy.proofs.writing.write_out.Goals as goal

pub writing-preserved : goal.writing-preserved
writing-preserved g c = record {
  sent = sent_more (g.K.Sink.sent c.args.sink.now) (g.K.Sink.sent c.writing.sink) (g.K.Sink.sent c.write.new.self) c.args.bytes.now c.split_at.result.1.now c.writing.at c.in-Took.n c.writing.invariant.sent c.split_at.ensures.back c.in-Took.ensures.gives.2;
  count = omega (arith, c.writing.invariant.count, c.in-Took.ensures.count);
  within = omega (arith, c.split_at.ensures.back_len, c.in-Took.ensures.gives.1);
}

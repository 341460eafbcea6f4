use Rattle.std.proofs.Common.{arith}
use Rattle.nb_statement.proofs.Standing.{sent_more}
use Rattle.nb_statement.proofs.sending.send_all.Goals as goal

pub sending-preserved : goal.sending-preserved
sending-preserved g c = record {
  sent = sent_more (g.K.Sink.sent c.args.sink.now) (g.K.Sink.sent c.sending.sink) (g.K.Sink.sent c.write.new.self) c.args.text.now c.split_at.result.1.now c.sending.at c.in-Took.n c.sending.invariant.sent c.split_at.ensures.back c.in-Took.ensures.gives.2;
  count = omega (arith, c.sending.invariant.count, c.in-Took.ensures.count);
  within = omega (arith, c.split_at.ensures.back_len, c.in-Took.ensures.gives.1);
}

use Rattle.std.proofs.Common.{arith}
use Rattle.nb_wire.proofs.Outgoing.{sent_more, only_more}
use Rattle.nb_wire.proofs.sending.send.Goals as goal

pub sending-preserved : goal.sending-preserved
sending-preserved g c = record {
  sent = sent_more (g.L.Link.seen c.args.link.now).sent (g.L.Link.seen c.sending.link).sent (g.L.Link.seen c.write.new.self).sent c.args.bytes.now c.split_at.result.1.now c.sending.at c.in-Took.n c.sending.invariant.sent c.split_at.ensures.back c.in-Took.ensures.gives.2;
  only = only_more (g.L.Link.seen c.args.link.now) (g.L.Link.seen c.sending.link) (g.L.Link.seen c.write.new.self) c.sending.invariant.only
      (record { left = c.in-Took.ensures.left; reads = c.in-Took.ensures.told; read_faults = c.in-Took.ensures.other; count = c.in-Took.ensures.count });
  within = omega (arith, c.split_at.ensures.back_len, c.in-Took.ensures.gives.1);
}

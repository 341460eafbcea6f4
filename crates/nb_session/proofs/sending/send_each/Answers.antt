use Rattle.nb_wire.proofs.Incoming.{rose_from}
use Rattle.nb_session.proofs.Cutting.{sent_part}
use Rattle.nb_session.proofs.sending.send_each.Goals as goal

pub returns-in-Failed-clause-sent : goal.returns-in-Failed-clause-sent
returns-in-Failed-clause-sent g c = (
  rose_from (g.L.Link.seen c.args.link.now).write_faults (g.L.Link.seen c.sending.link).write_faults (g.L.Link.seen c.send.new.link).write_faults c.sending.invariant.only.count c.in-Failed.ensures.sent.0,
  sent_part (g.L.Link.seen c.args.link.now).sent (g.L.Link.seen c.sending.link).sent (g.L.Link.seen c.send.new.link).sent c.args.replies.now c.split_at.result.1.now c.split_at-in-sending.result.0.now c.sending.at c.first_len.result
      c.sending.invariant.sent c.split_at.ensures.back c.split_at-in-sending.ensures.front c.first_len.ensures.most c.in-Failed.ensures.sent.1,
)

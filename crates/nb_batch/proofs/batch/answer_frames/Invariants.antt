use Rattle.std.proofs.Common.{◌≤◌, vec_capacity}
use Rattle.nb_msgs.specs.declared.reply.TheConstants.{REPLY_ROOM}
use Rattle.nb_batch.proofs.Serving.{Ran}
use Rattle.nb_batch.proofs.batch.answer_frames.Given as goal

-- so many frames were answered, and each reply was sent
abbrev pub invariant-frames : goal.invariant-frames
invariant-frames g l = record {
  ran : Ran g.D.Disk.tells l.by l.frames l.fn.house l.house
      (record { left = g.S.Source.left l.fn.source; sent = g.K.Sink.sent l.fn.sink; moments = g.C.Clock.moments l.fn.clock })
      (record { left = g.S.Source.left l.source; sent = g.K.Sink.sent l.sink; moments = g.C.Clock.moments l.clock }) l.counter;
  room : REPLY_ROOM ≤ vec_capacity l.reply;
  disk : g.D.Disk.tells.faults l.fn.house.disk ≤ g.D.Disk.tells.faults l.house.disk;
  source : g.S.Source.faults l.fn.source ≤ g.S.Source.faults l.source;
  sink : g.K.Sink.faults l.fn.sink ≤ g.K.Sink.faults l.sink;
}

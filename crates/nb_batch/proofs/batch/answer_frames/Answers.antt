use Rattle.std.proofs.Common.{sym, subst, arith}
use Rattle.nb_frame.specs.State.{Collected}
use Rattle.nb_batch.specs.Batch.{Outside}
use Rattle.nb_batch.proofs.Serving.{Ran, ran_none, ran_more, ran_taken, ended, spent, unbegun}
use Rattle.nb_batch.proofs.Stepping.{leaves_now}
use Rattle.nb_batch.proofs.batch.answer_frames.Goals as goal

pub returns-in_default-clause-served : goal.returns-in_default-clause-served
returns-in_default-clause-served g c =
    unbegun g.D.Disk.tells c.args.by c.args.house.now (record { left = g.S.Source.left c.args.source.now; sent = g.K.Sink.sent c.args.sink.now; moments = g.C.Clock.moments c.args.clock.now })
    (leaves_now g.D.Disk.tells g.met.D.Disk.only_now c.args.house.now c.witness.ensures.keeps) c.witness.ensures.keeps

pub returns-in-Ended-clause-served : goal.returns-in-Ended-clause-served
returns-in-Ended-clause-served g c =
    let before : Outside = record { left = g.S.Source.left c.args.source.now; sent = g.K.Sink.sent c.args.sink.now; moments = g.C.Clock.moments c.args.clock.now } in
    let between : Outside = record { left = g.S.Source.left c.frames.source; sent = g.K.Sink.sent c.frames.sink; moments = g.C.Clock.moments c.frames.clock } in
    let after : Outside = record { left = g.S.Source.left c.answer_next.new.source; sent = g.K.Sink.sent c.answer_next.new.sink; moments = g.C.Clock.moments c.answer_next.new.clock } in
    ended g.D.Disk.tells c.args.by c.in-Ended.end c.frames.frames c.answer_next.new.frames c.args.house.now c.frames.house c.answer_next.new.house before between after c.frames.counter c.frames.invariant.ran (omega arith) c.bytes-waiting.ensures.bytes
    c.in-Ended.ensures.origin c.in-Ended.ensures.any_moment c.in-Ended.ensures.quiet c.in-Ended.ensures.keeps c.in-Ended.ensures.step

pub frames-preserved : goal.frames-preserved
frames-preserved g c =
    let before : Outside = record { left = g.S.Source.left c.args.source.now; sent = g.K.Sink.sent c.args.sink.now; moments = g.C.Clock.moments c.args.clock.now } in
    let between : Outside = record { left = g.S.Source.left c.frames.source; sent = g.K.Sink.sent c.frames.sink; moments = g.C.Clock.moments c.frames.clock } in
    let after : Outside = record { left = g.S.Source.left c.answer_next.new.source; sent = g.K.Sink.sent c.answer_next.new.sink; moments = g.C.Clock.moments c.answer_next.new.clock } in
    record {
      ran = ran_more g.D.Disk.tells c.args.by c.frames.frames c.answer_next.new.frames c.args.house.now c.frames.house c.answer_next.new.house before between after c.frames.counter c.frames.invariant.ran c.in-Answered.ensures.step.0
          c.in-Answered.ensures.origin c.in-Answered.ensures.any_moment c.in-Answered.ensures.quiet c.in-Answered.ensures.keeps c.in-Answered.ensures.step.1;
      room = omega (arith, c.frames.invariant.room, c.in-Answered.ensures.room);
      disk = omega (arith, c.frames.invariant.disk, c.in-Answered.ensures.disk);
      source = omega (arith, c.frames.invariant.source, c.in-Answered.ensures.source);
      sink = omega (arith, c.frames.invariant.sink, c.in-Answered.ensures.sink);
    }

pub returns-clause-served : goal.returns-clause-served
returns-clause-served g c =
    let before : Outside = record { left = g.S.Source.left c.args.source.now; sent = g.K.Sink.sent c.args.sink.now; moments = g.C.Clock.moments c.args.clock.now } in
    let after : Outside = record { left = g.S.Source.left c.frames.source; sent = g.K.Sink.sent c.frames.sink; moments = g.C.Clock.moments c.frames.clock } in
    spent g.D.Disk.tells c.args.by c.frames.frames c.args.house.now c.frames.house before after c.frames.counter (omega (arith, c.frames.auto.counter-end)) c.bytes-waiting-2.ensures.bytes c.frames.invariant.ran

pub frames-init : goal.frames-init
frames-init g c =
    let start : Outside = record { left = g.S.Source.left c.args.source.now; sent = g.K.Sink.sent c.args.sink.now; moments = g.C.Clock.moments c.args.clock.now } in
    record {
      ran = subst (λ (held : Collected). Ran g.D.Disk.tells c.args.by held c.args.house.now c.args.house.now start start 0) (sym c.in-Ok.ensures)
          (ran_none g.D.Disk.tells c.args.by c.args.house.now start (leaves_now g.D.Disk.tells g.met.D.Disk.only_now c.args.house.now c.witness.ensures.keeps) c.witness.ensures.keeps);
      room = omega (arith, c.in-Ok-with_capacity.ensures.capacity);
      disk = omega arith;
      source = omega arith;
      sink = omega arith;
    }

pub answer_next-requires-clause-near : goal.answer_next-requires-clause-near
answer_next-requires-clause-near g c =
    let before : Outside = record { left = g.S.Source.left c.args.source.now; sent = g.K.Sink.sent c.args.sink.now; moments = g.C.Clock.moments c.args.clock.now } in
    let between : Outside = record { left = g.S.Source.left c.frames.source; sent = g.K.Sink.sent c.frames.sink; moments = g.C.Clock.moments c.frames.clock } in
    omega (arith, ran_taken g.D.Disk.tells c.args.by c.frames.frames c.args.house.now c.frames.house before between c.frames.counter c.frames.invariant.ran)

pub returns-in_default-with_capacity-clause-served : goal.returns-in_default-with_capacity-clause-served
returns-in_default-with_capacity-clause-served g c =
    unbegun g.D.Disk.tells c.args.by c.args.house.now (record { left = g.S.Source.left c.args.source.now; sent = g.K.Sink.sent c.args.sink.now; moments = g.C.Clock.moments c.args.clock.now })
    (leaves_now g.D.Disk.tells g.met.D.Disk.only_now c.args.house.now c.witness.ensures.keeps) c.witness.ensures.keeps

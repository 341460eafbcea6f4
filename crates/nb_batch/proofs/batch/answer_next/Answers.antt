use Rattle.std.proofs.Common.{List, ℕ, sym, subst}
use Rattle.std.specs.Io.KnownBytes.{Appends}
use Rattle.nb_batch.specs.Send.{SentPart}
use Rattle.nb_batch.specs.Answering.{MayBeSent}
use Rattle.nb_batch.proofs.Stepping.{stepped_with}
use Rattle.nb_batch.proofs.batch.answer_next.Goals as goal

pub returns-in-All-clause-step : goal.returns-in-All-clause-step
returns-in-All-clause-step g c =
    stepped_with g.D.Disk.tells c.args.by c.args.frames.now c.next_frame.new.frames c.args.house.now c.answer_by.new.house c.in-Frame.f c.moment_for-moment.result c.body.result.now c.answer_by.new.reply.items _ _
    c.in-Frame.ensures.fetched.0 c.in-Frame.ensures.fetched.1 c.in-Frame.ensures.fetched.3 c.body.ensures c.moment_for-moment.ensures.asks c.answer_by.ensures.answers
    (λ (bytes : List ℕ). Appends (g.K.Sink.sent c.args.sink.now) (g.K.Sink.sent c.send_reply.new.sink) bytes)
    (subst (λ (bytes : List ℕ). Appends (g.K.Sink.sent c.args.sink.now) (g.K.Sink.sent c.send_reply.new.sink) bytes) c.as_slice.ensures.value c.in-All.ensures.sent)

pub returns-in-Failed-clause-step : goal.returns-in-Failed-clause-step
returns-in-Failed-clause-step g c =
    stepped_with g.D.Disk.tells c.args.by c.args.frames.now c.next_frame.new.frames c.args.house.now c.answer_by.new.house c.in-Frame.f c.moment_for-moment.result c.body.result.now c.answer_by.new.reply.items _ _
    c.in-Frame.ensures.fetched.0 c.in-Frame.ensures.fetched.1 c.in-Frame.ensures.fetched.3 c.body.ensures c.moment_for-moment.ensures.asks c.answer_by.ensures.answers
    (λ (bytes : List ℕ). SentPart (g.K.Sink.sent c.args.sink.now) (g.K.Sink.sent c.send_reply.new.sink) bytes)
    (subst (λ (bytes : List ℕ). SentPart (g.K.Sink.sent c.args.sink.now) (g.K.Sink.sent c.send_reply.new.sink) bytes) c.as_slice.ensures.value c.in-Failed.ensures.sent.1)

pub send_reply-requires : goal.send_reply-requires
send_reply-requires g c = record { durable = subst (MayBeSent g.D.Disk.tells c.args.by c.answer_by.new.house) (sym c.as_slice.ensures.value) c.answer_by.ensures.durable }

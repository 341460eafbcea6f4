use Rattle.std.proofs.Common.{◌≡◌, ℕ, ◌+◌, arith, None, Some, Ok, refl, subst, ◌∙◌}
use Rattle.nb_units.specs.Frames.{Frame}
use Rattle.nb_frame.specs.Collected.{frame_at}
use Rattle.nb_sell.specs.declared.peer.Peer.TheVariants.{House}
use Rattle.nb_sell.specs.Run.{Told, told_row}
use Rattle.nb_sell.specs.Sold.{Lines}
use Rattle.nb_sell.specs.Steps.{Answers, at, lines_of}
use Rattle.nb_trade.proofs.Going.{line_none, received_line}
use Rattle.nb_sell.proofs.Clocks.{gave_none}
use Rattle.nb_sell.proofs.Carrying.{frame_with, frame_is, step_short, listens_done, starved}
use Rattle.nb_sell.proofs.hearing.be_told.Goals as goal

none_more : (n : ℕ) → n ≡ n + 0
none_more n = omega arith

pub returns-in-End-clause-listens : goal.returns-in-End-clause-listens
returns-in-End-clause-listens g c = (
  None,
  (c.in-End.end, refl, record { line = c.in-End.ensures.fetches; other = refl; journal = refl; way = refl; clock = refl }),
  none_more c.args.sides.now.read,
)

pub act-done-requires-clause-short : goal.act-done-requires-clause-short
act-done-requires-clause-short g c =
    step_short c.args.merchant.now c.told.new.merchant (told_row c.args.merchant.now (frame_with c.in-Frame.f.kind c.body.result.now)) c.in-Ok.step c.in-Ok.ensures.answers

pub returns-in-Ok-clause-listens : goal.returns-in-Ok-clause-listens
returns-in-Ok-clause-listens g c =
    let clock = g.C.Clock.moments c.args._clock.now in
    let old : Lines = lines_of (g.M.Link.seen c.args.server.now) (g.L.Link.seen c.args.link.now) c.args.sides.now in
    let mid : Lines = lines_of (g.M.Link.seen c.fetch.new.link) (g.L.Link.seen c.args.link.now) (record c.args.sides.now { house = c.fetch.new.self }) in
    let new : Lines = lines_of (g.M.Link.seen c.act-done.new.server) (g.L.Link.seen c.act-done.new.link) c.act-done.new.sides in
    let f : Frame = frame_at c.fetch.new.self.frames.held c.in-Frame.f in
    let answers = subst (λ (x : Frame). Answers c.args.merchant.now c.told.new.merchant (told_row c.args.merchant.now x) (Ok c.in-Ok.step))
    (frame_is c.fetch.new.self.frames c.in-Frame.f c.body.result.now c.body.ensures) c.in-Ok.ensures.answers in
    listens_done g.D.Disk.tells (at c.args.journal.now c.args.merchant.now old clock c.args.sides.now.last (Some House))
    c.act-done.new.journal c.told.new.merchant new mid clock c.act-done.new.sides.last House (Told f) c.in-Ok.step c.act-done.result
    c.args.sides.now.read c.act-done.new.sides.read refl (c.act-done.ensures.readers.read ∙ none_more c.args.sides.now.read) answers c.act-done.ensures.readers.last
    (received_line old.house mid.house f c.in-Frame.ensures.fetches.fetches.0 c.in-Frame.ensures.fetches.sent) (line_none old.consumer)
    (gave_none clock) c.act-done.ensures.acts

pub returns-in-Err-clause-listens : goal.returns-in-Err-clause-listens
returns-in-Err-clause-listens g c =
    let clock = g.C.Clock.moments c.args._clock.now in
    let old : Lines = lines_of (g.M.Link.seen c.args.server.now) (g.L.Link.seen c.args.link.now) c.args.sides.now in
    let mid : Lines = lines_of (g.M.Link.seen c.fetch.new.link) (g.L.Link.seen c.args.link.now) (record c.args.sides.now { house = c.fetch.new.self }) in
    let f : Frame = frame_at c.fetch.new.self.frames.held c.in-Frame.f in (
      Told f,
      refl,
      starved g.D.Disk.tells (at c.args.journal.now c.args.merchant.now old clock c.args.sides.now.last (Some House))
          (at c.args.journal.now c.told.new.merchant mid clock c.args.sides.now.last None) (Told f) refl c.in-Err.ensures.answers.err
          (received_line old.house mid.house f c.in-Frame.ensures.fetches.fetches.0 c.in-Frame.ensures.fetches.sent) (line_none old.consumer) (gave_none clock),
    )

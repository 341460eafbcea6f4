use Rattle.std.proofs.Common.{◌≡◌, ℕ, ◌+◌, Option, arith, None, Some, Ok, refl, ap, subst, ◌∙◌}
use Rattle.nb_units.specs.Frames.{Frame}
use Rattle.nb_units.specs.declared.ids.PartyId.{PartyId}
use Rattle.nb_frame.specs.Collected.{frame_at}
use Rattle.nb_sell.specs.declared.peer.Peer.TheVariants.{Consumer}
use Rattle.nb_sell.specs.Run.{Hears, heard_row, frame_asker}
use Rattle.nb_sell.specs.Sold.{Lines}
use Rattle.nb_sell.specs.Steps.{Answers, Acts, at, lines_of}
use Rattle.nb_trade.proofs.Going.{line_none, received_line}
use Rattle.nb_sell.proofs.Clocks.{gave_one}
use Rattle.nb_sell.proofs.Carrying.{frame_with, frame_is, step_short, listens_done, starved}
use Rattle.nb_sell.proofs.hearing.hear.Goals as goal

none_more : (n : ℕ) → n ≡ n + 0
none_more n = omega arith

pub returns-in-End-clause-listens : goal.returns-in-End-clause-listens
returns-in-End-clause-listens g c = (
  None,
  (c.in-End.end, refl, record { line = c.in-End.ensures.fetches; other = refl; journal = refl; way = refl; clock = refl }),
  none_more c.args.sides.now.read,
)

pub act-done-requires-clause-short : goal.act-done-requires-clause-short
act-done-requires-clause-short g c =
    step_short c.args.merchant.now c.heard.new.merchant (heard_row c.args.merchant.now (frame_with c.in-Frame.f.kind c.body.result.now) c.now-moment.result) c.in-Ok.heard.step c.in-Ok.ensures.answers

pub returns-in-Ok-clause-listens : goal.returns-in-Ok-clause-listens
returns-in-Ok-clause-listens g c =
    let old : Lines = lines_of (g.M.Link.seen c.args.server.now) (g.L.Link.seen c.args.link.now) c.args.sides.now in
    let mid : Lines = lines_of (g.M.Link.seen c.args.server.now) (g.L.Link.seen c.fetch.new.link) (record c.args.sides.now { consumer = c.fetch.new.self }) in
    let new : Lines = lines_of (g.M.Link.seen c.act-done.new.server) (g.L.Link.seen c.act-done.new.link) c.act-done.new.sides in
    let f : Frame = frame_at c.fetch.new.self.frames.held c.in-Frame.f in
    let moment = c.now-moment.result in
    let same : frame_with c.in-Frame.f.kind c.body.result.now ≡ f = frame_is c.fetch.new.self.frames c.in-Frame.f c.body.result.now c.body.ensures in
    let answers = subst (λ (x : Frame). Answers c.args.merchant.now c.heard.new.merchant (heard_row c.args.merchant.now x moment) (Ok c.in-Ok.heard.step)) same c.in-Ok.ensures.answers in
    let whose : c.in-Ok.heard.asker ≡ frame_asker c.args.merchant.now f moment = c.in-Ok.ensures.asker ∙ ap (λ (x : Frame). frame_asker c.args.merchant.now x moment) same in
    listens_done g.D.Disk.tells (at c.args.journal.now c.args.merchant.now old (g.C.Clock.moments c.args.clock.now) c.args.sides.now.last (Some Consumer))
    c.act-done.new.journal c.heard.new.merchant new mid (g.C.Clock.moments c.now-moment.new.self) c.act-done.new.sides.last Consumer (Hears f moment) c.in-Ok.heard.step c.act-done.result
    c.args.sides.now.read c.act-done.new.sides.read refl c.act-done.ensures.readers.read answers (c.act-done.ensures.readers.last ∙ whose)
    (line_none old.house) (received_line old.consumer mid.consumer f c.in-Frame.ensures.fetches.fetches.0 c.in-Frame.ensures.fetches.sent)
    (gave_one (g.C.Clock.moments c.args.clock.now) (g.C.Clock.moments c.now-moment.new.self) moment c.now-moment.ensures.gives)
    (subst (λ (last : Option PartyId). Acts g.D.Disk.tells c.args.journal.now c.act-done.new.journal mid new last c.in-Ok.heard.step c.act-done.result) whose c.act-done.ensures.acts)

pub returns-in-Err-clause-listens : goal.returns-in-Err-clause-listens
returns-in-Err-clause-listens g c =
    let old : Lines = lines_of (g.M.Link.seen c.args.server.now) (g.L.Link.seen c.args.link.now) c.args.sides.now in
    let mid : Lines = lines_of (g.M.Link.seen c.args.server.now) (g.L.Link.seen c.fetch.new.link) (record c.args.sides.now { consumer = c.fetch.new.self }) in
    let f : Frame = frame_at c.fetch.new.self.frames.held c.in-Frame.f in
    let moment = c.now-moment.result in (
      Hears f moment,
      refl,
      starved g.D.Disk.tells (at c.args.journal.now c.args.merchant.now old (g.C.Clock.moments c.args.clock.now) c.args.sides.now.last (Some Consumer))
          (at c.args.journal.now c.heard.new.merchant mid (g.C.Clock.moments c.now-moment.new.self) c.args.sides.now.last None) (Hears f moment) refl c.in-Err.ensures.answers.err
          (line_none old.house) (received_line old.consumer mid.consumer f c.in-Frame.ensures.fetches.fetches.0 c.in-Frame.ensures.fetches.sent)
          (gave_one (g.C.Clock.moments c.args.clock.now) (g.C.Clock.moments c.now-moment.new.self) moment c.now-moment.ensures.gives),
    )

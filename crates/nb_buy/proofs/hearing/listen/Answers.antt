use Rattle.std.proofs.Common.{◌≡◌, ℕ, ◌+◌, arith, None, Some, Ok, Err, refl, sym, ap, subst, ◌∙◌}
use Rattle.nb_units.specs.Frames.{Frame}
use Rattle.nb_consumer.specs.Deeds.{Answers}
use Rattle.nb_buy.specs.Bought.{point}
use Rattle.nb_buy.specs.Lines.{Lines}
use Rattle.nb_buy.specs.Run.{Hears, frame_row, opened_by}
use Rattle.nb_buy.specs.Steps.{AreItsGoods, lines_of, next_heard}
use Rattle.nb_buy.proofs.Carrying.{step_short, carried, starved, went_still}
use Rattle.nb_buy.proofs.OverLines.{at_front, frame_with, frame_is, fetched_house, fetched_seller, none_house, none_seller}
use Rattle.nb_buy.proofs.Opened.{none_opened, goods_opened}
use Rattle.nb_buy.proofs.hearing.listen.Goals as goal

none_more : (n : ℕ) → n ≡ n + 0
none_more n = omega arith

pub returns-in-End-clause-listens : goal.returns-in-End-clause-listens
returns-in-End-clause-listens g c s =
    let old = lines_of (g.L.Link.seen c.args.server.now) (g.L.Link.seen c.args.seller.now) c.args.sides.now in
    let new = lines_of (g.L.Link.seen c.fetch.new.server) (g.L.Link.seen c.fetch.new.seller) c.fetch.new.sides in
    let fetched = c.in-End.ensures.fetched in (
      None,
      (
        went_still g.D.Disk.tells s (point c.args.journal.now c.args.consumer.now old) new
            (none_house c.args.from old new c.in-End.end fetched) (none_seller c.args.from old new c.in-End.end fetched),
        (c.in-End.end, refl, fetched.fetches.1),
      ),
      c.in-End.ensures.read ∙ none_more c.args.sides.now.read,
      refl,
    )

pub act-done-requires-clause-short : goal.act-done-requires-clause-short
act-done-requires-clause-short g c =
    step_short c.args.consumer.now c.hear.new.consumer (frame_row c.args.consumer.now (frame_with c.in-Frame.f.kind c.body.result.now)) c.in-Ok.step c.in-Ok.ensures.answers

pub returns-in-Ok-done-clause-listens : goal.returns-in-Ok-done-clause-listens
returns-in-Ok-done-clause-listens g c s =
    let old : Lines = lines_of (g.L.Link.seen c.args.server.now) (g.L.Link.seen c.args.seller.now) c.args.sides.now in
    let mid : Lines = lines_of (g.L.Link.seen c.fetch.new.server) (g.L.Link.seen c.fetch.new.seller) c.fetch.new.sides in
    let p = point c.args.journal.now c.args.consumer.now old in
    let q = point c.act-done.new.journal c.hear.new.consumer (lines_of (g.L.Link.seen c.act-done.new.server) (g.L.Link.seen c.act-done.new.seller) c.act-done.new.sides) in
    let f : Frame = at_front c.args.from mid c.in-Frame.f in
    let answers = subst (λ (x : Frame). Answers c.args.consumer.now c.hear.new.consumer (frame_row c.args.consumer.now x) (Ok c.in-Ok.step))
    (frame_is c.args.from (g.L.Link.seen c.fetch.new.server) (g.L.Link.seen c.fetch.new.seller) c.fetch.new.sides c.in-Frame.f c.body.result.now c.body.ensures) c.in-Ok.ensures.answers in
    let k = carried g.D.Disk.tells s p q mid c.args.from (Hears c.args.from f) c.in-Ok.step (Ok c.in-Ok-done.next) answers
    (fetched_house c.args.from old mid c.in-Frame.f c.in-Frame.ensures.fetched) (fetched_seller c.args.from old mid c.in-Frame.f c.in-Frame.ensures.fetched) c.in-Ok-done.ensures.acts in (
      Some f,
      (k.0, c.heard.ensures ∙ ap (next_heard c.args.from c.in-Frame.f.kind) k.1),
      c.act-done.ensures.readers.read ∙ c.in-Frame.ensures.read,
      c.opened_by-opened.ensures ∙ ap opened_by answers.told,
    )

pub returns-in-Err-done-clause-listens : goal.returns-in-Err-done-clause-listens
returns-in-Err-done-clause-listens g c s =
    let old : Lines = lines_of (g.L.Link.seen c.args.server.now) (g.L.Link.seen c.args.seller.now) c.args.sides.now in
    let mid : Lines = lines_of (g.L.Link.seen c.fetch.new.server) (g.L.Link.seen c.fetch.new.seller) c.fetch.new.sides in
    let p = point c.args.journal.now c.args.consumer.now old in
    let q = point c.act-done.new.journal c.hear.new.consumer (lines_of (g.L.Link.seen c.act-done.new.server) (g.L.Link.seen c.act-done.new.seller) c.act-done.new.sides) in
    let f : Frame = at_front c.args.from mid c.in-Frame.f in
    let answers = subst (λ (x : Frame). Answers c.args.consumer.now c.hear.new.consumer (frame_row c.args.consumer.now x) (Ok c.in-Ok.step))
    (frame_is c.args.from (g.L.Link.seen c.fetch.new.server) (g.L.Link.seen c.fetch.new.seller) c.fetch.new.sides c.in-Frame.f c.body.result.now c.body.ensures) c.in-Ok.ensures.answers in (
      f,
      carried g.D.Disk.tells s p q mid c.args.from (Hears c.args.from f) c.in-Ok.step (Err c.in-Err-done.why) answers
          (fetched_house c.args.from old mid c.in-Frame.f c.in-Frame.ensures.fetched) (fetched_seller c.args.from old mid c.in-Frame.f c.in-Frame.ensures.fetched) c.in-Err-done.ensures.acts,
    )

pub returns-in-Err-clause-listens : goal.returns-in-Err-clause-listens
returns-in-Err-clause-listens g c s =
    let old : Lines = lines_of (g.L.Link.seen c.args.server.now) (g.L.Link.seen c.args.seller.now) c.args.sides.now in
    let new : Lines = lines_of (g.L.Link.seen c.fetch.new.server) (g.L.Link.seen c.fetch.new.seller) c.fetch.new.sides in
    let f : Frame = at_front c.args.from new c.in-Frame.f in (
      f,
      starved g.D.Disk.tells s (point c.args.journal.now c.args.consumer.now old) (point c.args.journal.now c.hear.new.consumer new) (Hears c.args.from f) refl c.in-Err.ensures.answers.err
          (fetched_house c.args.from old new c.in-Frame.f c.in-Frame.ensures.fetched) (fetched_seller c.args.from old new c.in-Frame.f c.in-Frame.ensures.fetched),
    )

pub returns-in-Ok-done-clause-goods : goal.returns-in-Ok-done-clause-goods
returns-in-Ok-done-clause-goods g c s going =
    subst (AreItsGoods s c.hear.new.consumer) (sym c.opened_by-opened.ensures)
    (goods_opened s c.args.consumer.now c.hear.new.consumer (frame_with c.in-Frame.f.kind c.body.result.now) c.in-Ok.step c.in-Ok.ensures.answers going)

pub returns-in-End-clause-goods : goal.returns-in-End-clause-goods
returns-in-End-clause-goods g c s going = none_opened s c.args.consumer.now

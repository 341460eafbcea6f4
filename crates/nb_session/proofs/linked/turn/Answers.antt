use Rattle.std.proofs.Common.{eqb-true, ◌≡◌, ◌-◌, ℕ, List, length, refl, sym, subst, arith}
use Rattle.std.specs.Prelude.{min, vec_len}
use Rattle.std.proofs.lemmas.List.{length-map, nil_from_length}
use Rattle.nb_turn.specs.Passes.{sees}
use Rattle.nb_vault.specs.declared.answer.AskAt.{AskAt}
use Rattle.nb_vault.specs.Asking.{request_at, requests_of}
use Rattle.nb_turns.specs.declared.limits.TheConstants.{MAX_REQUESTS}
use Rattle.nb_session.specs.declared.ended.TheConstants.{MOST_FRAMES}
use Rattle.nb_session.specs.Steps.{AnswersTurn, GathersTo, LeftToSend, point}
use Rattle.nb_wire.specs.Sent.{Sends}
use Rattle.nb_session.proofs.Turning.{left_to_send, turn_none, turn_some}
use Rattle.nb_session.proofs.linked.turn.Goals as goal

pub returns-then-is_empty-clause-turn : goal.returns-then-is_empty-clause-turn
returns-then-is_empty-clause-turn g c =
    let most : c.min-most.result ≡ min (MOST_FRAMES - length c.args.work.now.moments.items) MAX_REQUESTS = omega (arith, c.min-most.ensures, c.len.ensures) in
    turn_none g.D.Disk.tells c.args.pass.number
    (point (sees c.args.pass) (g.L.Link.seen c.args.link.now) (g.C.Clock.moments c.args.clock.now) c.args.work.now.frames c.args.work.now.moments.items c.args.work.now.marks.items)
    (point (sees c.args.pass) (g.L.Link.seen c.args.link.now) (g.C.Clock.moments c.gather-gathered.new.clock) c.gather-gathered.new.frames c.gather-gathered.new.moments.items c.args.work.now.marks.items)
    c.gather-gathered.result c.gather-gathered.new.frames.held c.gather-gathered.new.asks.items (nil_from_length c.gather-gathered.new.asks.items (omega (arith, eqb-true (vec_len c.gather-gathered.new.asks) 0 (sym c.if-is_empty.ensures))))
    c.gather-gathered.ensures.gathers (subst (λ (m : ℕ). GathersTo c.gather-gathered.new.frames (length c.gather-gathered.new.asks.items) m c.gather-gathered.result) most c.gather-gathered.ensures.to) refl refl refl

pub returns-clause-turn : goal.returns-clause-turn
returns-clause-turn g c =
    let most : c.min-most.result ≡ min (MOST_FRAMES - length c.args.work.now.moments.items) MAX_REQUESTS = omega (arith, c.min-most.ensures, c.len.ensures) in
    let answers = subst (λ (x : List ℕ × List AskAt). AnswersTurn g.D.Disk.tells c.args.pass.number (sees c.args.pass) (sees c.answer-pass.result) (requests_of x.0 x.1) c.args.work.now.marks.items c.answer-pass.new.marks.items c.answer-pass.new.out.items)
    (λ i. (c.bytes-2.ensures.held i, c.as_slice-2.ensures.value i)) c.answer-pass.ensures.answers in
    turn_some g.D.Disk.tells c.args.pass.number
    (point (sees c.args.pass) (g.L.Link.seen c.args.link.now) (g.C.Clock.moments c.args.clock.now) c.args.work.now.frames c.args.work.now.moments.items c.args.work.now.marks.items)
    (point (sees c.answer-pass.result) (g.L.Link.seen c.send_replies-sent.new.link) (g.C.Clock.moments c.gather-gathered.new.clock) c.gather-gathered.new.frames c.gather-gathered.new.moments.items c.answer-pass.new.marks.items)
    c.gather-gathered.result (requests_of c.gather-gathered.new.frames.held c.gather-gathered.new.asks.items) (length c.gather-gathered.new.asks.items) c.answer-pass.new.out.items c.send_replies-sent.result
    (sym (length-map c.gather-gathered.new.asks.items (λ (ask : AskAt). request_at c.gather-gathered.new.frames.held ask)))
    c.gather-gathered.ensures.gathers (subst (λ (m : ℕ). GathersTo c.gather-gathered.new.frames (length c.gather-gathered.new.asks.items) m c.gather-gathered.result) most c.gather-gathered.ensures.to)
    answers (subst (λ (bs : List ℕ). Sends (g.L.Link.seen c.args.link.now) (g.L.Link.seen c.send_replies-sent.new.link) bs c.send_replies-sent.result) c.as_slice-3.ensures.value c.send_replies-sent.ensures.sent) c.send_replies-sent.ensures.only

pub send_replies-sent-requires : goal.send_replies-sent-requires
send_replies-sent-requires g c =
    let left = left_to_send g.D.Disk.tells c.args.pass.number (sees c.args.pass) (sees c.answer-pass.result) _ _ _ _ c.answer-pass.ensures.answers in
    record {
      durable = subst (λ (x : ℕ × List ℕ). LeftToSend g.D.Disk.tells x.0 (sees c.answer-pass.result) x.1) (λ i. (sym c.answer-pass.ensures.number i, sym c.as_slice-3.ensures.value i)) left;
    }

use Rattle.std.proofs.Common.{rules, ◌∙◌, sym, ap, subst}
use Rattle.nb_turn.specs.Views.{Settled}
use Rattle.nb_turn.specs.Seats.{IsPass}
use Rattle.nb_turn.proofs.Steps.{settles_as}
use Rattle.nb_turn.proofs.Joining.{joins_seats}
use Rattle.nb_turn.proofs.Passing.{joined_pass, joined_begins}
use Rattle.nb_turn.proofs.types.Turn.join.Goals as goal

pub join_seat-requires : goal.join_seat-requires
join_seat-requires g c =
    let t = g.T.Chronicle in
    (search rules, search rules, search rules, search rules, joins_seats t.origin t.history t.maker _ _ _ _ _ c.args.first.is_pass.idle c.args.second.is_pass.idle)

pub load-requires : goal.load-requires
load-requires g c =
    let t = g.T.Chronicle in
    (search rules, search rules, settles_as t.origin t.history t.maker _ _ _ _ c.args.self.now.sized.1)

pub invariant_of-result : goal.invariant_of-result
invariant_of-result g c =
    let same = c.load.ensures.2.1 ∙ ap (λ m. m.0) c.join_seat.ensures.2 in
    let empty = c.load.ensures.2.0 ∙ ap (λ m. m.1) c.join_seat.ensures.2 ∙ c.args.first.is_pass.empty in
    let settled = subst (Settled g.T.Chronicle.maker) (sym c.load.ensures.2.1) c.load.ensures.2.2 in
    let pass = joined_pass g.T.Chronicle.maker c.args.first.seat.me c.args.second.seat.me c.load.new.seat.me _ _ _ _ c.args.first.is_pass c.args.second.is_pass empty same settled in
    record { is_pass = subst (λ k. IsPass g.T.Chronicle.maker c.load.new.seat.me c.args.first.number k) (sym c.max.ensures) pass }

pub returns-clause-begins : goal.returns-clause-begins
returns-clause-begins g c =
    let same = c.load.ensures.2.1 ∙ ap (λ m. m.0) c.join_seat.ensures.2 in
    let settled = subst (Settled g.T.Chronicle.maker) (sym c.load.ensures.2.1) c.load.ensures.2.2 in
    joined_begins g.T.Chronicle.maker c.args.first.seat.me c.args.second.seat.me c.load.new.seat.me _ _ _ _ c.args.first.is_pass c.args.second.is_pass same settled

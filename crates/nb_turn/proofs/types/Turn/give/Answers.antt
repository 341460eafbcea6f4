use Rattle.std.proofs.Common.{rules, ◌<◌, ◌≤◌, ◌^◌, ◌∷◌, Some, length, ◌∙◌, sym, ap, subst, arith}
use Rattle.atomic_table.specs.Table.{rest}
use Rattle.nb_turn.specs.Views.{gave, Settled}
use Rattle.nb_turn.specs.Seats.{IsPass}
use Rattle.nb_turn.proofs.Steps.{frees_as}
use Rattle.nb_turn.proofs.Passing.{given_pass}
use Rattle.nb_turn.proofs.Giving.{next_line, counted_one, counted_all}
use Rattle.nb_turn.proofs.types.Turn.give.Goals as goal

pub count_line-requires-clause-next : goal.count_line-requires-clause-next
count_line-requires-clause-next g c =
    let lines = g.T.Chronicle.history c.args.held.value in
    let within : c.loop.counter < length lines = omega (arith, c.loop-test.true, c.lines-total.ensures) in
    let room : length lines < 2 ^ 64 = omega (arith, c.lines-total.type_inv, c.lines-total.ensures) in
    next_line g.T.Chronicle.maker c.args.held.hold.seat.me c.loop.seat.me c.args.held.hold.number c.args.held.hold.seen c.loop.counter lines c.args.held.hold.is_held c.loop.auto.counter within room c.requires.made c.loop.invariant.view

pub loop-preserved : goal.loop-preserved
loop-preserved g c =
    let lines = g.T.Chronicle.history c.args.held.value in
    let within : c.loop.counter < length lines = omega (arith, c.loop-test.true, c.lines-total.ensures) in
    record {
      turn = c.count_line.ensures.0 ∙ c.loop.invariant.turn;
      slot = c.count_line.ensures.1 ∙ c.loop.invariant.slot;
      view = counted_one g.T.Chronicle.maker c.args.held.hold.seat.me c.loop.seat.me c.args.held.hold.number c.args.held.hold.seen c.loop.counter lines c.count_line.new.seat.me.0 c.loop.invariant.view within c.count_line.ensures.2;
    }

pub swap-requires : goal.swap-requires
swap-requires g c =
    let t = g.T.Chronicle in
    let value = c.args.held.value in
    let whole : length (t.history value) ≤ c.loop.counter = omega (arith, c.loop-test.false, c.lines-total.ensures) in
    let all = counted_all t.maker c.args.held.hold.seat.me c.loop.seat.me c.args.held.hold.number c.args.held.hold.seen c.loop.counter (t.history value) c.loop.invariant.view whole in
    let view = ap (λ m. m.0) c.exchange.ensures.3 ∙ all in (
      search rules,
      search rules,
      frees_as t.origin t.history t.maker _ _ _ _ c.args.self.now.sized.1 value
          (ap (λ m. m.1) c.exchange.ensures.3 ∙ ap (λ l. (0, Some value) ∷ rest l) c.loop.invariant.slot)
          (ap (λ v. v.holds) view ∙ c.args.held.hold.is_held.holding) (ap (λ v. v.origin) view ∙ c.requires.origin) (sym (ap (λ v. v.seen) view)),
    )

pub invariant_of-result : goal.invariant_of-result
invariant_of-result g c =
    let t = g.T.Chronicle in
    let lines = t.history c.args.held.value in
    let whole : length lines ≤ c.loop.counter = omega (arith, c.loop-test.false, c.lines-total.ensures) in
    let all = counted_all t.maker c.args.held.hold.seat.me c.loop.seat.me c.args.held.hold.number c.args.held.hold.seen c.loop.counter lines c.loop.invariant.view whole in
    let view = ap (λ m. m.0) c.exchange.ensures.3 ∙ all in
    let pass = given_pass t.maker c.args.held.hold.seat.me c.swap.new.seat.me lines c.args.held.hold.number c.args.held.hold.seen c.args.held.hold.is_held c.swap.ensures.2.0
    (c.swap.ensures.2.1 ∙ ap gave view) (subst (Settled t.maker) view c.swap.ensures.2.2) in
    record { is_pass = subst (λ k. IsPass t.maker c.swap.new.seat.me c.args.held.hold.number k) (sym c.lines-total.ensures) pass }

use Rattle.std.proofs.Common.{rules, ◌≡◌, ◌∷◌, Some, sym, ap, ◌∙◌, arith}
use Rattle.atomic_table.specs.Table.{rest}
use Rattle.nb_turn.proofs.Steps.{takes_as}
use Rattle.nb_turn.proofs.Passing.{found_pass}
use Rattle.nb_turn.proofs.types.Turn.try_take.Goals as goal

pub swap-word-requires : goal.swap-word-requires
swap-word-requires g c =
    let t = g.T.Chronicle in
    (search rules, search rules, takes_as t.origin t.history t.maker _ _ _ _ c.args.self.now.sized.1 _ _ c.args.pass.is_pass)

pub invariant_of-result : goal.invariant_of-result
invariant_of-result g c =
    let one : c.swap-word.result ≡ 1 = omega (arith, c.swap-word.ensures.2.0, c.if-word-ne-FREE.true) in
    let found = c.swap-word.ensures.2.2 one in
    record { is_pass = found_pass g.T.Chronicle.maker c.args.pass.seat.me _ _ _ 0 1 c.args.pass.is_pass found.0 found.1 }

pub exchange-requires : goal.exchange-requires
exchange-requires g c =
    let t = c.swap-word.ensures.2.1 c.if-word-ne-FREE.false in
    (search rules, (Some t.0, t.1 ∙ ap (λ l. (0, Some t.0) ∷ rest l) (sym t.1)))

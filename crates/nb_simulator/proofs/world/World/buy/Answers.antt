use Rattle.std.proofs.Common.{◌≤◌, ◌<◌, ℕ, List, length, refl, sym, subst, ◌∙◌, arith}
use Rattle.nb_units.specs.declared.limits.TheConstants.{MAX_MEMO}
use Rattle.nb_body.specs.declared.limits.TheConstants.{MAX_REQUEST}
use Rattle.nb_simulator.proofs.Nodes.{buy_unknown, buy_long_request, buy_long_memo}
use Rattle.nb_simulator.proofs.world.World.buy.Goals as goal

pub returns-in-None-clause-world : goal.returns-in-None-clause-world
returns-in-None-clause-world c = rw (← c.self.view_is) (buy_unknown _ _ c.args.id c.args.start.now (sym c.find.ensures.found ∙ c.in-None.is), refl)

pub returns-then-as_slice-gt-MAX_REQUEST-clause-world : goal.returns-then-as_slice-gt-MAX_REQUEST-clause-world
returns-then-as_slice-gt-MAX_REQUEST-clause-world c =
    let long : MAX_REQUEST < length c.args.start.now.request = subst (λ (xs : List ℕ). MAX_REQUEST < length xs) c.as_slice.ensures.value (omega (arith, c.if-as_slice-gt-MAX_REQUEST.true)) in
    rw (← c.self.view_is) (buy_long_request _ _ c.args.id c.args.start.now c.in-Some.i (sym c.find.ensures.found ∙ c.in-Some.is) long, refl)

pub returns-then-as_slice-gt-MAX_MEMO-clause-world : goal.returns-then-as_slice-gt-MAX_MEMO-clause-world
returns-then-as_slice-gt-MAX_MEMO-clause-world c =
    let request : length c.args.start.now.request ≤ MAX_REQUEST = subst (λ (xs : List ℕ). length xs ≤ MAX_REQUEST) c.as_slice.ensures.value (omega (arith, c.if-as_slice-gt-MAX_REQUEST.false)) in
    let long : MAX_MEMO < length c.args.start.now.memo = subst (λ (xs : List ℕ). MAX_MEMO < length xs) c.as_slice-2.ensures.value (omega (arith, c.if-as_slice-gt-MAX_MEMO.true)) in
    rw (← c.self.view_is) (buy_long_memo _ _ c.args.id c.args.start.now c.in-Some.i (sym c.find.ensures.found ∙ c.in-Some.is) request long, refl)

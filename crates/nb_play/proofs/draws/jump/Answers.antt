use Rattle.std.proofs.Common.{◌≡◌, ℕ, ◌/◌, sym, subst, ◌∙◌}
use Rattle.nb_play.specs.Draws.{number}
use Rattle.nb_play.proofs.Jumping.{squared, doubled, halved_even, halved_odd, no_steps}
use Rattle.nb_play.proofs.draws.jump.Goals.{then-left-eq1, else-left-eq1}
use Rattle.nb_play.proofs.draws.jump.Goals as goal

pub jumping-preserved : goal.jumping-preserved
jumping-preserved c =
    let a = c.jumping.factor in
    let s = c.jumping.summand in
    let P : ℕ → Type 0 = λ at. number (squared a) (doubled a s) at (c.jumping.left / 2) ≡ number c.args.multiplier c.args.increment c.args.from c.args.steps in
    elim c.if-left-eq1.branch [
      | then-left-eq1 w ↦ subst P (sym w.at-is) (halved_odd a s c.jumping.at c.jumping.left w.if-left-eq1.true ∙ c.jumping.invariant)
      | else-left-eq1 w ↦ subst P (sym w.at-is) (halved_even a s c.jumping.at c.jumping.left w.if-left-eq1.false ∙ c.jumping.invariant)
    ]

pub returns : goal.returns
returns c = no_steps c.jumping.factor c.jumping.summand c.jumping.at c.jumping.left _ c.jumping-test.false c.jumping.invariant

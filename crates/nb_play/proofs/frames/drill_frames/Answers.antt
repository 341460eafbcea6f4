use Rattle.std.proofs.Common.{◌≡◌, ℕ, List, subst, arith}
use Rattle.std.specs.Prelude.{IfOk}
use Rattle.nb_play.proofs.Framing.{funds}
use Rattle.nb_play.proofs.frames.drill_frames.Goals as goal

pub returns-then-i : goal.returns-then-i
returns-then-i c =
    subst (λ (bytes : List ℕ). IfOk c.fund_frame.result (λ blob. blob ≡ bytes)) (funds c.args.seed c.args.i (omega (arith, c.if-i-lt-PARTIES.false)) (omega (arith, c.if-i.true))) c.fund_frame.ensures

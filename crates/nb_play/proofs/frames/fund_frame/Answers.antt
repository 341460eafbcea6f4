use Rattle.std.proofs.Common.{◌≡◌, ℕ, List, subst}
use Rattle.std.specs.Prelude.{IfOk}
use Rattle.nb_units.specs.Frames.{frame}
use Rattle.nb_units.specs.declared.frames.TheConstants.{FUND_REQUEST}
use Rattle.nb_body.specs.declared.funding.Funding.{Funding}
use Rattle.nb_body.specs.Spelling.{funding_bytes}
use Rattle.nb_play.proofs.frames.fund_frame.Goals as goal

pub returns : goal.returns
returns c =
    let P : List ℕ → Type 0 = λ body. IfOk c.framed.result (λ blob. blob ≡ frame (record { kind = FUND_REQUEST; body = body })) in
    subst (λ (f : Funding). P (funding_bytes f)) c.funding.ensures.money (subst P c.spelled.ensures.bytes c.framed.ensures)

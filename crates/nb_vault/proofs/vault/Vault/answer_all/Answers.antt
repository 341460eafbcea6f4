use Rattle.std.proofs.Common.{◌⊎◌, ◌++◌, ℕ, List, length, ap, subst, ◌∙◌, arith}
use Rattle.nb_journal.specs.Time.{LeavesOnly}
use Rattle.nb_vault.specs.Asking.{requests_of}
use Rattle.nb_vault.specs.Parts.{handed_in, seen_as}
use Rattle.nb_vault.specs.Vaults.{Chronicled, StandsForState, TurnOf}
use Rattle.nb_msgs.specs.ReplyBytes.{joined}
use Rattle.nb_vault.proofs.Alone.{behind}
use Rattle.nb_vault.proofs.Seeing.{keeps}
use Rattle.nb_vault.proofs.Verdicts.{places_fit}
use Rattle.nb_vault.proofs.vault.Vault.answer_all.Goals as goal

pub hand_out-requires : goal.hand_out-requires
hand_out-requires g c =
    let fit = places_fit g.D.Disk.tells _ _ c.args.by c.args.bytes.now c.args.asks.now c.answer_all-answer.new.self.records.places.items _ _ c.answer_all-answer.result c.answer_all-answer.ensures.turn in
    omega (arith, c.requires.places, fit, ap (λ (xs : List ℕ). length (handed_in xs c.answer_all-answer.result)) c.as_slice.ensures.value)

pub returns-clause-keeps : goal.returns-clause-keeps
returns-clause-keeps g c = keeps g.D.Disk.tells c.answer_all-answer.new.self c.answer_all-answer.ensures.vault

pub returns-clause-any_moment : goal.returns-clause-any_moment
returns-clause-any_moment g c =
    subst (λ (v : Chronicled _). LeavesOnly g.D.Disk.tells v.disk c.answer_all-answer.new.self.records.journal.disk (λ image. StandsForState v image ⊎ StandsForState (seen_as c.answer_all-answer.new.self) image)) c.self.view_is
    c.answer_all-answer.ensures.any_moment

pub returns-clause-turn : goal.returns-clause-turn
returns-clause-turn g c =
    let new = c.answer_all-answer.new.self in
    let answer = c.answer_all-answer.result in
    let found : List ℕ = handed_in new.records.places.items answer in (
      found,
      c.hand_out.ensures.items ∙ ap (λ (xs : List ℕ). c.args.ats.now.items ++ handed_in xs answer) c.as_slice.ensures.value,
      subst (λ (v : Chronicled _). TurnOf g.D.Disk.tells v (seen_as new) c.args.by (requests_of c.args.bytes.now c.args.asks.now) found c.args.out.now.items c.write_each.new.out.items answer) c.self.view_is
          (behind g.D.Disk.tells _ _ c.args.by _ found c.args.out.now.items _ _ (c.write_each.ensures.bytes ∙ ap (λ (ds : List (List ℕ)). c.args.out.now.items ++ joined ds) c.as_slice-2.ensures.value) answer c.answer_all-answer.ensures.turn),
    )

use Rattle.std.proofs.Common.{◌≡◌, ◌⊎◌, ◌∷◌, ◌++◌, [], ℕ, List, length, arith, sym, ap, subst, ◌∙◌}
use Rattle.std.specs.Prelude.{slice_index_or}
use Rattle.std.proofs.lemmas.List.{take_all}
use Rattle.nb_journal.specs.Time.{LeavesOnly}
use Rattle.nb_turns.specs.Turns.{Request}
use Rattle.nb_vault.specs.declared.answer.Answer.{Answer}
use Rattle.nb_vault.specs.Asking.{request_of}
use Rattle.nb_vault.specs.Parts.{one_of, seen_as}
use Rattle.nb_vault.specs.Vaults.{Chronicled, StandsForState, TurnOf, all_of, place_in}
use Rattle.nb_msgs.specs.ReplyBytes.{joined}
use Rattle.nb_vault.proofs.Alone.{answered_alone, behind}
use Rattle.nb_vault.proofs.Seeing.{keeps}
use Rattle.nb_vault.proofs.vault.Vault.answer.Goals as goal

pub returns-clause-keeps : goal.returns-clause-keeps
returns-clause-keeps g c = keeps g.D.Disk.tells c.answer_all-answer.new.self c.answer_all-answer.ensures.vault

pub returns-clause-any_moment : goal.returns-clause-any_moment
returns-clause-any_moment g c =
    subst (λ (v : Chronicled _). LeavesOnly g.D.Disk.tells v.disk c.answer_all-answer.new.self.records.journal.disk (λ image. StandsForState v image ⊎ StandsForState (seen_as c.answer_all-answer.new.self) image)) c.self.view_is
    c.answer_all-answer.ensures.any_moment

pub returns-clause-turn : goal.returns-clause-turn
returns-clause-turn g c =
    let tells = g.D.Disk.tells in
    let old = seen_as c.self.inside.parts in
    let new = seen_as c.answer_all-answer.new.self in
    let answer = c.answer_all-answer.result in
    let places = c.answer_all-answer.new.self.records.places.items in
    let body = c.args.body.now in
    let request : Request = request_of c.args.kind body c.args.moment in
    let told : c.of_one.result ≡ one_of answer (slice_index_or places 0 0) = c.of_one.ensures ∙ ap (one_of answer) c.first_place.ensures in
    subst (λ (v : Chronicled _). TurnOf tells v new c.args.by (request ∷ []) (place_in c.of_one.result) c.args.out.now.items c.write_each.new.out.items (all_of c.of_one.result)) c.self.view_is
    (subst (λ (a : Answer). TurnOf tells old new c.args.by (request ∷ []) (place_in a) c.args.out.now.items c.write_each.new.out.items (all_of a)) (sym told)
    (answered_alone tells old new c.args.by request places c.args.out.now.items c.write_each.new.out.items _ answer
    (ap (λ (b : List ℕ). request_of c.args.kind b c.args.moment ∷ []) (take_all (length body) body (omega arith)))
    (behind tells _ _ c.args.by _ _ c.args.out.now.items _ _ (c.write_each.ensures.bytes ∙ ap (λ (ds : List (List ℕ)). c.args.out.now.items ++ joined ds) c.as_slice.ensures.value) answer c.answer_all-answer.ensures.turn)))

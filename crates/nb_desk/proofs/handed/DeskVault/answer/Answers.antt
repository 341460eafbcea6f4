use Rattle.std.proofs.Common.{[], ◌∷◌, subst}
use Rattle.nb_vault.specs.Asking.{request_of}
use Rattle.nb_vault.specs.Vaults.{Chronicled, all_of, place_in}
use Rattle.nb_desk.specs.Answers.{Answers}
use Rattle.nb_desk.proofs.handed.DeskVault.answer.Goals as goal

pub returns-clause-answers : goal.returns-clause-answers
returns-clause-answers g c =
    let e = c.answer-answer.ensures in
    let r = c.answer-answer.result in
    subst (λ (v : Chronicled _). Answers g.D.Disk.tells v c.answer-answer.new.self c.args.by (request_of c.args.kind c.args.body.now c.args.moment ∷ []) (place_in r) c.args.out.now.items c.answer-answer.new.out.items (all_of r)) c.self.view_is
    (record { kept = c.witness.ensures.keeps; keeps = e.keeps; turn = e.turn; origin = e.origin; any_moment = e.any_moment; durable = e.durable; quiet = e.quiet; same = e.same; fault = e.fault; count = e.count })

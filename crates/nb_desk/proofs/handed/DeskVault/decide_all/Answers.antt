use Rattle.std.proofs.Common.{◌≡◌, ◌++◌, [], ℕ, List, subst}
use Rattle.nb_msgs.specs.ReplyBytes.{joined}
use Rattle.nb_vault.specs.Asking.{requests_of}
use Rattle.nb_vault.specs.Vaults.{Chronicled}
use Rattle.nb_desk.specs.Answers.{Answers}
use Rattle.nb_desk.proofs.handed.DeskVault.decide_all.Goals as goal

pub returns-clause-answers : goal.returns-clause-answers
returns-clause-answers g c =
    let e = c.decide_all-answer.ensures in
    subst (λ (v : Chronicled _). (found : List ℕ) × (c.decide_all-answer.new.ats.items ≡ c.args.ats.now.items ++ found)
    × Answers g.D.Disk.tells v c.decide_all-answer.new.self c.args.by (requests_of c.args.bytes.now c.args.asks.now) found [] (joined c.decide_all-answer.new.drafts.items) c.decide_all-answer.result) c.self.view_is
    (e.turn.0, e.turn.1, record { kept = c.witness.ensures.keeps; keeps = e.keeps; turn = e.turn.2; origin = e.origin; any_moment = e.any_moment; durable = e.durable; quiet = e.quiet; same = e.same; fault = e.fault; count = e.count })

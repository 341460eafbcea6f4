use Rattle.std.proofs.Common.{◌≡◌, [], ◌∷◌, ℕ, length, drop, sym, ap, ◌∙◌, subst}
use Rattle.std.specs.List.{AllByRecursion}
use Rattle.nb_turns.specs.declared.line.Line.{Line}
use Rattle.nb_turns.specs.Lines.{maker_of}
use Rattle.nb_vault.specs.Asking.{request_of}
use Rattle.nb_vault.specs.Vaults.{Chronicled, all_of, place_in}
use Rattle.nb_turn.specs.Passes.{held_sees, sees}
use Rattle.nb_desk.specs.declared.asked.Asked.{Asked}
use Rattle.nb_desk.specs.Answers.{AnswersAs, AnswersHeld}
use Rattle.nb_desk.specs.Asks.{all_asked, place_asked}
use Rattle.nb_desk.proofs.Turning.{gives_back, held_one}
use Rattle.nb_desk.proofs.desk.Desk.ask_held.Goals as goal

pub give-requires-clause-begins : goal.give-requires-clause-begins
give-requires-clause-begins g c = (gives_back g.D.Disk.tells c.value.result.now c.answer-answer.new.self c.number-by.result (request_of c.args.kind c.args.body.now c.args.moment ∷ []) (place_in c.answer-answer.result) c.args.out.now.items c.answer-answer.new.out.items c.args.held.hold.seat.me.0.seen (all_of c.answer-answer.result) (ap (λ (v : Chronicled _). v.lines) c.value.ensures.now ∙ c.requires.lines) c.answer-answer.ensures.answers.turn).0

pub give-requires-clause-made : goal.give-requires-clause-made
give-requires-clause-made g c =
    subst (λ (n : ℕ). AllByRecursion (λ (l : Line). maker_of l ≡ n) (drop (length c.args.held.hold.seat.me.0.seen) c.answer-answer.new.self.lines)) c.number-by.ensures.number (gives_back g.D.Disk.tells c.value.result.now c.answer-answer.new.self c.number-by.result (request_of c.args.kind c.args.body.now c.args.moment ∷ []) (place_in c.answer-answer.result) c.args.out.now.items c.answer-answer.new.out.items c.args.held.hold.seat.me.0.seen (all_of c.answer-answer.result) (ap (λ (v : Chronicled _). v.lines) c.value.ensures.now ∙ c.requires.lines) c.answer-answer.ensures.answers.turn).1

pub returns-clause-answers : goal.returns-clause-answers
returns-clause-answers g c =
    let answered = subst (λ (x : Chronicled _ × ℕ). AnswersAs g.D.Disk.tells x.0 x.1 (held_sees c.args.held) (sees c.give.result) (request_of c.args.kind c.args.body.now c.args.moment ∷ []) (place_in c.answer-answer.result) c.args.out.now.items c.answer-answer.new.out.items (all_of c.answer-answer.result)) (λ i. (c.value.ensures.now i, c.number-by.ensures.number i)) (c.answer-answer.new.self, c.answer-answer.ensures.answers, c.give.ensures.view) in
    let told = held_one g.D.Disk.tells c.args.held.value c.args.held.hold.number (held_sees c.args.held) (sees c.give.result) (request_of c.args.kind c.args.body.now c.args.moment ∷ []) c.args.out.now.items c.answer-answer.new.out.items c.answer-answer.result answered in
    subst (λ (r : Asked). AnswersHeld g.D.Disk.tells c.args.held.value c.args.held.hold.number (held_sees c.args.held) (sees c.give.result) (request_of c.args.kind c.args.body.now c.args.moment ∷ []) (place_asked r) c.args.out.now.items c.answer-answer.new.out.items (all_asked r)) (sym c.of.ensures) told

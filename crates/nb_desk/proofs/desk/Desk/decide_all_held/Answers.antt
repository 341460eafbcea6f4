use Rattle.std.proofs.Common.{◌≡◌, [], ℕ, length, drop, sym, ap, ◌∙◌, subst}
use Rattle.std.specs.List.{AllByRecursion}
use Rattle.nb_turns.specs.declared.line.Line.{Line}
use Rattle.nb_turns.specs.Lines.{maker_of}
use Rattle.nb_msgs.specs.ReplyBytes.{joined}
use Rattle.nb_vault.specs.Asking.{requests_of}
use Rattle.nb_vault.specs.Vaults.{Chronicled}
use Rattle.nb_turn.specs.Passes.{held_sees, sees}
use Rattle.nb_desk.specs.declared.asked.AskedAll.{AskedAll}
use Rattle.nb_desk.specs.Answers.{AnswersAs, AnswersHeld}
use Rattle.nb_desk.proofs.Turning.{gives_back, held_all}
use Rattle.nb_desk.proofs.desk.Desk.decide_all_held.Goals as goal

pub give-requires-clause-begins : goal.give-requires-clause-begins
give-requires-clause-begins g c = (gives_back g.D.Disk.tells c.value.result.now c.decide_all-answer.new.self c.number-by.result (requests_of c.args.bytes.now c.args.asks.now) c.decide_all-answer.ensures.answers.0 [] (joined c.decide_all-answer.new.drafts.items) c.args.held.hold.seat.me.0.seen c.decide_all-answer.result (ap (λ (v : Chronicled _). v.lines) c.value.ensures.now ∙ c.requires.lines) c.decide_all-answer.ensures.answers.2.turn).0

pub give-requires-clause-made : goal.give-requires-clause-made
give-requires-clause-made g c =
    subst (λ (n : ℕ). AllByRecursion (λ (l : Line). maker_of l ≡ n) (drop (length c.args.held.hold.seat.me.0.seen) c.decide_all-answer.new.self.lines)) c.number-by.ensures.number (gives_back g.D.Disk.tells c.value.result.now c.decide_all-answer.new.self c.number-by.result (requests_of c.args.bytes.now c.args.asks.now) c.decide_all-answer.ensures.answers.0 [] (joined c.decide_all-answer.new.drafts.items) c.args.held.hold.seat.me.0.seen c.decide_all-answer.result (ap (λ (v : Chronicled _). v.lines) c.value.ensures.now ∙ c.requires.lines) c.decide_all-answer.ensures.answers.2.turn).1

pub returns-clause-answers : goal.returns-clause-answers
returns-clause-answers g c =
    let answered = subst (λ (x : Chronicled _ × ℕ). AnswersAs g.D.Disk.tells x.0 x.1 (held_sees c.args.held) (sees c.give.result) (requests_of c.args.bytes.now c.args.asks.now) c.decide_all-answer.ensures.answers.0 [] (joined c.decide_all-answer.new.drafts.items) c.decide_all-answer.result) (λ i. (c.value.ensures.now i, c.number-by.ensures.number i)) (c.decide_all-answer.new.self, c.decide_all-answer.ensures.answers.2, c.give.ensures.view) in
    let told = held_all g.D.Disk.tells c.args.held.value c.args.held.hold.number (held_sees c.args.held) (sees c.give.result) (requests_of c.args.bytes.now c.args.asks.now) c.decide_all-answer.ensures.answers.0 [] (joined c.decide_all-answer.new.drafts.items) c.decide_all-answer.result answered in (
      c.decide_all-answer.ensures.answers.0,
      c.decide_all-answer.ensures.answers.1,
      subst (λ (r : AskedAll). AnswersHeld g.D.Disk.tells c.args.held.value c.args.held.hold.number (held_sees c.args.held) (sees c.give.result) (requests_of c.args.bytes.now c.args.asks.now) c.decide_all-answer.ensures.answers.0 [] (joined c.decide_all-answer.new.drafts.items) r) (sym c.of.ensures) told,
    )

use Rattle.std.proofs.Common.{◌≡◌, ℕ, List, [], ◌++◌, ◌∙◌, length, refl, sym, ap, subst, arith}
use Rattle.std.specs.Prelude.{map}
use Rattle.std.specs.List.{flat_map}
use Rattle.nb_endorse.specs.declared.reply.Reply.TheVariants.{Refused}
use Rattle.nb_endorse.specs.Keys.{no_keys}
use Rattle.nb_msgs.specs.ReplyBytes.{joined, reply_bytes}
use Rattle.nb_turns.specs.declared.mark.Mark.TheVariants.{At}
use Rattle.nb_turn.specs.Passes.{sees}
use Rattle.nb_vault.specs.declared.answer.AskAt.{AskAt}
use Rattle.nb_vault.specs.Asking.{requests_of}
use Rattle.nb_session.specs.Steps.{AnswersTurn}
use Rattle.nb_session.proofs.Turning.{as_many, failed, served, worn}
use Rattle.nb_session.proofs.answering.answer.Goals as goal

pub mark_places-requires : goal.mark_places-requires
mark_places-requires g c =
    omega (arith, c.requires.marks, ap length c.as_slice-in-Served.ensures.value, as_many g.D.Disk.tells c.args.pass.number (sees c.args.pass) (sees c.decide_all-pass.result.0) c.args.bytes.now c.args.asks.now [] (joined c.decide_all-pass.new.drafts.items) c.args.marks.now.items c.args.marks.now.items c.decide_all-pass.result.1 refl c.decide_all-pass.ensures.goes_on c.decide_all-pass.new.ats.items c.args.ats.now.items c.requires.none c.decide_all-pass.ensures.gives c.in-Served.is)

pub returns-in-Served-clause-answers : goal.returns-in-Served-clause-answers
returns-in-Served-clause-answers g c =
    let written : c.write_each.new.out.items ≡ joined c.decide_all-pass.new.drafts.items =
    c.write_each.ensures.bytes ∙ ap (λ (ds : List (List ℕ)). c.args.out.now.items ++ joined ds) c.as_slice-in-Served-2.ensures.value ∙ ap (λ (bs : List ℕ). bs ++ joined c.decide_all-pass.new.drafts.items) c.requires.empty in
    subst (λ (bs : List ℕ). AnswersTurn g.D.Disk.tells c.args.pass.number (sees c.args.pass) (sees c.decide_all-pass.result.0) (requests_of c.args.bytes.now c.args.asks.now) c.args.marks.now.items c.mark_places.new.marks.items bs) (sym written)
    (served g.D.Disk.tells c.args.pass.number (sees c.args.pass) (sees c.decide_all-pass.result.0) c.args.bytes.now c.args.asks.now [] (joined c.decide_all-pass.new.drafts.items) c.args.marks.now.items c.mark_places.new.marks.items c.decide_all-pass.result.1
    refl c.decide_all-pass.ensures.goes_on c.decide_all-pass.new.ats.items c.args.ats.now.items c.requires.none c.decide_all-pass.ensures.gives c.in-Served.is (c.mark_places.ensures.marks ∙ ap (λ (ns : List ℕ). c.args.marks.now.items ++ map (λ (at : ℕ). At at) ns) c.as_slice-in-Served.ensures.value))

pub returns-in-DiskFault-clause-answers : goal.returns-in-DiskFault-clause-answers
returns-in-DiskFault-clause-answers g c =
    failed g.D.Disk.tells c.args.pass.number (sees c.args.pass) (sees c.decide_all-pass.result.0) c.args.bytes.now c.args.asks.now [] (joined c.decide_all-pass.new.drafts.items) c.args.marks.now.items c.refuse_each.new.marks.items c.decide_all-pass.result.1
    refl c.decide_all-pass.ensures.goes_on c.decide_all-pass.new.ats.items c.args.ats.now.items c.requires.none c.decide_all-pass.ensures.gives
    c.in-DiskFault.before c.in-DiskFault.after c.refuse_each.new.out.items c.of-refusal.result c.in-DiskFault.is c.of-refusal.ensures c.refuse_each.ensures.marks
    (c.refuse_each.ensures.bytes ∙ ap (λ (bs : List ℕ). bs ++ flat_map (λ (ask : AskAt). reply_bytes no_keys (Refused c.of-refusal.result)) c.args.asks.now) c.requires.empty)

pub returns-in-Worn-clause-answers : goal.returns-in-Worn-clause-answers
returns-in-Worn-clause-answers g c =
    worn g.D.Disk.tells c.args.pass.number (sees c.args.pass) (sees c.decide_all-pass.result.0) c.args.bytes.now c.args.asks.now [] (joined c.decide_all-pass.new.drafts.items) c.args.marks.now.items c.refuse_each-in-Worn.new.marks.items c.decide_all-pass.result.1
    refl c.decide_all-pass.ensures.goes_on c.decide_all-pass.new.ats.items c.args.ats.now.items c.requires.none c.decide_all-pass.ensures.gives
    c.in-Worn.faults c.from.result c.refuse_each-in-Worn.new.out.items c.of-refusal-in-Worn.result c.in-Worn.is c.from.ensures c.of-refusal-in-Worn.ensures c.refuse_each-in-Worn.ensures.marks
    (c.refuse_each-in-Worn.ensures.bytes ∙ ap (λ (bs : List ℕ). bs ++ flat_map (λ (ask : AskAt). reply_bytes no_keys (Refused c.of-refusal-in-Worn.result)) c.args.asks.now) c.requires.empty)

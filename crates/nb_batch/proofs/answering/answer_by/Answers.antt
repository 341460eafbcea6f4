use Rattle.std.proofs.Common.{ℕ, List, ◌++◌, refl, ap, subst, ◌∙◌}
use Rattle.nb_endorse.specs.declared.refusal.TheConstants.{WORN}
use Rattle.nb_turns.specs.Turns.{Fails, Refuses}
use Rattle.nb_vault.specs.Rules.{refused}
use Rattle.nb_standby.specs.Following.{FollowsAs}
use Rattle.nb_standby.specs.Reading.{shipped_of}
use Rattle.nb_batch.proofs.Acknowledging.{acknowledged, may_acknowledge}
use Rattle.nb_batch.proofs.Stepping.{answered, may_send, may_refuse, failed, worn}
use Rattle.nb_batch.proofs.answering.answer_by.Goals as goal

pub returns-in-Answered-clause-answers : goal.returns-in-Answered-clause-answers
returns-in-Answered-clause-answers g c = rw (c.in-House.is)
    (answered g.D.Disk.tells c.args.house.now c.answer.new.self _ _ c.args.reply.now.items c.answer.new.out.items _ c.requires.empty c.in-Answered.ensures.turn c.in-Answered.ensures.count)

pub returns-in-DiskFault-clause-answers : goal.returns-in-DiskFault-clause-answers
returns-in-DiskFault-clause-answers g c = rw (c.in-House.is)
    (failed g.D.Disk.tells c.args.house.now c.answer.new.self _ _ c.args.reply.now.items c.answer.new.out.items _ _ _ c.requires.empty c.in-DiskFault.ensures.turn c.in-DiskFault.ensures.fault c.refuse.ensures.bytes)

pub returns-in-Worn-clause-answers : goal.returns-in-Worn-clause-answers
returns-in-Worn-clause-answers g c = rw (c.in-House.is)
    (worn g.D.Disk.tells c.args.house.now c.answer.new.self _ _ c.args.reply.now.items c.answer.new.out.items _ _ c.requires.empty c.in-Worn.ensures.turn c.in-Worn.ensures.count (c.refuse-in-Worn.ensures.bytes ∙ ap (λ (n : ℕ). c.answer.new.out.items ++ refused WORN n 0) c.from.ensures))

pub returns-in-Answered-clause-durable : goal.returns-in-Answered-clause-durable
returns-in-Answered-clause-durable g c = rw (c.in-House.is)
    (may_send g.D.Disk.tells c.args.house.now c.answer.new.self _ _ c.args.reply.now.items c.answer.new.out.items _ c.requires.empty c.answer.ensures.origin c.in-Answered.ensures.durable c.in-Answered.ensures.turn)

pub returns-in-DiskFault-clause-durable : goal.returns-in-DiskFault-clause-durable
returns-in-DiskFault-clause-durable g c = rw (c.in-House.is)
    (may_refuse g.D.Disk.tells c.args.house.now c.answer.new.self _ _ (Fails c.in-DiskFault.before c.in-DiskFault.after) c.args.reply.now.items c.answer.new.out.items _ _ c.requires.empty c.in-DiskFault.ensures.turn c.in-DiskFault.ensures.turn.out_is c.refuse.ensures.bytes refl tt)

pub returns-in-Worn-clause-durable : goal.returns-in-Worn-clause-durable
returns-in-Worn-clause-durable g c = rw (c.in-House.is)
    (may_refuse g.D.Disk.tells c.args.house.now c.answer.new.self _ _ Refuses c.args.reply.now.items c.answer.new.out.items _ _ c.requires.empty c.in-Worn.ensures.turn.1 c.in-Worn.ensures.turn.1.out_is
    (c.refuse-in-Worn.ensures.bytes ∙ ap (λ (n : ℕ). c.answer.new.out.items ++ refused WORN n 0) (c.from.ensures ∙ c.in-Worn.ensures.turn.0)) refl tt)

pub returns-in-Standby-clause-answers : goal.returns-in-Standby-clause-answers
returns-in-Standby-clause-answers g c = rw (c.in-Standby.is)
    (acknowledged g.D.Disk.tells c.args.house.now c.follow-code.new.vault c.follow-code.ensures.count _ c.follow-code.result c.args.reply.now.items c.follow-code.new.out.items c.requires.empty
    (subst (λ (bytes : List ℕ). FollowsAs g.D.Disk.tells c.args.house.now c.follow-code.new.vault (shipped_of bytes) c.follow-code.result) c.record_of.ensures c.follow-code.ensures.follows)
    c.follow-code.ensures.acknowledged)

pub returns-in-Standby-clause-durable : goal.returns-in-Standby-clause-durable
returns-in-Standby-clause-durable g c = rw (c.in-Standby.is)
    (may_acknowledge g.D.Disk.tells c.args.house.now c.follow-code.new.vault c.follow-code.ensures.count _ c.follow-code.result c.args.reply.now.items c.follow-code.new.out.items c.requires.empty c.follow-code.ensures.origin
    c.follow-code.ensures.follows c.follow-code.ensures.acknowledged)

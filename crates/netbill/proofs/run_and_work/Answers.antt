use Rattle.std.proofs.Common.{map, string_bytes, refl, subst}
use Rattle.nb_commands.specs.declared.ending.Outcome.{Outcome}
use Rattle.nb_commands.specs.declared.ending.Outcome.TheVariants.{Done, Work}
use Rattle.nb_run.specs.Run.{Ran, around}
use Rattle.netbill.proofs.Fitting.{fits}
use Rattle.netbill.proofs.Working.{job_ends}
use Rattle.netbill.proofs.run_and_work.Goals as goal

pub returns-in-Done-clause-ends : goal.returns-in-Done-clause-ends
returns-in-Done-clause-ends g c =
    let at = around g.S.Source.left g.S.Source.faults g.K.Sink.sent g.K.Sink.faults g.C.Clock.moments in
    let words = map string_bytes c.args.words.now in
    let before = at c.args.source.now c.args.sink.now c.args.disk c.args.clock.now in
    let ran = at c.run-outcome.new.source c.run-outcome.new.sink c.run-outcome.result.1 c.run-outcome.new.clock in
    let did = subst (λ (outcome : Outcome). Ran g.D.Disk.tells before ran outcome words) c.in-Done.is c.run-outcome.ensures.ran in
    (ran, Done c.in-Done.ending, did, (refl, refl))

pub returns-in-Work-clause-ends : goal.returns-in-Work-clause-ends
returns-in-Work-clause-ends g c =
    let at = around g.S.Source.left g.S.Source.faults g.K.Sink.sent g.K.Sink.faults g.C.Clock.moments in
    let words = map string_bytes c.args.words.now in
    let before = at c.args.source.now c.args.sink.now c.args.disk c.args.clock.now in
    let ran = at c.run-outcome.new.source c.run-outcome.new.sink c.run-outcome.result.1 c.run-outcome.new.clock in
    let did = subst (λ (outcome : Outcome). Ran g.D.Disk.tells before ran outcome words) c.in-Work.is c.run-outcome.ensures.ran in
    (ran, Work c.in-Work.job, did, (refl, refl, fits g.D.Disk.tells before ran words c.in-Work.job did, c.do_job.ensures.comes_to))

pub returns-in-Work-clause-bad_words : goal.returns-in-Work-clause-bad_words
returns-in-Work-clause-bad_words g c =
    λ bad is. job_ends g.D.Disk.tells c.run-outcome.result.1 c.do_job.result.1
    (g.K.Sink.sent c.run-outcome.new.sink) (g.K.Sink.sent c.do_job.new.sink) (g.K.Sink.faults c.run-outcome.new.sink) (g.K.Sink.faults c.do_job.new.sink)
    c.do_job.result.0 bad c.in-Work.job c.do_job.ensures.comes_to

use Rattle.std.proofs.Common.{◌≡◌, inr, length, vec_len, subst, arith}
use Rattle.nb_work.specs.Work.{IsStaffed}
use Rattle.nb_platform.proofs.Seeing.{link_seen, no_moments, port_seen, worked}
use Rattle.nb_platform.proofs.jobs.do_job.Goals as goal

pub returns : goal.returns
returns g c =
    let opened = c.in-Ok.opened in
    let job = c.work-disk.result in
    let many : vec_len opened.workers ≡ length opened.workers.items = omega (arith, opened.workers.ok) in
    record {
      comes_to = inr (
          worked opened.workers.items job.workers.items opened.dials job.dials port_seen no_moments link_seen (λ p. p.left) (λ p. p.out) (λ p. p.faults) g.D.Disk.tells c.args.job c.args.disk job.disk
          (g.K.Sink.sent c.args.sink.now) (g.K.Sink.sent c.work-disk.new.sink) (g.K.Sink.faults c.args.sink.now) (g.K.Sink.faults c.work-disk.new.sink)
          job.lines.items job.ends.items job.ending
          (λ links p is. is) (subst (IsStaffed c.args.job) many c.in-Ok.ensures.staffed) c.in-Ok.ensures.dialled c.in-Ok.ensures.give c.in-Ok.ensures.fresh c.work-disk.ensures.works
          );
    }

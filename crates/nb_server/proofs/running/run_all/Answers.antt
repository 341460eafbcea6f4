use Rattle.nb_server.specs.Served.{worker_seen}
use Rattle.nb_server.specs.Steps.{desk_id, pass_seen}
use Rattle.nb_server.proofs.Threading.{all_done}
use Rattle.nb_server.proofs.running.run_all.Goals as goal

pub returns-clause-done : goal.returns-clause-done
returns-clause-done g c = λ origin ws ready. all_done g.D.Disk.tells pass_seen (worker_seen g.P.Port.seen g.C.Clock.moments) (desk_id c.args.desk.now) origin ws c.args.jobs.now.items c.as_mut_slice.result.now c.run_each.new.jobs c.args.jobs.now.len
    c.as_mut_slice.ensures.value c.args.jobs.now.ok.0 c.run_each.ensures.len c.run_each.ensures.ran ready

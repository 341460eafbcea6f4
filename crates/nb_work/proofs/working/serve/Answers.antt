use Rattle.std.proofs.Common.{List, subst, inr}
use Rattle.nb_server.specs.declared.worker.WorkerEnd.{WorkerEnd}
use Rattle.nb_work.specs.Work.{StoppedAs}
use Rattle.nb_work.proofs.working.serve.Goals as goal

pub returns-in-Ok-serve_all-clause-serves : goal.returns-in-Ok-serve_all-clause-serves
returns-in-Ok-serve_all-clause-serves g c = inr (inr (
  record {
    opened = c.in-Ok.vault;
    served = c.in-Ok-serve_all.field-0.vault;
    opens = c.in-Ok.ensures.gives;
    unwritten = c.in-Ok.ensures.nothing;
    all = c.in-Ok-serve_all.ensures.ok;
    disk_is = c.into_parts-disk.ensures.disk;
    lines_are = c.into_parts-disk.ensures.lines;
  },
  subst (λ (ends : List WorkerEnd). StoppedAs ends c.stopped-ending.result) c.as_slice.ensures.value c.stopped-ending.ensures,
))

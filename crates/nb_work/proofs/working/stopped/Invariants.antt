use Rattle.nb_work.proofs.Stopping.{Looked}
use Rattle.nb_work.proofs.working.stopped.Given as goal

abbrev pub invariant-looking : goal.invariant-looking
invariant-looking l = Looked l.ends l.end-index l.starved

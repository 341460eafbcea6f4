use Rattle.std.proofs.Common.{sym, subst, length, refl, ◌+◌, arith}
use Rattle.std.proofs.lemmas.Option.{slice_get_read}
use Rattle.nb_work.proofs.Stopping.{Looked, closed_looked, starved_looked, failed_ends, starved_ends, clean_ends}
use Rattle.nb_work.proofs.working.stopped.Goals.{in-NoMemory, in-Closed}
use Rattle.nb_work.proofs.working.stopped.Goals as goal

pub returns-in-PortFault : goal.returns-in-PortFault
returns-in-PortFault c = failed_ends c.args.ends.now c.looking.end-index c.end-item.result c.at_no_place.result (slice_get_read c.args.ends.now (length c.args.ends.now) c.looking.end-index c.end-item.result refl (omega (arith, c.looking-test.true, c.looking.auto.end-index-end)) c.end-item.is) c.in-PortFault.is c.at_no_place.ensures

pub looking-preserved : goal.looking-preserved
looking-preserved c = elim c.match-end.branch [
  | in-NoMemory w ↦ subst (Looked c.args.ends.now (c.looking.end-index + 1)) (sym w.starved-is) (starved_looked c.args.ends.now c.looking.end-index c.looking.starved c.end-item.result c.looking.invariant (slice_get_read c.args.ends.now (length c.args.ends.now) c.looking.end-index c.end-item.result refl (omega (arith, c.looking-test.true, c.looking.auto.end-index-end)) c.end-item.is) w.in-NoMemory.is)
  | in-Closed w ↦ subst (Looked c.args.ends.now (c.looking.end-index + 1)) (sym w.starved-is) (closed_looked c.args.ends.now c.looking.end-index c.looking.starved c.end-item.result c.looking.invariant (slice_get_read c.args.ends.now (length c.args.ends.now) c.looking.end-index c.end-item.result refl (omega (arith, c.looking-test.true, c.looking.auto.end-index-end)) c.end-item.is) w.in-Closed.is)
]

pub returns-then-starved : goal.returns-then-starved
returns-then-starved c = starved_ends c.args.ends.now c.looking.end-index c.looking.starved c.at_no_place-then-starved.result c.looking.invariant (omega (arith, c.looking-test.false, c.looking.auto.end-index-end)) c.if-starved.true c.at_no_place-then-starved.ensures

pub returns-else-starved : goal.returns-else-starved
returns-else-starved c = clean_ends c.args.ends.now c.looking.end-index c.looking.starved c.at_no_place-else-starved.result c.looking.invariant (omega (arith, c.looking-test.false, c.looking.auto.end-index-end)) c.if-starved.false c.at_no_place-else-starved.ensures

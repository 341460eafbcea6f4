-- A vault that is opened over what a stop in a batch left.
use Rattle.std.proofs.Common.{◌≡◌, ⊎_elim, true, false, List, ◌++◌, ℕ}
use Rattle.nb_port.specs.Tells.{DiskTells}
use Rattle.nb_standby.proofs.Steps.{at_start}
use Rattle.nb_batch.specs.Acknowledged.{RestartsInRun, StopInRunIsStep}

pub stop_in_run_is_step : {D : Type 0} (tells : DiskTells D) → StopInRunIsStep tells
stop_in_run_is_step tells charter cap first states old new image opened only left over =
    let there = only.each image left in
    ⊎_elim
    (λ stands.
    let is = over.whole image charter cap there.state.entries over.content stands in
    let behind : RestartsInRun charter cap first states opened = record {
      state = there.state;
      is = there.is;
      kept = false;
      state_is = at_start opened there.state.entries over.opens.lines is.2 over.opens.durable.fresh;
      charter_is = is.0;
      cap_is = is.1;
    } in
    behind)
    (λ stands.
    let is = over.whole image charter cap (there.state.entries ++ there.state.doubt) over.content stands in
    let behind : RestartsInRun charter cap first states opened = record {
      state = there.state;
      is = there.is;
      kept = true;
      state_is = at_start opened (there.state.entries ++ there.state.doubt) over.opens.lines is.2 over.opens.durable.fresh;
      charter_is = is.0;
      cap_is = is.1;
    } in
    behind)
    there.stands

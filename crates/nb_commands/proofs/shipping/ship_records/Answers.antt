use Rattle.std.proofs.Common.{◌≡◌, ◌⊎◌, sym, ap, subst, ◌∙◌, inl, inr}
use Rattle.nb_standby.specs.Following.{house_key}
use Rattle.nb_vault.specs.Vaults.{entries_in}
use Rattle.nb_commands.specs.declared.ending.Ending.{Ending}
use Rattle.nb_commands.specs.declared.ending.TheConstants.{CLEAN, OUT_OF_MEMORY, NO_PLACE}
use Rattle.nb_commands.specs.Ship.{Shipped}
use Rattle.nb_commands.proofs.Ships.{shipped, rose_shipped, silent_shipped, ends_shipped}
use Rattle.nb_commands.proofs.Opening.{unopened_starved}
use Rattle.nb_commands.proofs.shipping.ship_records.Goals as goal

pub returns-in-Err-clause-ships : goal.returns-in-Err-clause-ships
returns-in-Err-clause-ships g c = inl record { fault = c.in-Err.fault; ends = c.unopened.ensures; why = c.in-Err.ensures.gives }

pub returns-in-Err-clause-complete : goal.returns-in-Err-clause-complete
returns-in-Err-clause-complete g c = λ journal no_sink no_disk.
    inr (inr (ap (λ (e : Ending). e.status) c.unopened.ensures ∙ unopened_starved g.D.Disk.tells c.args.disk c.in-Err.fault c.in-Err.disk c.in-Err.ensures.whole c.in-Err.ensures.gives journal no_disk))

pub returns-clause-ships : goal.returns-clause-ships
returns-clause-ships g c =
    let told = c.ship_from-shipped in
    inr
    (subst (λ (e : Ending). Shipped g.D.Disk.tells c.args.disk c.into_disk.result (g.K.Sink.sent c.args.sink.now) (g.K.Sink.sent told.new.sink) c.args.from e) (sym c.shipped_as.ensures)
    (shipped g.D.Disk.tells c.args.disk c.into_disk.result c.in-Ok.house told.result c.args.from (g.K.Sink.faults c.args.sink.now) (g.K.Sink.faults told.new.sink) (g.K.Sink.sent c.args.sink.now) (g.K.Sink.sent told.new.sink)
    c.in-Ok.ensures.gives c.into_disk.ensures told.ensures.ships))

pub returns-clause-sink : goal.returns-clause-sink
returns-clause-sink g c = λ failed.
    let told = c.ship_from-shipped in
    rose_shipped told.result (g.K.Sink.faults c.args.sink.now) (g.K.Sink.faults told.new.sink) (g.K.Sink.sent c.args.sink.now) (g.K.Sink.sent told.new.sink) (house_key c.in-Ok.house) c.args.from (entries_in c.in-Ok.house) told.ensures.ships
    (ap (λ (e : Ending). e.status) (sym c.shipped_as.ensures) ∙ failed)

pub returns-clause-silent : goal.returns-clause-silent
returns-clause-silent g c = λ no_clean no_sink.
    let told = c.ship_from-shipped in
    silent_shipped told.result c.args.sink.now told.new.sink told.ensures.untouched
    (λ e. no_clean (ap (λ (x : Ending). x.status) c.shipped_as.ensures ∙ e)) (λ e. no_sink (ap (λ (x : Ending). x.status) c.shipped_as.ensures ∙ e))

pub returns-clause-complete : goal.returns-clause-complete
returns-clause-complete g c = λ journal no_sink no_disk.
    let told = c.ship_from-shipped in
    subst (λ (e : Ending). (e.status ≡ CLEAN) ⊎ (e.status ≡ NO_PLACE) ⊎ (e.status ≡ OUT_OF_MEMORY)) (sym c.shipped_as.ensures)
    (ends_shipped told.result (g.K.Sink.faults c.args.sink.now) (g.K.Sink.faults told.new.sink) (g.K.Sink.sent c.args.sink.now) (g.K.Sink.sent told.new.sink) (house_key c.in-Ok.house) c.args.from (entries_in c.in-Ok.house) told.ensures.ships no_sink)

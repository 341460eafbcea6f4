use Rattle.std.proofs.Common.{◌≡◌, ◌⊎◌, sym, ap, subst, ◌∙◌, inl, inr}
use Rattle.nb_commands.specs.declared.ending.Ending.{Ending}
use Rattle.nb_commands.specs.declared.ending.TheConstants.{CLEAN, OUT_OF_MEMORY}
use Rattle.nb_commands.specs.Promote.{Promoted}
use Rattle.nb_commands.proofs.Promotions.{promoted, rose_promoted, silent_promoted, ends_promoted}
use Rattle.nb_commands.proofs.Opening.{unopened_starved}
use Rattle.nb_commands.proofs.promoting.promote.Goals as goal

pub returns-in-Err-clause-promotes : goal.returns-in-Err-clause-promotes
returns-in-Err-clause-promotes g c = inl record { fault = c.in-Err.fault; ends = c.unopened.ensures; why = c.in-Err.ensures.gives }

pub returns-in-Err-clause-complete : goal.returns-in-Err-clause-complete
returns-in-Err-clause-complete g c = λ journal no_sink no_disk.
    inr (ap (λ (e : Ending). e.status) c.unopened.ensures ∙ unopened_starved g.D.Disk.tells c.args.disk c.in-Err.fault c.in-Err.disk c.in-Err.ensures.whole c.in-Err.ensures.gives journal no_disk)

pub returns-clause-promotes : goal.returns-clause-promotes
returns-clause-promotes g c =
    let told = c.tell_length-told in
    inr
    (subst (λ (e : Ending). Promoted g.D.Disk.tells c.args.disk c.into_disk.result (g.K.Sink.sent c.args.sink.now) (g.K.Sink.sent told.new.sink) e) (sym c.ending.ensures)
    (promoted g.D.Disk.tells c.args.disk c.into_disk.result c.in-Ok.house told.result c.args.sink.now told.new.sink c.entries.result (g.K.Sink.faults c.args.sink.now) (g.K.Sink.faults told.new.sink) (g.K.Sink.sent c.args.sink.now) (g.K.Sink.sent told.new.sink)
    c.in-Ok.ensures.gives c.into_disk.ensures c.entries.ensures.count told.ensures.tells))

pub returns-clause-sink : goal.returns-clause-sink
returns-clause-sink g c = λ failed.
    let told = c.tell_length-told in
    rose_promoted c.args.sink.now told.new.sink c.entries.result (g.K.Sink.faults c.args.sink.now) (g.K.Sink.faults told.new.sink) (g.K.Sink.sent c.args.sink.now) (g.K.Sink.sent told.new.sink) told.result told.ensures.tells
    (ap (λ (e : Ending). e.status) (sym c.ending.ensures) ∙ failed)

pub returns-clause-silent : goal.returns-clause-silent
returns-clause-silent g c = λ no_clean no_sink.
    let told = c.tell_length-told in
    silent_promoted c.args.sink.now told.new.sink c.entries.result (g.K.Sink.faults c.args.sink.now) (g.K.Sink.faults told.new.sink) (g.K.Sink.sent c.args.sink.now) (g.K.Sink.sent told.new.sink) told.result told.ensures.tells
    (λ e. no_clean (ap (λ (x : Ending). x.status) c.ending.ensures ∙ e)) (λ e. no_sink (ap (λ (x : Ending). x.status) c.ending.ensures ∙ e))

pub returns-clause-complete : goal.returns-clause-complete
returns-clause-complete g c = λ journal no_sink no_disk.
    let told = c.tell_length-told in
    subst (λ (e : Ending). (e.status ≡ CLEAN) ⊎ (e.status ≡ OUT_OF_MEMORY)) (sym c.ending.ensures)
    (ends_promoted c.args.sink.now told.new.sink c.entries.result (g.K.Sink.faults c.args.sink.now) (g.K.Sink.faults told.new.sink) (g.K.Sink.sent c.args.sink.now) (g.K.Sink.sent told.new.sink) told.result told.ensures.tells no_sink)

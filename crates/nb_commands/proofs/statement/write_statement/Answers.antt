use Rattle.std.proofs.Common.{◌≡◌, ◌⊎◌, sym, ap, subst, ◌∙◌, inl, inr}
use Rattle.nb_vault.specs.Vaults.{entries_in}
use Rattle.nb_commands.specs.declared.ending.Ending.{Ending}
use Rattle.nb_commands.specs.declared.ending.TheConstants.{CLEAN, OUT_OF_MEMORY, NO_ACCOUNT}
use Rattle.nb_commands.specs.Statement.{Stated}
use Rattle.nb_commands.proofs.Opening.{unopened_starved}
use Rattle.nb_commands.proofs.Stating.{stated, rose_told, silent_told, ends_told}
use Rattle.nb_commands.proofs.statement.write_statement.Goals as goal

pub returns-in-Err-clause-statement : goal.returns-in-Err-clause-statement
returns-in-Err-clause-statement g c = inl record { fault = c.in-Err.fault; ends = c.unopened.ensures; why = c.in-Err.ensures.gives }

pub returns-in-Err-clause-complete : goal.returns-in-Err-clause-complete
returns-in-Err-clause-complete g c = λ journal no_sink no_disk.
    inr (inr (ap (λ (e : Ending). e.status) c.unopened.ensures ∙ unopened_starved g.D.Disk.tells c.args.disk c.in-Err.fault c.in-Err.disk c.in-Err.ensures.whole c.in-Err.ensures.gives journal no_disk))

pub returns-clause-statement : goal.returns-clause-statement
returns-clause-statement g c =
    let told = c.write-told in
    inr
    (subst (λ (e : Ending). Stated g.D.Disk.tells c.args.disk c.into_disk.result (g.K.Sink.sent c.args.sink.now) (g.K.Sink.sent told.new.sink) c.args.acct e) (sym c.told_as.ensures)
    (stated g.D.Disk.tells c.args.disk c.into_disk.result c.in-Ok.house told.result c.args.acct (g.K.Sink.faults c.args.sink.now) (g.K.Sink.faults told.new.sink) (g.K.Sink.sent c.args.sink.now) (g.K.Sink.sent told.new.sink)
    c.in-Ok.ensures.gives c.into_disk.ensures told.ensures.wrote told.ensures.refused))

pub returns-clause-sink : goal.returns-clause-sink
returns-clause-sink g c = λ failed.
    let told = c.write-told in
    rose_told told.result (g.K.Sink.faults c.args.sink.now) (g.K.Sink.faults told.new.sink) (g.K.Sink.sent c.args.sink.now) (g.K.Sink.sent told.new.sink) c.args.acct (entries_in c.in-Ok.house) told.ensures.wrote
    (ap (λ (e : Ending). e.status) (sym c.told_as.ensures) ∙ failed)

pub returns-clause-silent : goal.returns-clause-silent
returns-clause-silent g c = λ no_clean no_sink.
    let told = c.write-told in
    silent_told told.result c.args.sink.now told.new.sink told.ensures.untouched
    (λ e. no_clean (ap (λ (x : Ending). x.status) c.told_as.ensures ∙ e)) (λ e. no_sink (ap (λ (x : Ending). x.status) c.told_as.ensures ∙ e))

pub returns-clause-complete : goal.returns-clause-complete
returns-clause-complete g c = λ journal no_sink no_disk.
    let told = c.write-told in
    subst (λ (e : Ending). (e.status ≡ CLEAN) ⊎ (e.status ≡ NO_ACCOUNT) ⊎ (e.status ≡ OUT_OF_MEMORY)) (sym c.told_as.ensures)
    (ends_told told.result (g.K.Sink.faults c.args.sink.now) (g.K.Sink.faults told.new.sink) (g.K.Sink.sent c.args.sink.now) (g.K.Sink.sent told.new.sink) c.args.acct (entries_in c.in-Ok.house) told.ensures.wrote no_sink)

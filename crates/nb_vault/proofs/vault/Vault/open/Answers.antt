use Rattle.std.proofs.Common.{subst, ◌∙◌}
use Rattle.nb_journal.specs.Opening.{OpenFails}
use Rattle.nb_journal.specs.Reading.{IsDamaged}
use Rattle.nb_vault.specs.Parts.{seen_as}
use Rattle.nb_vault.proofs.HoldingLaws.{no_damage}
use Rattle.nb_vault.proofs.Founding.{told_of, opens_stands, opens_whole, fails_whole}
use Rattle.nb_vault.proofs.Seeing.{durable, keeps}
use Rattle.nb_vault.proofs.vault.Vault.open.Goals as goal

pub returns-in-Ok-restored-clause-gives : goal.returns-in-Ok-restored-clause-gives
returns-in-Ok-restored-clause-gives g c =
    let tells = g.D.Disk.tells in
    let p = c.in-Ok-restored.parts in
    let r = c.in-Ok-restored.ensures.gives.0 in
    record {
      lines = r.lines;
      count = r.from ∙ c.fault_count-count.ensures;
      stands = opens_stands tells c.args.disk c.in-Ok.opened c.fault_count-count.result p r c.in-Ok.ensures.nothing.same;
      durable = durable tells p r.vault r.fresh;
      keeps = keeps tells p r.vault;
    }

pub returns-in-Ok-restored-clause-whole : goal.returns-in-Ok-restored-clause-whole
returns-in-Ok-restored-clause-whole g c =
    let tells = g.D.Disk.tells in
    let p = c.in-Ok-restored.parts in
    let r = c.in-Ok-restored.ensures.gives.0 in
    opens_whole tells c.args.disk c.in-Ok.opened c.fault_count-count.result (seen_as p)
    (opens_stands tells c.args.disk c.in-Ok.opened c.fault_count-count.result p r c.in-Ok.ensures.nothing.same)

pub returns-in-Err-clause-whole : goal.returns-in-Err-clause-whole
returns-in-Err-clause-whole g c =
    fails_whole g.D.Disk.tells c.args.disk c.in-Ok.opened c.fault_count-count.result c.in-Err.fault c.in-Err.disk c.in-Err.ensures.gives c.in-Ok.ensures.gives.holds

pub returns-in-Err-Damaged-default-clause-whole : goal.returns-in-Err-Damaged-default-clause-whole
returns-in-Err-Damaged-default-clause-whole g c = λ image charter cap entries is whole.
    let w = c.in-Err-Damaged-default in
    let fails = subst (OpenFails g.D.Disk.tells c.args.disk w.disk) w.field-0-0-is w.ensures.gives in
    no_damage charter cap entries image w.item w.place whole (told_of (g.D.Disk.tells.content c.args.disk) (λ image. IsDamaged image w.item w.place) image is fails)

use Rattle.std.proofs.Common.{refl, sym, subst, ◌∙◌, ◌∷◌, [], ◌++◌, List, ℕ, length}
use Rattle.std.proofs.lemmas.Bool.{eqb-false}
use Rattle.nb_journal.specs.Layout.{front_bytes}
use Rattle.nb_journal.specs.States.{AppendFails, AtRest, InDoubt}
use Rattle.nb_vault.proofs.Joining.{some_of}
use Rattle.nb_vault.proofs.Resting.{doubt_rests, grown_rests, not_big, not_full, record_leaves}
use Rattle.nb_vault.proofs.records.Records.record.Goals as goal

pub unreachable-requires : goal.unreachable-requires
unreachable-requires g c =
    let old = c.args.self.now in
    let some = some_of old.group.items c.as_slice.result.now (eqb-false (length c.as_slice.result.now) 0 (sym c.if-is_empty.ensures)) c.as_slice.ensures.value in
    let full = subst (AppendFails g.D.Disk.tells old.journal c.append.new.self c.as_slice-2.result.now) c.in-Err-Full.field-0-is c.in-Err-Full.ensures.gives in
    not_full g.D.Disk.tells old c.requires.gathers some full.2

pub unreachable-requires-in-Err-TooBig : goal.unreachable-requires-in-Err-TooBig
unreachable-requires-in-Err-TooBig g c =
    let old = c.args.self.now in
    let big = subst (AppendFails g.D.Disk.tells old.journal c.append.new.self c.as_slice-2.result.now) c.in-Err-TooBig.field-0-is c.in-Err-TooBig.ensures.gives in
    not_big g.D.Disk.tells old c.as_slice-2.result.now c.requires.gathers c.as_slice-2.ensures.value big.4

pub returns-in-Ok-clause-rests : goal.returns-in-Ok-clause-rests
returns-in-Ok-clause-rests g c =
    let old = c.args.self.now in
    let gathers = c.requires.gathers in
    let some = some_of old.group.items c.as_slice.result.now (eqb-false (length c.as_slice.result.now) 0 (sym c.if-is_empty.ensures)) c.as_slice.ensures.value in
    grown_rests g.D.Disk.tells old _ _ old.group.items gathers.items gathers.carries gathers.group some
    (record { charter = refl; cap = refl; most = c.append.ensures.limits.0; room = c.append.ensures.limits.1 }) (record { group = gathers.has.group; item = gathers.has.item; places = gathers.has.places })
    (subst (λ (item : List ℕ). AtRest g.D.Disk.tells (front_bytes old.book.cap old.charter) (gathers.items ++ item ∷ []) c.append.new.self) (c.as_slice-2.ensures.value ∙ gathers.bytes)
    (c.in-Ok.ensures.gives _ gathers.items gathers.rest))
    gathers.whole

pub returns-in-Ok-clause-any_moment : goal.returns-in-Ok-clause-any_moment
returns-in-Ok-clause-any_moment g c =
    let old = c.args.self.now in
    let some = some_of old.group.items c.as_slice.result.now (eqb-false (length c.as_slice.result.now) 0 (sym c.if-is_empty.ensures)) c.as_slice.ensures.value in
    record_leaves g.D.Disk.tells old c.append.new.self.disk c.as_slice-2.result.now c.requires.gathers some c.as_slice-2.ensures.value c.append.ensures.any_moment

pub returns-in-Err-DiskFault-clause-rests : goal.returns-in-Err-DiskFault-clause-rests
returns-in-Err-DiskFault-clause-rests g c =
    let old = c.args.self.now in
    let gathers = c.requires.gathers in
    let some = some_of old.group.items c.as_slice.result.now (eqb-false (length c.as_slice.result.now) 0 (sym c.if-is_empty.ensures)) c.as_slice.ensures.value in
    let failed = subst (AppendFails g.D.Disk.tells old.journal c.append.new.self c.as_slice-2.result.now) c.in-Err-DiskFault.field-0-is c.in-Err-DiskFault.ensures.gives in
    doubt_rests g.D.Disk.tells old _ _ gathers.items gathers.carries gathers.group some
    (record { charter = refl; cap = c.undo_to.ensures.cap; most = c.append.ensures.limits.0; room = c.append.ensures.limits.1 }) (record { group = gathers.has.group; item = gathers.has.item; places = gathers.has.places })
    (subst (λ (item : List ℕ). InDoubt g.D.Disk.tells (front_bytes old.book.cap old.charter) gathers.items item c.append.new.self) (c.as_slice-2.ensures.value ∙ gathers.bytes)
    (failed.3 _ gathers.items gathers.rest))
    c.undo_to.ensures.entries

pub returns-in-Err-DiskFault-clause-any_moment : goal.returns-in-Err-DiskFault-clause-any_moment
returns-in-Err-DiskFault-clause-any_moment g c =
    let old = c.args.self.now in
    let some = some_of old.group.items c.as_slice.result.now (eqb-false (length c.as_slice.result.now) 0 (sym c.if-is_empty.ensures)) c.as_slice.ensures.value in
    record_leaves g.D.Disk.tells old c.append.new.self.disk c.as_slice-2.result.now c.requires.gathers some c.as_slice-2.ensures.value c.append.ensures.any_moment

use Rattle.std.proofs.Common.{List, ◌++◌, refl, ap, subst, ◌∙◌, Ok}
use Rattle.nb_entry.specs.declared.entry.Entry.{Entry}
use Rattle.nb_entry.specs.Spelling.{entries_bytes}
use Rattle.nb_journal.specs.declared.journal.Settled.{Settled}
use Rattle.nb_journal.specs.States.{DoubtBeforeSettle, SettlesAs}
use Rattle.nb_vault.proofs.Resting.{settle_leaves, grown_rests}
use Rattle.nb_vault.proofs.records.Records.settle.Goals as goal

pub returns-in-Err-clause-any_moment : goal.returns-in-Err-clause-any_moment
returns-in-Err-clause-any_moment g c =
    settle_leaves g.D.Disk.tells c.args.self.now c.settle.new.self.disk c.requires.rests c.in-Err.ensures.asked c.settle.ensures.any_moment

pub returns-in-Ok-Dropped-clause-any_moment : goal.returns-in-Ok-Dropped-clause-any_moment
returns-in-Ok-Dropped-clause-any_moment g c =
    settle_leaves g.D.Disk.tells c.args.self.now c.settle.new.self.disk c.requires.rests
    (subst (λ (s : Settled). DoubtBeforeSettle c.args.self.now.journal (Ok s)) c.in-Ok-Dropped.field-0-is c.in-Ok-Dropped.ensures.asked) c.settle.ensures.any_moment

pub returns-in-Ok-Kept-clause-any_moment : goal.returns-in-Ok-Kept-clause-any_moment
returns-in-Ok-Kept-clause-any_moment g c =
    settle_leaves g.D.Disk.tells c.args.self.now c.settle.new.self.disk c.requires.rests
    (subst (λ (s : Settled). DoubtBeforeSettle c.args.self.now.journal (Ok s)) c.in-Ok-Kept.field-0-is c.in-Ok-Kept.ensures.asked) c.settle.ensures.any_moment

pub returns-in-Ok-Kept-clause-rests : goal.returns-in-Ok-Kept-clause-rests
returns-in-Ok-Kept-clause-rests g c =
    let r = c.args.self.now in
    let rests = c.requires.rests in
    let d = rests.doubt (subst (λ (s : Settled). DoubtBeforeSettle r.journal (Ok s)) c.in-Ok-Kept.field-0-is c.in-Ok-Kept.ensures.asked) in
    let kept = subst (SettlesAs g.D.Disk.tells r.journal c.settle.new.self) c.in-Ok-Kept.field-0-is c.in-Ok-Kept.ensures.gives in
    grown_rests g.D.Disk.tells r _ _ r.group.items rests.items rests.carries d.group d.some
    (record { charter = refl; cap = c.apply_all.ensures.cap; most = c.settle.ensures.limits.0; room = c.settle.ensures.limits.1 }) (record { group = rests.has.group; item = rests.has.item; places = rests.has.places })
    (kept.1 _ rests.items (entries_bytes r.group.items) d.rest) (c.apply_all.ensures.entries ∙ ap (λ (es : List Entry). r.book.entries ++ es) c.as_slice.ensures.value)

use Rattle.nb_entry.specs.declared.entry.Entry.TheVariants.{Enrol}
use Rattle.std.proofs.Common.{[]}
use Rattle.nb_vault.proofs.Joining.{legal_next}
use Rattle.nb_vault.proofs.records.apply_all.Goals as goal

pub apply-requires-clause-legal : goal.apply-requires-clause-legal
apply-requires-clause-legal c =
    legal_next c.args.book.now.entries c.args.entries.now c.loop-entry.book.entries c.loop-entry.entry-index (Enrol (record { 0 = 0 }) 0 (record { 0 = 0 }) 0 []) c.requires.legal c.loop-entry.invariant.entries c.loop-entry-test.true

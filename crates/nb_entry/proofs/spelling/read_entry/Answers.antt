use Rattle.std.proofs.Common.{rules, arith, ◌+◌, Ok, Err, sym, ap, ◌∙◌}
use Rattle.nb_units.specs.Fields.{moved}
use Rattle.nb_entry.specs.Reading.{entry_at}
use Rattle.nb_entry.proofs.Layouts.{entry_reads_back, entry_long, entry_ends, entry_ok}
use Rattle.nb_entry.proofs.spelling.read_entry.Goals as goal

pub skip-requires : goal.skip-requires
skip-requires c = let s = c.in-Ok.ensures.spelled in omega (arith, entry_ends c.rest.result.now c.in-Ok.e s.0 s.1, c.rest.ensures.inside, c.spelled_len.ensures)

pub returns-in-Ok-clause-moved : goal.returns-in-Ok-clause-moved
returns-in-Ok-clause-moved c = c.skip.ensures ∙ ap (moved c.args.cut.now) (c.spelled_len.ensures ∙ sym (entry_long c.in-Ok.e c.in-Ok.ensures.spelled.0))

pub returns-in-Ok-clause-reads : goal.returns-in-Ok-clause-reads
returns-in-Ok-clause-reads c = search rules

pub returns-in-Ok-clause-found : goal.returns-in-Ok-clause-found
returns-in-Ok-clause-found c = λ e is s.
    let cut = c.args.cut.now in
    entry_ok (Ok c.in-Ok.e) (entry_at cut.bytes cut.place) e (returns-in-Ok-clause-reads c) (entry_reads_back cut.bytes cut.place e is s)

pub returns-in-Err-clause-reads : goal.returns-in-Err-clause-reads
returns-in-Err-clause-reads c = search rules

pub returns-in-Err-clause-found : goal.returns-in-Err-clause-found
returns-in-Err-clause-found c = λ e is s.
    let cut = c.args.cut.now in
    entry_ok (Err (record { place = c.place.result + c.in-Err.field-0.place })) (entry_at cut.bytes cut.place) e (returns-in-Err-clause-reads c) (entry_reads_back cut.bytes cut.place e is s)

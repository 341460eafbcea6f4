use Rattle.std.proofs.Common.{arith, length}
use Rattle.nb_units.specs.Laws.{StandsAt}
use Rattle.nb_units.proofs.Rows.{if_read}
use Rattle.nb_entry.specs.Spelling.{IsEntry, entry_bytes}
use Rattle.nb_entry.specs.Reading.{entry_of}
use Rattle.nb_entry.proofs.Layouts.{front_found, front_within, err_within}
use Rattle.nb_entry.proofs.spelling.read_front.Goals as goal

pub returns-clause-spelled : goal.returns-clause-spelled
returns-clause-spelled c =
    let bytes = c.args.bytes.now in
    if_read c.read_fields.result (entry_of bytes) (λ e. IsEntry e × StandsAt (entry_bytes e) bytes 0) c.read_fields.ensures (λ e is. front_found bytes e (λ i. omega (arith, c.type_inv.bytes i)) is)

pub returns-clause-inside : goal.returns-clause-inside
returns-clause-inside c = let bytes = c.args.bytes.now in err_within c.read_fields.result (entry_of bytes) (length bytes) c.read_fields.ensures (front_within bytes)

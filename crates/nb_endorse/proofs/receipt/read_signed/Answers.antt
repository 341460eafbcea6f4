use Rattle.std.proofs.Common.{◌≡◌, ap, ◌∙◌, arith}
use Rattle.nb_endorse.specs.Spelling.{IsSigned, signed_bytes}
use Rattle.nb_endorse.specs.Reading.{signed_of}
use Rattle.nb_units.proofs.Rows.{reads_ok, if_read}
use Rattle.nb_endorse.proofs.Receipts.{receipt_spells_back, receipt_reads_back}
use Rattle.nb_endorse.proofs.receipt.read_signed.Goals as goal

pub returns-clause-spelled : goal.returns-clause-spelled
returns-clause-spelled c =
    if_read c.read_fields.result (signed_of c.args.bytes.now) (λ s. IsSigned s × (c.args.bytes.now ≡ signed_bytes s)) c.read_fields.ensures (λ s is. receipt_spells_back c.args.bytes.now s (λ i. omega (arith, c.type_inv.bytes i)) is)

pub returns-clause-found : goal.returns-clause-found
returns-clause-found c = λ s is e. reads_ok c.read_fields.result (signed_of c.args.bytes.now) s c.read_fields.ensures (ap signed_of e ∙ receipt_reads_back s is)

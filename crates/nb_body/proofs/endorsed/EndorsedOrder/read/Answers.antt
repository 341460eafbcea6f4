use Rattle.std.proofs.Common.{◌≡◌, ap, ◌∙◌, arith}
use Rattle.nb_body.specs.Spelling.{IsEndorsedOrder, endorsed_bytes}
use Rattle.nb_body.specs.Reading.{endorsed_of}
use Rattle.nb_units.proofs.Rows.{reads_ok, if_read}
use Rattle.nb_body.proofs.Layouts.{endorsed_spells_back, endorsed_reads_back}
use Rattle.nb_body.proofs.endorsed.EndorsedOrder.read.Goals as goal

pub returns-clause-spelled : goal.returns-clause-spelled
returns-clause-spelled c =
    if_read c.read_fields.result (endorsed_of c.args.bytes.now) (λ o. IsEndorsedOrder o × (c.args.bytes.now ≡ endorsed_bytes o)) c.read_fields.ensures.reads (λ o e. endorsed_spells_back c.args.bytes.now o (λ i. omega (arith, c.type_inv.bytes i)) e)

pub returns-clause-found : goal.returns-clause-found
returns-clause-found c = λ o is e. reads_ok c.read_fields.result (endorsed_of c.args.bytes.now) o c.read_fields.ensures.reads (ap endorsed_of e ∙ endorsed_reads_back o is)

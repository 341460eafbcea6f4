use Rattle.std.proofs.Common.{◌≡◌, ap, ◌∙◌, arith}
use Rattle.nb_epo.specs.Spelling.{IsOrder, order_bytes}
use Rattle.nb_epo.specs.Reading.{order_of}
use Rattle.nb_units.proofs.Rows.{reads_ok, if_read}
use Rattle.nb_epo.proofs.Layouts.{order_spells_back, order_reads_back}
use Rattle.nb_epo.proofs.order.read_order.Goals as goal

pub returns-clause-spelled : goal.returns-clause-spelled
returns-clause-spelled c =
    if_read c.read_fields.result (order_of c.args.bytes.now) (λ o. IsOrder o × (c.args.bytes.now ≡ order_bytes o)) c.read_fields.ensures (λ o e. order_spells_back c.args.bytes.now o (λ i. omega (arith, c.type_inv.bytes i)) e)

pub returns-clause-found : goal.returns-clause-found
returns-clause-found c = λ o is e. reads_ok c.read_fields.result (order_of c.args.bytes.now) o c.read_fields.ensures (ap order_of e ∙ order_reads_back o is)

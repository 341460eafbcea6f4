use Rattle.std.proofs.Common.{◌≡◌, ap, ◌∙◌, arith}
use Rattle.nb_standby.specs.Spelling.{IsShipped, shipped_bytes}
use Rattle.nb_standby.specs.Reading.{shipped_of}
use Rattle.nb_units.proofs.Rows.{reads_ok, if_read}
use Rattle.nb_standby.proofs.Layouts.{shipped_spells_back, shipped_reads_back}
use Rattle.nb_standby.proofs.shipped.Shipped.read.Goals as goal

pub returns-clause-spelled : goal.returns-clause-spelled
returns-clause-spelled c =
    if_read c.read_fields.result (shipped_of c.args.bytes.now) (λ r. IsShipped r × (c.args.bytes.now ≡ shipped_bytes r)) c.read_fields.ensures (λ r e. shipped_spells_back c.args.bytes.now r (λ i. omega (arith, c.type_inv.bytes i)) e)

pub returns-clause-found : goal.returns-clause-found
returns-clause-found c = λ r is e. reads_ok c.read_fields.result (shipped_of c.args.bytes.now) r c.read_fields.ensures (ap shipped_of e ∙ shipped_reads_back r is)

use Rattle.std.proofs.Common.{◌≡◌, arith}
use Rattle.nb_ticket.specs.Spelling.{IsGranted, granted_bytes}
use Rattle.nb_ticket.specs.Reading.{granted_of}
use Rattle.nb_units.proofs.Rows.{if_read}
use Rattle.nb_ticket.proofs.Layouts.{granted_spells_back}
use Rattle.nb_ticket.proofs.granted.read_granted.Goals as goal

pub returns-clause-spelled : goal.returns-clause-spelled
returns-clause-spelled c =
    if_read c.read_fields.result (granted_of c.args.bytes.now) (λ g. IsGranted g × (c.args.bytes.now ≡ granted_bytes g)) c.read_fields.ensures (λ g e. granted_spells_back c.args.bytes.now g (λ i. omega (arith, c.type_inv.bytes i)) e)

use Rattle.std.proofs.Common.{◌≡◌, arith}
use Rattle.nb_ticket.specs.Spelling.{IsTicket, ticket_bytes}
use Rattle.nb_ticket.specs.Reading.{ticket_of}
use Rattle.nb_units.proofs.Rows.{if_read}
use Rattle.nb_ticket.proofs.Layouts.{ticket_spells_back}
use Rattle.nb_ticket.proofs.ticket.read_ticket.Goals as goal

pub returns-clause-spelled : goal.returns-clause-spelled
returns-clause-spelled c =
    if_read c.read_fields.result (ticket_of c.args.bytes.now) (λ t. IsTicket t × (c.args.bytes.now ≡ ticket_bytes t)) c.read_fields.ensures (λ t e. ticket_spells_back c.args.bytes.now t (λ i. omega (arith, c.type_inv.bytes i)) e)

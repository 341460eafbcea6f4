use Rattle.std.proofs.Common.{◌≡◌, ap, ◌∙◌, arith}
use Rattle.nb_ticket.specs.Spelling.{IsAsk, ask_bytes}
use Rattle.nb_ticket.specs.Reading.{ask_of}
use Rattle.nb_units.proofs.Rows.{reads_ok, if_read}
use Rattle.nb_ticket.proofs.Layouts.{ask_spells_back, ask_reads_back}
use Rattle.nb_ticket.proofs.ask.TicketAsk.read.Goals as goal

pub returns-clause-spelled : goal.returns-clause-spelled
returns-clause-spelled c =
    if_read c.read_fields.result (ask_of c.args.bytes.now) (λ t. IsAsk t × (c.args.bytes.now ≡ ask_bytes t)) c.read_fields.ensures (λ t e. ask_spells_back c.args.bytes.now t (λ i. omega (arith, c.type_inv.bytes i)) e)

pub returns-clause-found : goal.returns-clause-found
returns-clause-found c = λ t is e. reads_ok c.read_fields.result (ask_of c.args.bytes.now) t c.read_fields.ensures (ap ask_of e ∙ ask_reads_back t is)

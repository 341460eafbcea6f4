-- What opening a ticket gives.
use Rattle.std.proofs.Common.{◌≡◌, ℕ, List, Result, Ok, Err, codes, refl}
use Rattle.nb_ticket.specs.declared.ticket.Ticket.{Ticket}
use Rattle.nb_ticket.specs.declared.ticket.TicketFault.{TicketFault}
use Rattle.nb_ticket.specs.declared.ticket.TicketFault.TheVariants as ticket
use Rattle.nb_ticket.specs.Reading.{ticket_of}
use Rattle.nb_ticket.specs.Opening.{OpensTicket, Admits}
use Rattle.nb_msgs.specs.Tests.{or_seal}
use Rattle.nb_msgs.proofs.Unsealing.{opened_so, no_text}
use Rattle.nb_stall.specs.declared.stall.Stall.{Stall}
use Rattle.nb_stall.specs.Tests.{ticket_in}

admits_so : (stall : Stall) (bytes : List ℕ) (moment : ℕ) (r : Result Ticket TicketFault) → Admits stall.key bytes stall.id moment r → or_seal r ≡ ticket_in stall bytes moment
unfolding ticket_in
admits_so stall bytes moment r a = rw (← opened_so ticket_of stall.key (codes "tick") bytes a.opens.0 (Ok a.ticket) a.opens.1 a.opens.2, a.is) refl

pub ticket_so : (stall : Stall) (bytes : List ℕ) (moment : ℕ) (r : Result Ticket TicketFault) → OpensTicket stall.key bytes stall.id moment r → or_seal r ≡ ticket_in stall bytes moment
unfolding ticket_in
ticket_so stall bytes moment (Ok t) o = admits_so stall bytes moment (Ok t) o
ticket_so stall bytes moment (Err (ticket.BadSeal iv)) o = rw (← no_text ticket_of stall.key (codes "tick") bytes o.0) refl
ticket_so stall bytes moment (Err (ticket.Malformed place)) o = rw (← opened_so ticket_of stall.key (codes "tick") bytes o.0 (Err place) o.1 o.2) refl
ticket_so stall bytes moment (Err (ticket.WrongParty named asked)) o = admits_so stall bytes moment (Err (ticket.WrongParty named asked)) o
ticket_so stall bytes moment (Err (ticket.Expired until now)) o = admits_so stall bytes moment (Err (ticket.Expired until now)) o

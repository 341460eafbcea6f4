-- The verdict on a request for a ticket: its tests in order, each a line.
use Rattle.std.specs.Prelude.{ℕ, List, None, Result, Ok}
use Rattle.nb_units.specs.Fields.{◌>>=◌}
use Rattle.nb_entry.specs.declared.entry.Entry.{Entry}
use Rattle.nb_entry.specs.declared.entry.TheConstants.{CONSUMER, MERCHANT}
use Rattle.nb_book.specs.declared.party.Party.{Party}
use Rattle.nb_endorse.specs.declared.refusal.TheConstants.{IN_BODY}
use Rattle.nb_endorse.specs.declared.refusal.Refusal.{Refusal}
use Rattle.nb_ticket.specs.declared.ask.TicketAsk.{TicketAsk}
use Rattle.nb_ticket.specs.Keys.{ask_tag}
use Rattle.nb_ticket.specs.Reading.{ask_of}
use Rattle.nb_escrow.specs.declared.head.Head.{Head}
use Rattle.nb_escrow.specs.declared.decision.Decision.{Decision}
use Rattle.nb_escrow.specs.Checks.{well_formed, enrolled_as, right_tag}
use Rattle.nb_escrow.specs.Grants.{grant_of}

-- the ticket is granted, under the keys of its parties, and nothing is recorded
abbrev pub ticket_granted : Head → Party → Party → TicketAsk → ℕ → Decision
ticket_granted head consumer merchant asked moment = record {
  reply = grant_of head.house asked moment;
  keys = record { house = head.house; first = consumer.key; second = merchant.key };
  entry = None;
}

-- the tests of a request for a ticket, and what is granted. The refusals of its lines, in order: 10; 11; 14; 11
unfoldable pub ticket_steps : List Entry → Head → List ℕ → ℕ → Result Decision Refusal
ticket_steps H head body moment = do
  asked ← well_formed IN_BODY (ask_of body)
  consumer ← enrolled_as H CONSUMER asked.consumer
  signed ← right_tag asked.tag (ask_tag consumer.key asked.consumer asked.merchant asked.nonce)
  merchant ← enrolled_as H MERCHANT asked.merchant
  Ok (ticket_granted head consumer merchant asked moment)

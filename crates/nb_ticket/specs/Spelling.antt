-- The one spelling of a request for a ticket, of a ticket and of a grant. Numbers are big-endian; a text has its length before it, in
-- four bytes.
use Rattle.std.specs.Prelude.{◌≡◌, ℕ, ◌<◌, ◌≤◌, ◌^◌, List, ◌++◌, length}
use Rattle.nb_units.specs.Fields.{be4, be8, sized}
use Rattle.nb_units.specs.declared.ids.PartyId.{PartyId}
use Rattle.nb_ticket.specs.declared.ask.TicketAsk.{TicketAsk}
use Rattle.nb_ticket.specs.declared.ticket.Ticket.{Ticket}
use Rattle.nb_ticket.specs.declared.ticket.TheConstants.{TICKET_BYTES}
use Rattle.nb_ticket.specs.declared.granted.Granted.{Granted}

-- a request before its tag: consumer 4 | merchant 4 | nonce 8
unfoldable pub unsigned_bytes : PartyId → PartyId → ℕ → List ℕ
unsigned_bytes consumer merchant nonce = be4 consumer.0 ++ be4 merchant.0 ++ be8 nonce

-- a request: what is signed, and the tag 32
abbrev pub ask_bytes : TicketAsk → List ℕ
ask_bytes t = unsigned_bytes t.consumer t.merchant t.nonce ++ t.tag

-- each field of a request is within its limits
pub record IsAsk (t : TicketAsk) : Type 0 where
  pub consumer : t.consumer.0 < 2 ^ 32
  pub merchant : t.merchant.0 < 2 ^ 32
  pub nonce : t.nonce < 2 ^ 64
  pub tag : length t.tag ≡ 32

-- a ticket before it is sealed: consumer 4 | merchant 4 | its last second 8 | session key 32
unfoldable pub ticket_bytes : Ticket → List ℕ
ticket_bytes t = be4 t.consumer.0 ++ be4 t.merchant.0 ++ be8 t.until ++ t.session

-- each field of a ticket is within its limits
pub record IsTicket (t : Ticket) : Type 0 where
  pub consumer : t.consumer.0 < 2 ^ 32
  pub merchant : t.merchant.0 < 2 ^ 32
  pub until : t.until < 2 ^ 64
  pub session : length t.session ≡ 32

-- a grant before it is sealed: merchant 4 | nonce 8 | the ticket's last second 8 | session key 32 | the sealed ticket: its length 4, at most
-- TICKET_BYTES bytes
unfoldable pub granted_bytes : Granted → List ℕ
granted_bytes g = be4 g.merchant.0 ++ be8 g.nonce ++ be8 g.until ++ g.session ++ sized g.ticket

-- each field of a grant is within its limits
pub record IsGranted (g : Granted) : Type 0 where
  pub merchant : g.merchant.0 < 2 ^ 32
  pub nonce : g.nonce < 2 ^ 64
  pub until : g.until < 2 ^ 64
  pub session : length g.session ≡ 32
  pub ticket : length g.ticket ≤ TICKET_BYTES

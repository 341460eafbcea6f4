-- Spelling and reading are the two sides of one thing, and how long a ticket holds.
use Rattle.std.specs.Prelude.{◌≡◌, ◌↔◌, ℕ, ◌<◌, ◌≤◌, ◌^◌, List, length, codes, Result, Ok}
use Rattle.nb_units.specs.Frames.{AreBytes}
use Rattle.nb_units.specs.declared.ids.PartyId.{PartyId}
use Rattle.nb_ticket.specs.declared.ask.TheConstants.{ASK_LABEL}
use Rattle.nb_ticket.specs.declared.ask.TicketAsk.{TicketAsk}
use Rattle.nb_ticket.specs.declared.session.TheConstants.{SESSION_LABEL, TICKET_LIFE}
use Rattle.nb_ticket.specs.declared.ticket.TheConstants.{TICKET_BYTES, TICKET_LABEL}
use Rattle.nb_ticket.specs.declared.ticket.Ticket.{Ticket}
use Rattle.nb_ticket.specs.declared.ticket.TicketFault.{TicketFault}
use Rattle.nb_ticket.specs.declared.granted.TheConstants.{GRANT_BYTES, GRANT_LABEL}
use Rattle.nb_ticket.specs.declared.granted.Granted.{Granted}
use Rattle.nb_ticket.specs.declared.granted.GrantFault.{GrantFault}
use Rattle.nb_ticket.specs.Spelling.{IsAsk, ask_bytes, IsTicket, ticket_bytes, IsGranted, granted_bytes}
use Rattle.nb_ticket.specs.Reading.{ask_of, ticket_of, granted_of}
use Rattle.nb_ticket.specs.Opening.{admitted, OpensTicket, OpensGrant}
use Rattle.nb_ticket.specs.Sealed.{sealed_grant, grant_with_ticket}

-- what was spelled of a request is read as that request
abbrev pub AskReadsBack : Type 0
AskReadsBack = (t : TicketAsk) → IsAsk t → ask_of (ask_bytes t) ≡ Ok t

-- what was read as a request is spelled as those bytes, and is within its limits
abbrev pub AskSpellsBack : Type 0
AskSpellsBack = (bytes : List ℕ) (t : TicketAsk) → AreBytes bytes → ask_of bytes ≡ Ok t → IsAsk t × (bytes ≡ ask_bytes t)

-- two requests with one spelling are one
abbrev pub OneAsk : Type 0
OneAsk = (a b : TicketAsk) → IsAsk a → IsAsk b → ask_bytes a ≡ ask_bytes b → a ≡ b

-- what was spelled of a ticket is read as that ticket
abbrev pub TicketReadsBack : Type 0
TicketReadsBack = (t : Ticket) → IsTicket t → ticket_of (ticket_bytes t) ≡ Ok t

-- what was read as a ticket is spelled as those bytes, and is within its limits
abbrev pub TicketSpellsBack : Type 0
TicketSpellsBack = (bytes : List ℕ) (t : Ticket) → AreBytes bytes → ticket_of bytes ≡ Ok t → IsTicket t × (bytes ≡ ticket_bytes t)

-- two tickets with one spelling are one
abbrev pub OneTicket : Type 0
OneTicket = (a b : Ticket) → IsTicket a → IsTicket b → ticket_bytes a ≡ ticket_bytes b → a ≡ b

-- what was spelled of a grant is read as that grant
abbrev pub GrantedReadsBack : Type 0
GrantedReadsBack = (g : Granted) → IsGranted g → granted_of (granted_bytes g) ≡ Ok g

-- what was read as a grant is spelled as those bytes, and is within its limits
abbrev pub GrantedSpellsBack : Type 0
GrantedSpellsBack = (bytes : List ℕ) (g : Granted) → AreBytes bytes → granted_of bytes ≡ Ok g → IsGranted g × (bytes ≡ granted_bytes g)

-- two grants with one spelling are one
abbrev pub OneGranted : Type 0
OneGranted = (a b : Granted) → IsGranted a → IsGranted b → granted_bytes a ≡ granted_bytes b → a ≡ b

-- a ticket is admitted exactly for its merchant, and up to its last second
abbrev pub HoldsUntil : Type 0
HoldsUntil = (t : Ticket) (asked : PartyId) (now : ℕ) → (admitted t asked now ≡ Ok t) ↔ ((t.merchant.0 ≡ asked.0) × (now ≤ t.until))

-- the bytes are opened under the consumer's key as a grant, and its ticket under the merchant's, whatever the two readers may answer: both
-- tell the merchant, the last second and the session key, the grant the number that was asked under, and the ticket who asked. The ticket
-- is opened for its merchant at every moment up to the last second, and for nobody else and at no later one
pub record Carries (consumer_key merchant_key : List ℕ) (consumer merchant : PartyId) (nonce until : ℕ) (session bytes : List ℕ) : Type 0 where
  pub granted : Granted
  pub long : length bytes ≡ GRANT_BYTES
  pub opens : (r : Result Granted GrantFault) → OpensGrant consumer_key bytes r → r ≡ Ok granted
  pub tells : (granted.merchant ≡ merchant) × (granted.nonce ≡ nonce) × (granted.until ≡ until) × (granted.session ≡ session)
  pub ticket : Ticket
  pub ticket_long : length granted.ticket ≡ TICKET_BYTES
  pub ticket_tells : (ticket.consumer ≡ consumer) × (ticket.merchant ≡ merchant) × (ticket.until ≡ until) × (ticket.session ≡ session)
  pub ticket_opens : (asked : PartyId) (now : ℕ) (r : Result Ticket TicketFault) → OpensTicket merchant_key granted.ticket asked now r
      → (r ≡ Ok ticket) ↔ ((asked.0 ≡ merchant.0) × (now ≤ until))

-- what the house grants with a ticket carries it
abbrev pub GrantCarriesTicket : Type 0
GrantCarriesTicket = (consumer_key merchant_key : List ℕ) (t : Ticket) (nonce : ℕ) → IsTicket t → nonce < 2 ^ 64
    → Carries consumer_key merchant_key t.consumer t.merchant nonce t.until t.session (sealed_grant consumer_key (grant_with_ticket merchant_key t nonce))

-- the limits in numbers
abbrev pub TicketLimitsAre : Type 0
TicketLimitsAre = (TICKET_BYTES ≡ 80) × (GRANT_BYTES ≡ 168) × (TICKET_LIFE ≡ 3600)

-- the labels in texts
abbrev pub LabelsAre : Type 0
LabelsAre = (ASK_LABEL ≡ codes "tick") × (TICKET_LABEL ≡ codes "tick") × (GRANT_LABEL ≡ codes "gran") × (SESSION_LABEL ≡ codes "session")

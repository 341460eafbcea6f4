-- What opening a ticket, and a grant, gives.
use Rattle.std.specs.Prelude.{◌≡◌, ℕ, ◌==◌, nat_lt, List, codes, Result, Ok, Err, if◌then◌else◌}
use Rattle.nb_seal.specs.Seal.{OpensAs, IsNoSeal, iv_shown}
use Rattle.nb_units.specs.declared.ids.PartyId.{PartyId}
use Rattle.nb_ticket.specs.declared.ticket.Ticket.{Ticket}
use Rattle.nb_ticket.specs.declared.ticket.TicketFault.{TicketFault}
use Rattle.nb_ticket.specs.declared.ticket.TicketFault.TheVariants as ticket
use Rattle.nb_ticket.specs.declared.granted.Granted.{Granted}
use Rattle.nb_ticket.specs.declared.granted.GrantFault.{GrantFault}
use Rattle.nb_ticket.specs.declared.granted.GrantFault.TheVariants as grant
use Rattle.nb_ticket.specs.Reading.{ticket_of, granted_of}

-- a ticket for the merchant who asks, at this moment; or that it is for another, or that its last second is over
abbrev pub admitted : Ticket → PartyId → ℕ → Result Ticket TicketFault
admitted t asked now =
    if t.merchant.0 == asked.0 then (if nat_lt t.until now then Err (ticket.Expired t.until now) else Ok t) else Err (ticket.WrongParty t.merchant asked)

-- the ticket that is sealed there; or that it is the seal of no text, and its front; or the bad place of the text
abbrev pub ReadsTicket : List ℕ → List ℕ → Result Ticket TicketFault → Type 0
ReadsTicket key bytes (Ok t) = OpensAs ticket_of key (codes "tick") bytes (Ok t)
ReadsTicket key bytes (Err (ticket.BadSeal iv)) = IsNoSeal key (codes "tick") bytes × (iv ≡ iv_shown bytes)
ReadsTicket key bytes (Err (ticket.Malformed place)) = OpensAs ticket_of key (codes "tick") bytes (Err place)
ReadsTicket key bytes (Err other) = ⊥

-- a ticket is sealed there, and this is what comes of it for who asks at this moment
pub record Admits (key bytes : List ℕ) (asked : PartyId) (now : ℕ) (result : Result Ticket TicketFault) : Type 0 where
  pub ticket : Ticket
  pub opens : OpensAs ticket_of key (codes "tick") bytes (Ok ticket)
  pub is : result ≡ admitted ticket asked now

-- what is read there, and where that is a ticket, whether it holds
abbrev pub OpensTicket : List ℕ → List ℕ → PartyId → ℕ → Result Ticket TicketFault → Type 0
OpensTicket key bytes asked now (Err (ticket.BadSeal iv)) = IsNoSeal key (codes "tick") bytes × (iv ≡ iv_shown bytes)
OpensTicket key bytes asked now (Err (ticket.Malformed place)) = OpensAs ticket_of key (codes "tick") bytes (Err place)
OpensTicket key bytes asked now result = Admits key bytes asked now result

-- the grant that is sealed there; or that it is the seal of no text, and its front; or the bad place of the text
abbrev pub OpensGrant : List ℕ → List ℕ → Result Granted GrantFault → Type 0
OpensGrant key bytes (Ok g) = OpensAs granted_of key (codes "gran") bytes (Ok g)
OpensGrant key bytes (Err (grant.BadSeal iv)) = IsNoSeal key (codes "gran") bytes × (iv ≡ iv_shown bytes)
OpensGrant key bytes (Err (grant.Malformed place)) = OpensAs granted_of key (codes "gran") bytes (Err place)

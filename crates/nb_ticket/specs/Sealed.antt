-- What is sealed: a ticket for its merchant, and a grant for the consumer, with the ticket in it.
use Rattle.std.specs.Prelude.{ℕ, List, codes}
use Rattle.nb_seal.specs.Seal.{seal_of}
use Rattle.nb_ticket.specs.declared.ticket.Ticket.{Ticket}
use Rattle.nb_ticket.specs.declared.granted.Granted.{Granted}
use Rattle.nb_ticket.specs.Spelling.{ticket_bytes, granted_bytes}

-- a ticket, sealed under the merchant's key and the label "tick"
abbrev pub sealed_ticket : List ℕ → Ticket → List ℕ
sealed_ticket key t = seal_of key (codes "tick") (ticket_bytes t)

-- a grant, sealed under the consumer's key and the label "gran"
abbrev pub sealed_grant : List ℕ → Granted → List ℕ
sealed_grant key g = seal_of key (codes "gran") (granted_bytes g)

-- what the house grants with a ticket, which is sealed under the merchant's key, under the number that the consumer asked under
abbrev pub grant_with_ticket : List ℕ → Ticket → ℕ → Granted
grant_with_ticket merchant_key t nonce = record {
  merchant = t.merchant;
  nonce = nonce;
  until = t.until;
  session = t.session;
  ticket = sealed_ticket merchant_key t;
}

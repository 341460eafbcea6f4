-- What a stall opens: a ticket, and requests under a session key.
use Rattle.std.specs.Prelude.{ℕ, List, codes, Result, Ok, Err}
use Rattle.sha2.specs.Sha256.{sha256}
use Rattle.nb_units.specs.Fields.{◌>>=◌}
use Rattle.nb_ticket.specs.declared.ticket.Ticket.{Ticket}
use Rattle.nb_ticket.specs.Reading.{ticket_of}
use Rattle.nb_ticket.specs.Opening.{admitted}
use Rattle.nb_body.specs.declared.price_request.PriceRequest.{PriceRequest}
use Rattle.nb_body.specs.Spelling.{price_request_bytes}
use Rattle.nb_msgs.specs.declared.node.Reason.{Reason}
use Rattle.nb_msgs.specs.Tests.{or_seal, opened}
use Rattle.nb_stall.specs.declared.opening.AskedPrice.{AskedPrice}
use Rattle.nb_stall.specs.declared.stall.Stall.{Stall}

-- the ticket opens under the stall's key, for this merchant at this moment
unfoldable pub ticket_in : Stall → List ℕ → ℕ → Result Ticket Reason
ticket_in stall bytes moment = do
  ticket ← opened ticket_of stall.key (codes "tick") bytes
  or_seal (admitted ticket stall.id moment)

-- the digest of a request for a price
abbrev pub request_digest : PriceRequest → List ℕ
request_digest r = sha256 (price_request_bytes r)

-- what was opened, without its digest
abbrev pub request_in : Result AskedPrice Reason → Result PriceRequest Reason
request_in (Ok asked) = Ok asked.request
request_in (Err why) = Err why

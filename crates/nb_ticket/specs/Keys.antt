-- The tag of a request, and the session key (HMAC-SHA-256, RFC 2104, section 2); how long a ticket holds.
use Rattle.std.specs.Prelude.{ℕ, ◌+◌, ◌-◌, ◌^◌, List, ◌++◌, codes, min}
use Rattle.nb_seal.specs.Hmac.{hmac_of}
use Rattle.nb_units.specs.Fields.{be4, be8}
use Rattle.nb_units.specs.declared.ids.PartyId.{PartyId}
use Rattle.nb_ticket.specs.Spelling.{unsigned_bytes}
use Rattle.nb_ticket.specs.declared.session.TheConstants.{TICKET_LIFE}

-- the tag of a request under the consumer's key: over "tick" and its bytes before the tag
abbrev pub ask_tag : List ℕ → PartyId → PartyId → ℕ → List ℕ
ask_tag key consumer merchant nonce = hmac_of key (codes "tick" ++ unsigned_bytes consumer merchant nonce)

-- what a session key is made of: consumer 4 | merchant 4 | nonce 8 | moment 8
unfoldable pub named_bytes : PartyId → PartyId → ℕ → ℕ → List ℕ
named_bytes consumer merchant nonce moment = be4 consumer.0 ++ be4 merchant.0 ++ be8 nonce ++ be8 moment

-- the key that consumer and merchant share, under the house's key
abbrev pub session_key_of : List ℕ → PartyId → PartyId → ℕ → ℕ → List ℕ
session_key_of house consumer merchant nonce moment = hmac_of house (codes "session" ++ named_bytes consumer merchant nonce moment)

-- the last second of a ticket that is granted at a moment
abbrev pub last_second : ℕ → ℕ
last_second moment = min (moment + TICKET_LIFE) (2 ^ 64 - 1)

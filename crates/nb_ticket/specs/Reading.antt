-- What bytes spell, read field by field at the place of each: the value, or the place of the first field that fails.
use Rattle.std.specs.Prelude.{ℕ, ◌+◌, List, length, Result, Ok}
use Rattle.nb_units.specs.Fields.{◌>>=◌, u32_at, u64_at, raw_at, bytes_at, done_at, or_place}
use Rattle.nb_ticket.specs.declared.ask.TicketAsk.{TicketAsk}
use Rattle.nb_ticket.specs.declared.ticket.Ticket.{Ticket}
use Rattle.nb_ticket.specs.declared.ticket.TheConstants.{TICKET_BYTES}
use Rattle.nb_ticket.specs.declared.granted.Granted.{Granted}

-- the request that the bytes spell, or the bad place
unfoldable pub ask_of : List ℕ → Result TicketAsk ℕ
ask_of bytes = do
  consumer ← or_place (u32_at bytes 0)
  merchant ← or_place (u32_at bytes 4)
  nonce ← or_place (u64_at bytes 8)
  tag ← or_place (raw_at 32 bytes 16)
  end ← or_place (done_at bytes 48)
  Ok (record { consumer = record { 0 = consumer }; merchant = record { 0 = merchant }; nonce = nonce; tag = tag })

-- the ticket that the bytes spell, or the bad place
unfoldable pub ticket_of : List ℕ → Result Ticket ℕ
ticket_of bytes = do
  consumer ← or_place (u32_at bytes 0)
  merchant ← or_place (u32_at bytes 4)
  until ← or_place (u64_at bytes 8)
  session ← or_place (raw_at 32 bytes 16)
  end ← or_place (done_at bytes 48)
  Ok (record { consumer = record { 0 = consumer }; merchant = record { 0 = merchant }; until = until; session = session })

-- the grant that the bytes spell, or the bad place
unfoldable pub granted_of : List ℕ → Result Granted ℕ
granted_of bytes = do
  merchant ← or_place (u32_at bytes 0)
  nonce ← or_place (u64_at bytes 4)
  until ← or_place (u64_at bytes 12)
  session ← or_place (raw_at 32 bytes 20)
  ticket ← or_place (bytes_at TICKET_BYTES bytes 52)
  end ← or_place (done_at bytes (56 + length ticket))
  Ok (record { merchant = record { 0 = merchant }; nonce = nonce; until = until; session = session; ticket = ticket })

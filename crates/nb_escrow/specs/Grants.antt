-- What a request for a ticket has to be for it to be granted, and what is granted, in the words of the entries and of grammars. No
-- test of the verdict is cited here.
use Rattle.std.specs.Prelude.{◌≡◌, ℕ, List, Some, Ok}
use Rattle.nb_entry.specs.declared.entry.Entry.{Entry}
use Rattle.nb_entry.specs.declared.entry.TheConstants.{CONSUMER, MERCHANT}
use Rattle.nb_book.specs.declared.party.Party.{Party}
use Rattle.nb_book.specs.Searches.{party_in}
use Rattle.nb_endorse.specs.declared.reply.Reply.{Reply}
use Rattle.nb_endorse.specs.declared.reply.Reply.TheVariants.{Grant}
use Rattle.nb_ticket.specs.declared.ask.TicketAsk.{TicketAsk}
use Rattle.nb_ticket.specs.Keys.{ask_tag, session_key_of, last_second}
use Rattle.nb_ticket.specs.Reading.{ask_of}

-- a request for a ticket is authentic over these entries: its body is spelled as it should be, a party that is enrolled as a consumer
-- asks, and the tag is the one that the request has under that party's key
pub record IsAuthenticAsk (H : List Entry) (body : List ℕ) (asked : TicketAsk) (consumer : Party) : Type 0 where
  pub spelled : ask_of body ≡ Ok asked
  pub enrolled : party_in H asked.consumer ≡ Some consumer
  pub buys : consumer.role ≡ CONSUMER
  pub signed : asked.tag ≡ ask_tag consumer.key asked.consumer asked.merchant asked.nonce

-- it may be granted: it asks for a ticket to a party that is enrolled as a merchant
pub record MayGrant (H : List Entry) (body : List ℕ) (asked : TicketAsk) (consumer merchant : Party) : Type 0 where
  pub authentic : IsAuthenticAsk H body asked consumer
  pub enrolled : party_in H asked.merchant ≡ Some merchant
  pub sells : merchant.role ≡ MERCHANT

-- the grant of it at a moment: its last second is 3600 behind the moment, or the last that there is, and the session key is made of the
-- house's key, the two parties, the number that was asked under, and the moment
abbrev pub grant_of : List ℕ → TicketAsk → ℕ → Reply
grant_of house asked moment =
    Grant asked.consumer asked.merchant asked.nonce (last_second moment) (session_key_of house asked.consumer asked.merchant asked.nonce moment)

-- A world: nodes, packets, calls, two lists of entries, a clock; and what it goes by.
use Rattle.std.specs.Prelude.{ℕ, Bool, true, false, List, ◌++◌, Option, None, Some}
use Rattle.std.specs.Option.{option_to_list}
use Rattle.nb_units.specs.declared.ids.PartyId.{PartyId}
use Rattle.nb_entry.specs.declared.entry.Entry.{Entry}
use Rattle.nb_turns.specs.Turns.{Request}
use Rattle.nb_world.specs.declared.call.Call.{Call}
use Rattle.nb_world.specs.declared.packet.Packet.{Packet}
use Rattle.nb_world.specs.declared.packet.Sending.{Sending}
use Rattle.nb_wallet.specs.declared.wallet.Start.{Start}
use Rattle.nb_world.specs.declared.turning.Acknowledged.{Acknowledged}
use Rattle.nb_world.specs.declared.turning.Origin.{Origin}
use Rattle.nb_world.specs.declared.turning.Stage.{Stage}
use Rattle.nb_world.specs.declared.turning.Stage.TheVariants as stage
use Rattle.nb_world.specs.declared.turning.Turning.{Turning}
use Rattle.nb_world.specs.declared.turning.Verdict.{Verdict}

-- what a node does: nothing, or it goes on to a state and may send something
pub data Going (S : Type 0) : Type 0 where
  Stays : Going S
  Goes : S → Option Sending → Going S

-- what a world goes by: the verdict on a request over some entries, which bodies are spelled as those of their kind are, and
-- what consumers and merchants do
pub record Rules (C M : Type 0) : Type 0 where
  pub verdict : List Entry → Request → Verdict
  pub is_body : ℕ → List ℕ → Bool
  -- the consumer is this party; it knows the purchase of this number
  pub is_consumer : PartyId → C → Bool
  pub has_purchase : ℕ → C → Bool
  -- it starts a purchase, hears a kind and a body, has heard nothing of a purchase for long, starts again
  pub consumer_starts : C → Start → Going C
  pub consumer_hears : C → ℕ → List ℕ → Going C
  pub consumer_waited : C → ℕ → Going C
  pub consumer_again : C → C
  -- the merchant is this party; it knows the consumer's purchase of this number
  pub is_merchant : PartyId → M → Bool
  pub has_sale : PartyId → ℕ → M → Bool
  -- it hears a kind and a body at a moment, has heard nothing of a purchase for long, starts again
  pub merchant_hears : M → ℕ → List ℕ → ℕ → Going M
  pub merchant_waited : M → PartyId → ℕ → Going M
  pub merchant_again : M → M

-- consumers, merchants, packets, calls, the turn, the entries that last and those that the house works on, where they came from, what was acknowledged, the
-- moment
pub record World (C M : Type 0) : Type 0 where
  pub consumers : List C
  pub merchants : List M
  -- all that were ever made
  pub packets : List Packet
  -- all that the house was ever asked
  pub calls : List Call
  -- the turn that the house is at
  pub turn : Option Turning
  -- the entries that every stop leaves, and those that the house works on
  pub durable : List Entry
  pub server : List Entry
  -- the calls that entries came by, and the entries whose replies were handed out
  pub origins : List Origin
  pub acknowledged : List Acknowledged
  pub moment : ℕ

-- what a packet asks of the house at a moment
abbrev pub request_of : Packet → ℕ → Request
request_of packet moment = record { kind = packet.kind; body = packet.body; moment = moment }

-- the stage of a turn is that the verdict is made, that its entry is written and not opened
abbrev pub is_decided : Stage → Bool
is_decided stage.Decided = true
is_decided other = false

-- whether an entry of a turn is written and not opened
abbrev pub is_written : Stage → Bool
is_written stage.Written = true
is_written other = false

-- the entry of a verdict that is written and not opened
abbrev pub written_at : Stage → Option Entry → Option Entry
written_at stage.Written entry = entry
written_at other entry = None

-- the entry of the turn, if there is one, that is written and not opened
abbrev pub entry_written : Option Turning → Option Entry
entry_written None = None
entry_written (Some t) = written_at t.stage t.verdict.entry

-- the commit list: the durable entries, and then the one that is written and not opened
abbrev pub commits : {C M : Type 0} → World C M → List Entry
commits w = w.durable ++ option_to_list (entry_written w.turn)

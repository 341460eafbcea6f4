-- What the steps of nodes do to a world: one node goes on, and what it sends is on the network.
use Rattle.std.specs.Prelude.{◌≡◌, ◌≢◌, ℕ, ◌≤◌, List, [], ◌∷◌, ◌++◌, length, Option, None, Some, IsTrue}
use Rattle.std.specs.List.{slice_get}
use Rattle.nb_units.specs.declared.limits.TheConstants.{MAX_MEMO}
use Rattle.nb_body.specs.declared.limits.TheConstants.{MAX_REQUEST}
use Rattle.nb_units.specs.declared.ids.PartyId.{PartyId}
use Rattle.nb_world.specs.declared.event.Event.TheVariants as on
use Rattle.nb_world.specs.declared.packet.Maker.{Maker}
use Rattle.nb_world.specs.declared.packet.Maker.TheVariants as by
use Rattle.nb_world.specs.declared.packet.Packet.{Packet}
use Rattle.nb_world.specs.declared.packet.Sending.{Sending}
use Rattle.nb_msgs.specs.declared.node.To.TheVariants as to
use Rattle.nb_wallet.specs.declared.wallet.Start.{Start}
use Rattle.nb_world.specs.World.{Going, Stays, Goes, Rules, World}
use Rattle.nb_world.specs.Steps.{next}
use Rattle.nb_world.specs.Fits.{IsConsumer, IsMerchant}

-- among nodes the one at a place became another, and all others are as before
pub record Became {S : Type 0} (old : List S) (place : ℕ) (s : S) (new : List S) : Type 0 where
  pub as_many : length new ≡ length old
  pub stands : slice_get new place ≡ Some s
  pub others : (k : ℕ) → k ≢ place → slice_get new k ≡ slice_get old k

-- the house, its calls and the clock are as before
pub record IsSameHouse {C M : Type 0} (w behind : World C M) : Type 0 where
  pub calls : behind.calls ≡ w.calls
  pub turn : behind.turn ≡ w.turn
  pub durable : behind.durable ≡ w.durable
  pub server : behind.server ≡ w.server
  pub origins : behind.origins ≡ w.origins
  pub acknowledged : behind.acknowledged ≡ w.acknowledged
  pub moment : behind.moment ≡ w.moment

-- the packets are the old ones, and then what this maker sent, if anything
abbrev pub HasSent : {C M : Type 0} → World C M → Maker → Option Sending → World C M → Type 0
HasSent w maker None behind = behind.packets ≡ w.packets
HasSent w maker (Some s) behind = behind.packets ≡ w.packets ++ record { kind = s.kind; body = s.body; maker = maker; to = s.to } ∷ []

-- the consumer, the merchant, at this place became this one and sent this, and all else is as before
pub record ConsumerWent {C M : Type 0} (w : World C M) (place : ℕ) (id : PartyId) (c : C) (sent : Option Sending) (behind : World C M) : Type 0 where
  pub became : Became w.consumers place c behind.consumers
  pub merchants : behind.merchants ≡ w.merchants
  pub has_sent : HasSent w (by.Consumer id) sent behind
  pub house : IsSameHouse w behind

-- the merchant at this place became this one and sent this, and all else is as before
pub record MerchantWent {C M : Type 0} (w : World C M) (place : ℕ) (id : PartyId) (m : M) (sent : Option Sending) (behind : World C M) : Type 0 where
  pub became : Became w.merchants place m behind.merchants
  pub consumers : behind.consumers ≡ w.consumers
  pub has_sent : HasSent w (by.Merchant id) sent behind
  pub house : IsSameHouse w behind

-- it went on so, or where it stays nothing changed
abbrev pub ConsumerGoes : {C M : Type 0} → World C M → ℕ → PartyId → Going C → World C M → Type 0
ConsumerGoes w place id Stays behind = behind ≡ w
ConsumerGoes w place id (Goes c sent) behind = ConsumerWent w place id c sent behind

-- so it went on, or where it stays nothing changed
abbrev pub MerchantGoes : {C M : Type 0} → World C M → ℕ → PartyId → Going M → World C M → Type 0
MerchantGoes w place id Stays behind = behind ≡ w
MerchantGoes w place id (Goes m sent) behind = MerchantWent w place id m sent behind

-- what the events of this consumer do: it starts a purchase, it hears a packet for it that is spelled as those of its kind are, it has heard nothing
-- of a purchase that it knows for long, it starts again
pub record ConsumerDoes {C M : Type 0} (p : Rules C M) (w : World C M) (place : ℕ) (id : PartyId) (c : C) : Type 0 where
  pub starts : (start : Start) → length start.request ≤ MAX_REQUEST → length start.memo ≤ MAX_MEMO
      → ConsumerGoes w place id (p.consumer_starts c start) (next p w (on.Buy id start))
  pub hears : (k : ℕ) (packet : Packet) → slice_get w.packets k ≡ Some packet → packet.to ≡ to.Consumer id → IsTrue (p.is_body packet.kind packet.body)
      → ConsumerGoes w place id (p.consumer_hears c packet.kind packet.body) (next p w (on.Deliver k))
  pub waited : (tid : ℕ) → IsTrue (p.has_purchase tid c) → ConsumerGoes w place id (p.consumer_waited c tid) (next p w (on.QuietConsumer id tid))
  pub again : ConsumerWent w place id (p.consumer_again c) None (next p w (on.RestartConsumer id))

-- what the events of this merchant do: it hears such a packet at the clock's moment, it has heard nothing of a consumer's purchase that it knows for
-- long, it starts again
pub record MerchantDoes {C M : Type 0} (p : Rules C M) (w : World C M) (place : ℕ) (id : PartyId) (m : M) : Type 0 where
  pub hears : (k : ℕ) (packet : Packet) → slice_get w.packets k ≡ Some packet → packet.to ≡ to.Merchant id → IsTrue (p.is_body packet.kind packet.body)
      → MerchantGoes w place id (p.merchant_hears m packet.kind packet.body w.moment) (next p w (on.Deliver k))
  pub waited : (consumer : PartyId) (tid : ℕ) → IsTrue (p.has_sale consumer tid m)
      → MerchantGoes w place id (p.merchant_waited m consumer tid) (next p w (on.QuietMerchant id consumer tid))
  pub again : MerchantWent w place id (p.merchant_again m) None (next p w (on.RestartMerchant id))

-- so it is of each consumer, of each merchant, of every world
abbrev pub ConsumerSteps : Type 0 → Type 0 → Type 0
ConsumerSteps C M = (p : Rules C M) (w : World C M) (id : PartyId) (c : C) (is : IsConsumer p w id c) → ConsumerDoes p w is.place id c

-- law: so it is of each merchant of every world
abbrev pub MerchantSteps : Type 0 → Type 0 → Type 0
MerchantSteps C M = (p : Rules C M) (w : World C M) (id : PartyId) (m : M) (is : IsMerchant p w id m) → MerchantDoes p w is.place id m

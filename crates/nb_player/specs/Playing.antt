-- What playing a script answers.
use Rattle.std.specs.Prelude.{◌≡◌, ℕ, List, [], ◌∷◌, ◌++◌, length, map, Result, Ok, Err}
use Rattle.nb_units.specs.declared.limits.TheConstants.{FIRST_VERSION}
use Rattle.nb_world.specs.World.{World}
use Rattle.nb_world.specs.declared.event.Event.{Event}
use Rattle.nb_world.specs.declared.event.Event.TheVariants as event
use Rattle.nb_msgs.specs.declared.node.To.{To}
use Rattle.nb_msgs.specs.declared.node.To.TheVariants as to
use Rattle.nb_consumer.specs.State.{Buyer}
use Rattle.nb_merchant.specs.Shop.{Shop}
use Rattle.nb_wallet.specs.declared.wallet.Wallet.{Wallet}
use Rattle.nb_script.specs.declared.act.Act.{Act}
use Rattle.nb_script.specs.declared.act.Act.TheVariants as on
use Rattle.nb_script.specs.declared.act.Addressee.{Addressee}
use Rattle.nb_script.specs.declared.act.Addressee.TheVariants as for
use Rattle.nb_script.specs.declared.line.Consumer.{Consumer}
use Rattle.nb_script.specs.declared.fault.PlayFault.{PlayFault}
use Rattle.nb_script.specs.declared.fault.PlayFault.TheVariants.{BadLine, NoMemory}
use Rattle.nb_script.specs.Settings.{Setting}
use Rattle.nb_script.specs.Reads.{ScriptSays, lines_of}
use Rattle.nb_simulator.specs.declared.setup.Setup.{Setup}
use Rattle.nb_simulator.specs.Setups.{IsLawful}
use Rattle.nb_simulator.specs.Laws.{behind}
use Rattle.nb_player.specs.Report.{ReportIs}
use Rattle.nb_player.specs.Stock.{merchants_of}

-- a packet is delivered, and a call goes through all steps; what of these does not fit changes nothing
abbrev pub served : ℕ → ℕ → List Event
served packet call = event.Deliver packet ∷ event.Turn call ∷ event.Write call ∷ event.Open call ∷ event.Answer call ∷ []

-- whom a packet is for
abbrev pub addressee : Addressee → To
addressee for.Server = to.Server
addressee (for.Consumer id) = to.Consumer id
addressee (for.Merchant id) = to.Merchant id

-- the event of what a line lets happen; of a served packet its delivery
abbrev pub event_of : Act → Event
event_of (on.Clock moment) = event.Clock moment
event_of (on.Buy consumer tid merchant product limit) =
    event.Buy consumer (record { transaction = tid; merchant = merchant; product = product; limit = limit; request = []; memo = [] })
event_of (on.Deliver packet) = event.Deliver packet
event_of (on.Turn call) = event.Turn call
event_of (on.Write call) = event.Write call
event_of (on.Open call) = event.Open call
event_of (on.Answer call) = event.Answer call
event_of (on.Serve packet) = event.Deliver packet
event_of (on.QuietConsumer consumer tid) = event.QuietConsumer consumer tid
event_of (on.QuietMerchant merchant consumer tid) = event.QuietMerchant merchant consumer tid
event_of (on.Stop keep) = event.Stop keep
event_of (on.RestartConsumer consumer) = event.RestartConsumer consumer
event_of (on.RestartMerchant merchant) = event.RestartMerchant merchant
event_of (on.Inject whom kind body) = event.Inject (addressee whom) kind body

-- the events of what a line lets happen: the call that a served packet makes has the number of the calls before it
abbrev pub events_of : World Buyer Shop → Act → List Event
events_of w (on.Serve packet) = served packet (length w.calls)
events_of w other = event_of other ∷ []

-- who buys, with what the house enrolled it with
abbrev pub wallet_of : Consumer → Wallet
wallet_of c = record { id = c.id; acct = c.acct; nonce = c.nonce; key = c.key }

-- those of lines one behind the other, behind these events of a set-up
abbrev pub events_behind : Setup → List Event → List Act → List Event
events_behind s es [] = es
events_behind s es (a ∷ acts) = events_behind s (es ++ events_of (behind s es) a) acts

-- a set-up is the script's: a house of the first version, without fees, with its head, its cap and its entries, its consumers, and its merchants with their
-- goods
pub record IsSetUpOf (said : Setting) (s : Setup) : Type 0 where
  pub head : s.head ≡ said.head
  pub version : s.version ≡ FIRST_VERSION
  pub rate : s.rate ≡ 0
  pub cap : s.cap ≡ said.cap
  pub consumers : s.consumers.items ≡ map wallet_of said.consumers
  pub merchants : s.merchants.items ≡ merchants_of said.merchants said.shelves
  pub entries : s.entries.items ≡ said.entries

-- a lawful set-up is the one of a script, and this is the report of its world behind the events of the lines
pub record TellsOf (said : Setting) (report : List ℕ) : Type 0 where
  pub setup : Setup
  pub is : IsSetUpOf said setup
  pub lawful : IsLawful setup
  pub told : ReportIs (behind setup (events_behind setup [] said.acts)) report

-- the lines say a script, and what was appended is its report
pub record Plays (text old new : List ℕ) : Type 0 where
  pub said : Setting
  pub report : List ℕ
  pub says : ScriptSays (lines_of text) (Ok said)
  pub tells : TellsOf said report
  pub appended : new ≡ old ++ report

-- a script was played, or its first bad line was told and nothing was appended; without memory nothing was appended
abbrev pub PlayIs : List ℕ → List ℕ → List ℕ → Result (Unit {0}) PlayFault → Type 0
PlayIs text old new (Ok done) = Plays text old new
PlayIs text old new (Err (BadLine n)) = ScriptSays (lines_of text) (Err n) × (new ≡ old)
PlayIs text old new (Err NoMemory) = new ≡ old

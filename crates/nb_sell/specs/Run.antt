-- Selling as a run: the frames that are heard, one after another, what each keeps and sends, to whom, and whose frame may come next.
use Rattle.std.specs.Prelude.{◌≡◌, ℕ, ◌==◌, if◌then◌else◌, Bool, false, List, [], ◌∷◌, ◌++◌, Option, Some, None, Result, Ok, Err}
use Rattle.std.specs.List.{flat_map, AllByRecursion}
use Rattle.nb_units.specs.Frames.{Frame}
use Rattle.nb_units.specs.declared.ids.PartyId.{PartyId}
use Rattle.nb_msgs.specs.Bodies.{message_bytes}
use Rattle.nb_msgs.specs.Reading.{message_of}
use Rattle.nb_msgs.specs.declared.message.Message.{Message}
use Rattle.nb_msgs.specs.declared.node.Reason.{Reason}
use Rattle.nb_msgs.specs.declared.node.Reason.TheVariants as reason
use Rattle.nb_msgs.specs.declared.node.To.{To}
use Rattle.nb_msgs.specs.declared.node.To.TheVariants as to
use Rattle.nb_stall.specs.declared.item.Item.{Item}
use Rattle.nb_stall.specs.Spelling.{IsItem}
use Rattle.nb_merchant.specs.declared.answer.Answer.{Answer}
use Rattle.nb_merchant.specs.Shop.{Shop}
use Rattle.nb_merchant.specs.Table.{heard, heard_of_house, asker_in, kept_by, after}
use Rattle.nb_sell.specs.declared.peer.Peer.{Peer}
use Rattle.nb_sell.specs.declared.peer.Peer.TheVariants.{House, Consumer}

-- what is done: a frame of the consumer's link is heard, at a moment, or one of the house's
pub data Act : Type 0 where
  Hears : Frame → ℕ → Act
  Told : Frame → Act

-- ---- what an act does

-- the row of what a body was read as, at a moment. A body that spells no message is ignored
abbrev pub heard_as : Shop → ℕ → Result Message ℕ → Result Answer Reason
heard_as shop moment (Ok m) = heard shop m moment
heard_as shop moment (Err place) = Err reason.Kind

-- the row of a consumer's frame at a moment
unfoldable pub heard_row : Shop → Frame → ℕ → Result Answer Reason
heard_row shop f moment = heard_as shop moment (message_of f.kind f.body)

-- the same of the house
abbrev pub told_as : Shop → Result Message ℕ → Result Answer Reason
told_as shop (Ok m) = heard_of_house shop m
told_as shop (Err place) = Err reason.Kind

-- the row of a frame of the house
unfoldable pub told_row : Shop → Frame → Result Answer Reason
told_row shop f = told_as shop (message_of f.kind f.body)

-- the row of an act
abbrev pub act_row : Shop → Act → Result Answer Reason
act_row shop (Hears f moment) = heard_row shop f moment
act_row shop (Told f) = told_row shop f

-- the consumer of what a body was read as, by the ticket that it shows
abbrev pub asker_as : Shop → ℕ → Result Message ℕ → Option PartyId
asker_as shop moment (Ok m) = asker_in shop m moment
asker_as shop moment (Err place) = None

-- that of a frame, at a moment
unfoldable pub frame_asker : Shop → Frame → ℕ → Option PartyId
frame_asker shop f moment = asker_as shop moment (message_of f.kind f.body)

-- ---- whom it is for

-- the consumer is the one whose message was last read
abbrev pub is_last : Option PartyId → PartyId → Bool
is_last None consumer = false
is_last (Some last) consumer = last.0 == consumer.0

-- The link that a message is sent to, where this consumer's message was last read: the house's, or the consumer's, where it is for that one. A message for
-- another consumer is sent to none
abbrev pub link_for : Option PartyId → To → Option Peer
link_for last to.Server = Some House
link_for last (to.Consumer consumer) = if is_last last consumer then Some Consumer else None
link_for last (to.Merchant merchant) = None

-- whose frame is read behind a message: behind one to the house one of the house, and else the consumer's next
abbrev pub next_of : To → Peer
next_of to.Server = House
next_of (to.Consumer consumer) = Consumer
next_of (to.Merchant merchant) = Consumer

-- behind a row. Behind one that is ignored nothing is read any more
abbrev pub awaited : Result Answer Reason → Option Peer
awaited (Ok answer) = Some (next_of answer.to)
awaited (Err why) = None

-- ---- one act behind another

-- the merchant, the consumer whose message was last read, and whose frame is read next
pub record Way : Type 0 where
  pub shop : Shop
  pub last : Option PartyId
  pub awaits : Option Peer

-- these as one
abbrev pub way : Shop → Option PartyId → Option Peer → Way
way shop last awaits = record { shop = shop; last = last; awaits = awaits }

-- at the outset nobody's message was read, and the consumer's first frame is
abbrev pub outset : Shop → Way
outset shop = way shop None (Some Consumer)

-- whose message was last read behind an act
abbrev pub last_in : Way → Act → Option PartyId
last_in w (Hears f moment) = frame_asker w.shop f moment
last_in w (Told f) = w.last

-- behind one act
abbrev pub onward : Way → Act → Way
onward w a = way (after w.shop (act_row w.shop a)) (last_in w a) (awaited (act_row w.shop a))

-- behind acts
abbrev pub behind : Way → List Act → Way
behind w [] = w
behind w (a ∷ acts) = behind (onward w a) acts

-- the items that they keep
abbrev pub kept : Way → List Act → List Item
kept w [] = []
kept w (a ∷ acts) = kept_by (act_row w.shop a) ++ kept (onward w a) acts

-- what is of the second peer, where it is the first, and else nothing
abbrev pub only_of : {A : Type 0} → Peer → Option Peer → List A → List A
only_of peer None xs = []
only_of House (Some House) xs = xs
only_of House (Some Consumer) xs = []
only_of Consumer (Some House) xs = []
only_of Consumer (Some Consumer) xs = xs

-- the bytes that a row sends to a peer
abbrev pub bytes_in : Peer → Option PartyId → Result Answer Reason → List ℕ
bytes_in peer last (Ok answer) = only_of peer (link_for last answer.to) (message_bytes answer.message)
bytes_in peer last (Err why) = []

-- the bytes that acts send to a peer
abbrev pub bytes_to : Peer → Way → List Act → List ℕ
bytes_to peer w [] = []
bytes_to peer w (a ∷ acts) = bytes_in peer (last_in w a) (act_row w.shop a) ++ bytes_to peer (onward w a) acts

-- the frame of a peer that an act hears, if it is that peer's
abbrev pub frame_in : Peer → Act → List Frame
frame_in House (Hears f moment) = []
frame_in Consumer (Hears f moment) = f ∷ []
frame_in House (Told f) = f ∷ []
frame_in Consumer (Told f) = []

-- the frames that came over the link of a peer
abbrev pub frames_on : Peer → List Act → List Frame
frames_on peer acts = flat_map (frame_in peer) acts

-- the moment at which an act hears a consumer's frame
abbrev pub moment_in : Act → List ℕ
moment_in (Hears f moment) = moment ∷ []
moment_in (Told f) = []

-- all of them, one for each frame of the consumer's link, in order
abbrev pub moments_of : List Act → List ℕ
moments_of acts = flat_map moment_in acts

-- ---- what may come next

-- whose frame an act hears
abbrev pub peer_in : Act → Peer
peer_in (Hears f moment) = Consumer
peer_in (Told f) = House

-- each act hears a frame of the peer whose frame is read then
abbrev pub Obeys : Way → List Act → Type 0
Obeys w [] = Unit {0}
Obeys w (a ∷ acts) = (w.awaits ≡ Some (peer_in a)) × Obeys (onward w a) acts

-- each field of what is kept has its width
abbrev pub AreItems : Way → List Act → Type 0
AreItems w [] = Unit {0}
AreItems w (a ∷ acts) = AllByRecursion IsItem (kept_by (act_row w.shop a)) × AreItems (onward w a) acts

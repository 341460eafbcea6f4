-- A purchase as a run: what is done, one thing after another, what each of these keeps and sends, and what may come next.
use Rattle.std.specs.Prelude.{◌≡◌, ℕ, ◌==◌, Bool, true, false, List, [], ◌∷◌, Option, Some, None, Result, Ok, Err, IfOk}
use Rattle.std.specs.List.{flat_map}
use Rattle.nb_units.specs.Frames.{Frame}
use Rattle.nb_units.specs.declared.frames.TheConstants.{REFUSED_REPLY}
use Rattle.nb_msgs.specs.Bodies.{message_bytes}
use Rattle.nb_msgs.specs.Reading.{message_of}
use Rattle.nb_msgs.specs.declared.message.Message.{Message}
use Rattle.nb_msgs.specs.declared.node.Reason.{Reason}
use Rattle.nb_msgs.specs.declared.node.Reason.TheVariants as reason
use Rattle.nb_msgs.specs.declared.node.Step.{Step}
use Rattle.nb_msgs.specs.declared.node.Step.TheVariants as step
use Rattle.nb_msgs.specs.declared.node.To.{To}
use Rattle.nb_msgs.specs.declared.node.To.TheVariants as to
use Rattle.nb_wallet.specs.declared.wallet.Start.{Start}
use Rattle.nb_consumer.specs.declared.deed.Deed.{Deed}
use Rattle.nb_consumer.specs.declared.phase.Phase.{Phase}
use Rattle.nb_consumer.specs.declared.phase.Phase.TheVariants as phase
use Rattle.nb_consumer.specs.State.{Buyer, purchase_of}
use Rattle.nb_consumer.specs.Table.{started, heard, silent, step_of, after}
use Rattle.nb_consumer.specs.Deeds.{DeedIsSpelled}
use Rattle.nb_consumer.specs.Goods.{phase_in, goods_at, IsOpen}
use Rattle.nb_msgs.specs.Steps.{kept_in}
use Rattle.nb_buy.specs.declared.peer.Peer.{Peer}
use Rattle.nb_buy.specs.declared.peer.Peer.TheVariants.{House, Seller}

-- what is done: the purchase is started, a frame that came over the link of a peer is heard, or it is waited for nothing any more
pub data Act : Type 0 where
  Starts : Act
  Hears : Peer → Frame → Act
  Waits : Act

-- ---- what an act does

-- the row of what a body was read as. A body that spells no message is ignored
abbrev pub heard_as : Buyer → Result Message ℕ → Result Deed Reason
heard_as b (Ok message) = heard b message
heard_as b (Err place) = Err reason.Kind

-- the row of a frame
unfoldable pub frame_row : Buyer → Frame → Result Deed Reason
frame_row b f = heard_as b (message_of f.kind f.body)

-- the row of an act, of the purchase that is started so
abbrev pub act_row : Start → Buyer → Act → Result Deed Reason
act_row s b Starts = started b s
act_row s b (Hears from f) = frame_row b f
act_row s b Waits = silent b s.transaction

-- what the row keeps and sends
abbrev pub step_at : Start → Buyer → Act → Step
step_at s b a = step_of (act_row s b a)

-- what the consumer knows behind acts
abbrev pub buyer_behind : Start → Buyer → List Act → Buyer
buyer_behind s b [] = b
buyer_behind s b (a ∷ acts) = buyer_behind s (after b (act_row s b a)) acts

-- what they do, one after another
abbrev pub steps : Start → Buyer → List Act → List Step
steps s b [] = []
steps s b (a ∷ acts) = step_at s b a ∷ steps s (after b (act_row s b a)) acts

-- the items that they keep
abbrev pub kept_by : Start → Buyer → List Act → List (List ℕ)
kept_by s b acts = flat_map kept_in (steps s b acts)

-- each of these is within its limits
abbrev pub AreSpelled : Start → Buyer → List Act → Type 0
AreSpelled s b [] = Unit {0}
AreSpelled s b (a ∷ acts) = IfOk (act_row s b a) DeedIsSpelled × AreSpelled s (after b (act_row s b a)) acts

-- ---- over which link

-- whose link a message for a party goes to
abbrev pub peer_of : To → Peer
peer_of to.Server = House
peer_of (to.Merchant party) = Seller
peer_of (to.Consumer party) = Seller

-- what is of the second peer, where it is the first, and else nothing
abbrev pub only_of : {A : Type 0} → Peer → Peer → List A → List A
only_of House House xs = xs
only_of House Seller xs = []
only_of Seller House xs = []
only_of Seller Seller xs = xs

-- the bytes that a step sends to a peer
abbrev pub bytes_in : Peer → Step → List ℕ
bytes_in peer (step.Move keep whom message) = only_of peer (peer_of whom) (message_bytes message)
bytes_in peer (step.Ended keep end) = []
bytes_in peer (step.Ignored why) = []

-- the bytes that acts send to a peer
abbrev pub bytes_to : Peer → Start → Buyer → List Act → List ℕ
bytes_to peer s b acts = flat_map (bytes_in peer) (steps s b acts)

-- the frame of a peer that an act hears, if it hears one
abbrev pub frame_in : Peer → Act → List Frame
frame_in peer Starts = []
frame_in peer (Hears from f) = only_of peer from (f ∷ [])
frame_in peer Waits = []

-- the frames that came over the link of a peer
abbrev pub frames_on : Peer → List Act → List Frame
frames_on peer acts = flat_map (frame_in peer) acts

-- whichever peer's
abbrev pub heard_in : Act → List Frame
heard_in Starts = []
heard_in (Hears from f) = f ∷ []
heard_in Waits = []

-- all frames that were heard, in the order in which they were read
abbrev pub frames_of : List Act → List Frame
frames_of acts = flat_map heard_in acts

-- ---- what may come next

-- how far the purchase has come
abbrev pub phase_for : Start → Buyer → Option Phase
phase_for s b = phase_in (purchase_of b s.transaction)

-- it was ordered, and is not over
abbrev pub IsOrdered : Option Phase → Type 0
IsOrdered (Some phase.Ordered) = Unit {0}
IsOrdered other = ⊥

-- whose answer is waited for, whether the house was asked for want of the seller's, whether the last act heard a refusal, and the goods that it opened
pub record Way : Type 0 where
  pub awaits : Option Peer
  pub asked : Bool
  pub refused : Bool
  pub opened : Option (List ℕ)

-- nothing was done yet
abbrev pub outset : Way
outset = record { awaits = None; asked = false; refused = false; opened = None }

-- behind a step: the answer of the peer that a message is sent to, and else of the one before
abbrev pub awaited : Option Peer → Step → Option Peer
awaited before (step.Move keep whom message) = Some (peer_of whom)
awaited before (step.Ended keep end) = before
awaited before (step.Ignored why) = before

-- whether the house was asked for want of the seller's answer: so it is where that is waited for no more
abbrev pub asks : Bool → Act → Option Peer → Bool
asks before Starts awaits = before
asks before (Hears from f) awaits = before
asks before Waits (Some Seller) = true
asks before Waits (Some House) = before
asks before Waits None = before

-- an act hears a refusal
abbrev pub is_refusal : Act → Bool
is_refusal Starts = false
is_refusal (Hears from f) = f.kind == REFUSED_REPLY
is_refusal Waits = false

-- the goods that a step opened, if it did, whichever purchase it ended
abbrev pub opened_by : Step → Option (List ℕ)
opened_by (step.Ended keep end) = goods_at end
opened_by other = None

-- behind one act, which does this
abbrev pub onward : Way → Act → Step → Way
onward w a done = record { awaits = awaited w.awaits done; asked = asks w.asked a w.awaits; refused = is_refusal a; opened = opened_by done }

-- behind acts
abbrev pub way_behind : Start → Buyer → Way → List Act → Way
way_behind s b w [] = w
way_behind s b w (a ∷ acts) = way_behind s (after b (act_row s b a)) (onward w a (step_at s b a)) acts

-- At the outset nothing is waited for, and a purchase that is going on sends its last message again, or asks for its order. Later the purchase was ordered,
-- and the house was not asked yet for want of the seller's answer
abbrev pub MayWait : Option Phase → Option Peer → Bool → Type 0
MayWait told None asked = IsOpen told
MayWait told (Some House) asked = ⊥
MayWait told (Some Seller) asked = IsOrdered told × (asked ≡ false)

-- A purchase that is not known is started, and a frame is read from the peer whose answer is waited for, while the purchase is going on and the last act heard no
-- refusal
abbrev pub MayAct : Option Phase → Way → Act → Type 0
MayAct told w Starts = (w.awaits ≡ None) × (told ≡ None)
MayAct told w (Hears from f) = (w.awaits ≡ Some from) × IsOpen told × (w.refused ≡ false)
MayAct told w Waits = MayWait told w.awaits w.asked

-- each act may come where it comes
abbrev pub Obeys : Start → Buyer → Way → List Act → Type 0
Obeys s b w [] = Unit {0}
Obeys s b w (a ∷ acts) =
    MayAct (phase_for s b) w a × Obeys s (after b (act_row s b a)) (onward w a (step_at s b a)) acts

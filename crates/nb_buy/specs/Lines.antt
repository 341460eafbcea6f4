-- The two lines of a purchase: a link to each peer, what was received over it and what was sent to it.
use Rattle.std.specs.Prelude.{◌≡◌, ◌⊎◌, ℕ, List, [], ◌∷◌}
use Rattle.nb_link.specs.Link.{LinkSeen}
use Rattle.nb_units.specs.Frames.{Frame}
use Rattle.nb_units.specs.declared.frames.TheConstants.{REFUSED_REPLY}
use Rattle.nb_frame.specs.State.{unfed}
use Rattle.nb_wire.specs.Received.{Wire, wire, Received, EndsAs}
use Rattle.nb_wire.specs.Sent.{WroteOn}
use Rattle.nb_wire.specs.declared.sending.Sent.{Sent}
use Rattle.nb_wire.specs.declared.sending.Sent.TheVariants.{All, Failed}
use Rattle.nb_buy.specs.declared.peer.Peer.{Peer}
use Rattle.nb_buy.specs.declared.peer.Peer.TheVariants.{House, Seller}
use Rattle.nb_buy.specs.declared.peer.Over.{Over}
use Rattle.nb_buy.specs.declared.peer.Over.TheVariants as over

-- a link with the reader of its frames, and how all that was sent to it went
pub record Line : Type 0 where
  pub wire : Wire
  pub sent : Sent

-- that of the house and that of the seller
pub record Lines : Type 0 where
  pub house : Line
  pub seller : Line

-- that of a peer
abbrev pub line_at : Peer → Lines → Line
line_at House lines = lines.house
line_at Seller lines = lines.seller

-- before anything was received and sent
abbrev pub begun : LinkSeen → Line
begun link = record { wire = wire link unfed; sent = All }

-- exactly these frames were received, and these bytes sent, or where a write failed a part from their front
pub record LineGoes (old new : Line) (frames : List Frame) (bytes : List ℕ) : Type 0 where
  pub received : Received old.wire new.wire frames
  pub wrote : WroteOn old.sent new.sent old.wire.link new.wire.link bytes

-- one of the frames is a refusal
abbrev pub HasRefusal : List Frame → Type 0
HasRefusal [] = ⊥
HasRefusal (f ∷ frames) = (f.kind ≡ REFUSED_REPLY) ⊎ HasRefusal frames

-- Why nothing more is waited for over a line that these frames came over: no frame comes any more, a write failed, or a refusal came
abbrev pub IsOver : Line → Line → List Frame → Over → Type 0
IsOver old new frames (over.Ended end) = EndsAs old.wire new.wire end
IsOver old new frames over.WriteFault = new.sent ≡ Failed
IsOver old new frames over.Refused = HasRefusal frames

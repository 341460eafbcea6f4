-- A line to a peer: a wire, what was received over it and what was sent to it.
use Rattle.std.specs.Prelude.{◌≡◌, ℕ, ◌<◌, List, [], ◌∷◌, ◌++◌, ⊤, length, take}
use Rattle.std.specs.List.{flat_map}
use Rattle.nb_link.specs.Link.{LinkSeen}
use Rattle.nb_units.specs.Frames.{Frame, frame, front_of}
use Rattle.nb_frame.specs.State.{unfed, waiting}
use Rattle.nb_frame.specs.Looks.{IsShort}
use Rattle.nb_wire.specs.Received.{Wire, wire, Received, Fetches}
use Rattle.nb_wire.specs.Sent.{WroteOn, OnlyWrites}
use Rattle.nb_wire.specs.declared.sending.Sent.{Sent}
use Rattle.nb_wire.specs.declared.sending.Sent.TheVariants.{All}
use Rattle.nb_wire.specs.declared.receiving.Fetched.{Fetched}
use Rattle.nb_trade.specs.declared.side.Side.{Side}

-- a link with the reader of its frames, and how all that was sent to it went
pub record Line : Type 0 where
  pub wire : Wire
  pub sent : Sent

-- before anything was received and sent
abbrev pub begun : LinkSeen → Line
begun link = record { wire = wire link unfed; sent = All }

-- a link, and what is held beside it
abbrev pub line_of : LinkSeen → Side → Line
line_of link side = record { wire = wire link side.frames; sent = side.sent }

-- nothing was received and sent
pub record IsBegun (side : Side) : Type 0 where
  pub frames : side.frames ≡ unfed
  pub sent : side.sent ≡ All

-- the bytes are some of the frames from the first on, not all of them, and less than a frame behind these
pub record WantsMore (frames : List Frame) (bytes : List ℕ) : Type 0 where
  pub count : ℕ
  pub fewer : count < length frames
  pub rest : List ℕ
  pub is : bytes ≡ flat_map frame (take count frames) ++ rest
  pub short : IsShort (front_of rest)

-- each piece was read for one of the frames, which had not come: so with what waited and the pieces before it
abbrev pub AreWanted : List Frame → List ℕ → List (List ℕ) → Type 0
AreWanted frames waits [] = ⊤
AreWanted frames waits (piece ∷ pieces) = WantsMore frames waits × AreWanted frames (waits ++ piece) pieces

-- exactly these frames were received, by reads for them alone, and these bytes sent, or where a write failed a part from their front
pub record LineGoes (old new : Line) (frames : List Frame) (bytes : List ℕ) : Type 0 where
  pub received : Received old.wire new.wire frames
  pub wanted : AreWanted frames (waiting old.wire.held) received.pieces
  pub wrote : WroteOn old.sent new.sent old.wire.link new.wire.link bytes

-- what comes next over a line, and nothing was sent
pub record FetchesOn (old new : Line) (out : Fetched) : Type 0 where
  pub fetches : Fetches old.wire new.wire out
  pub sent : new.sent ≡ old.sent

-- these bytes were sent to a line, or a part where it failed, and nothing else was done
pub record Says (old new : Line) (bytes : List ℕ) : Type 0 where
  pub wrote : WroteOn old.sent new.sent old.wire.link new.wire.link bytes
  pub only : OnlyWrites old.wire.link new.wire.link
  pub held : new.wire.held ≡ old.wire.held

-- where nothing was done nothing went over a line; what went over it, and then some more, went over it
abbrev pub GoesInParts : Type 0
GoesInParts = ((here : Line) → LineGoes here here [] [])
    × ((old mid new : Line) (frames others : List Frame) (bytes more : List ℕ) → LineGoes old mid frames bytes → LineGoes mid new others more → LineGoes old new (frames ++ others) (bytes ++ more))

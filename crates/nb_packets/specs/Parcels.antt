-- What a packet brings: a message that is not spelled, or a kind and a body.
use Rattle.std.specs.Prelude.{ℕ, ◌≤◌, List}
use Rattle.nb_units.specs.declared.frames.TheConstants.{LAST_KIND}
use Rattle.nb_msgs.specs.Bodies.{kind_of, body_bytes, IsMessage, MessageKeepsRules}
use Rattle.nb_packets.specs.declared.packet.Content.{Content}
use Rattle.nb_packets.specs.declared.packet.Content.TheVariants.{Said, Raw}

-- the kind of what it brings
abbrev pub kind_in : Content → ℕ
kind_in (Said m) = kind_of m
kind_in (Raw kind body) = kind

-- its body: of a message, as it is spelled
abbrev pub body_in : Content → List ℕ
body_in (Said m) = body_bytes m
body_in (Raw kind body) = body

-- a kind is one of the sixteen
abbrev pub IsKind : ℕ → Type 0
IsKind kind = (1 ≤ kind) × (kind ≤ LAST_KIND)

-- a message can be written, and is within its limits; a kind is one of the sixteen
abbrev pub ContentSo : Content → Type 0
ContentSo (Said m) = MessageKeepsRules m × IsMessage m
ContentSo (Raw kind body) = IsKind kind

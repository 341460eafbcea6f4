-- What a node did, beside what the rules say that it does.
use Rattle.std.specs.Prelude.{◌≡◌, ℕ, Bool, true, false, List, [], ◌∷◌, set, Some, None}
use Rattle.std.specs.List.{slice_get}
use Rattle.nb_msgs.specs.Bodies.{kind_of, body_bytes, IsMessage, MessageKeepsRules}
use Rattle.nb_msgs.specs.declared.node.Step.{Step}
use Rattle.nb_msgs.specs.declared.node.Step.TheVariants as step
use Rattle.nb_world.specs.declared.packet.Maker.{Maker}
use Rattle.nb_world.specs.declared.packet.Packet.{Packet}
use Rattle.nb_world.specs.World.{Going, Stays, Goes}
use Rattle.nb_packets.specs.declared.did.Did.{Did}
use Rattle.nb_packets.specs.declared.did.Did.TheVariants.{Stayed, Went, Sent}

-- what was done at a step
abbrev pub did_of : Step → Did
did_of (step.Move keep to m) = Sent to m
did_of (step.Ended keep end) = Went
did_of (step.Ignored why) = Stayed

-- nothing was done
abbrev pub is_nothing : Did → Bool
is_nothing Stayed = true
is_nothing other = false

-- what was sent can be written, and is within its limits
abbrev pub DidSo : Did → Type 0
DidSo (Sent to m) = MessageKeepsRules m × IsMessage m
DidSo other = Unit {0}

-- the packets of what was sent, if anything
abbrev pub packets_did : Maker → Did → List Packet
packets_did maker (Sent to m) = record { kind = kind_of m; body = body_bytes m; maker = maker; to = to } ∷ []
packets_did maker other = []

-- a node went from a state to another as it is said
abbrev pub Follows : {S : Type 0} → Going S → S → S → Did → Type 0
Follows Stays was now Stayed = now ≡ was
Follows (Goes s None) was now Went = now ≡ s
Follows (Goes s (Some sent)) was now (Sent to m) = (now ≡ s) × (sent ≡ record { to = to; kind = kind_of m; body = body_bytes m })
Follows going was now other = ⊥

-- the node at a place did so, and all others are as before
pub record WentAt {S : Type 0} (goes : S → Going S) (old new : List S) (i : ℕ) (did : Did) : Type 0 where
  pub was : S
  pub now : S
  pub there : slice_get old i ≡ Some was
  pub behind : new ≡ set old i now
  pub follows : Follows (goes was) was now did

-- the node at a place became what this makes of it, and all others are as before
pub record BecameAt {S : Type 0} (becomes : S → S) (old new : List S) (i : ℕ) : Type 0 where
  pub was : S
  pub there : slice_get old i ≡ Some was
  pub behind : new ≡ set old i (becomes was)

-- a test of the node at a place came out so
pub record TestsAt {S : Type 0} (test : S → Bool) (nodes : List S) (i : ℕ) (result : Bool) : Type 0 where
  pub node : S
  pub there : slice_get nodes i ≡ Some node
  pub is : result ≡ test node

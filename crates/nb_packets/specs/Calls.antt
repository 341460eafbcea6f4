-- The calls of a house in a world: whom a reply goes to, when it may, and what a stop leaves.
use Rattle.std.specs.Prelude.{◌≡◌, ℕ, ◌==◌, ◌&&◌, Bool, false, zero, suc, List, [], ◌∷◌, set, Option, Some, None}
use Rattle.std.specs.List.{slice_get}
use Rattle.nb_entry.specs.declared.entry.Entry.{Entry}
use Rattle.nb_msgs.specs.declared.node.To.{To}
use Rattle.nb_world.specs.declared.turning.Turning.{Turning}
use Rattle.nb_world.specs.declared.call.Call.{Call}
use Rattle.nb_world.specs.declared.packet.Packet.{Packet}
use Rattle.nb_world.specs.Steps.{◌>>=◌, node_of, may_answer, left, stopped}

-- ---- a reply

-- the reply of this call's turn may be handed out
abbrev pub turn_may_answer : Option Turning → ℕ → Bool
turn_may_answer None c = false
turn_may_answer (Some t) c = t.call == c && may_answer t.stage t.verdict.entry

-- the node that made the packet of a call
abbrev pub asker_among : List Call → List Packet → ℕ → Option To
asker_among calls packets c = do
  call ← slice_get calls c
  packet ← slice_get packets call.packet
  node_of packet.maker

-- ---- a stop

-- an entry, if there is one, with its call
abbrev pub with_call : ℕ → Option Entry → Option (ℕ × Entry)
with_call c None = None
with_call c (Some e) = Some (c, e)

-- what a stop leaves of a turn, with its call
abbrev pub left_of : Option Turning → Bool → Option (ℕ × Entry)
left_of None keep = None
left_of (Some t) keep = with_call t.call (left keep (Some t))

-- ---- for the contracts of private functions alone

-- the call at a place is behind a stop, and all others are as before
pub record StopsAt (old new : List Call) (i : ℕ) : Type 0 where
  pub call : Call
  pub there : slice_get old i ≡ Some call
  pub behind : new ≡ set old i (stopped call)

-- so are the first calls, so many
abbrev pub stopped_up_to : ℕ → List Call → List Call
stopped_up_to zero calls = calls
stopped_up_to (suc n) [] = []
stopped_up_to (suc n) (call ∷ calls) = stopped call ∷ stopped_up_to n calls

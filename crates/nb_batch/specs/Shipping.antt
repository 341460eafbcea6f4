-- The records that are shipped from a place on.
use Rattle.std.specs.Prelude.{◌≡◌, ℕ, ◌+◌, ◌<◌, ◌≤◌, List, [], ◌∷◌, ◌++◌, drop, length, Option, Result, Ok, Err, ⊤}
use Rattle.std.specs.List.{flat_map}
use Rattle.std.specs.Io.KnownBytes.{Appends}
use Rattle.nb_units.specs.Frames.{frame}
use Rattle.nb_port.specs.Faults.{Rose}
use Rattle.nb_entry.specs.declared.entry.Entry.{Entry}
use Rattle.nb_standby.specs.declared.limits.TheConstants.{SHIPPED_FRAME, SHIPPED_ROOM}
use Rattle.nb_standby.specs.Spelling.{shipped_bytes, shipped_frames, signed}
use Rattle.nb_batch.specs.declared.shipping.ShipFault.{ShipFault}
use Rattle.nb_batch.specs.declared.shipping.ShipFault.TheVariants.{Beyond, WriteFault, NoMemory}
use Rattle.nb_batch.specs.declared.shipping.TheConstants.{SHIPPED_PIECE}
use Rattle.nb_batch.specs.declared.send.Sent.{Sent}
use Rattle.nb_batch.specs.declared.send.Sent.TheVariants.{All, Failed}
use Rattle.nb_batch.specs.Send.{SentPart}

-- the frame of the record of an entry at this place, as a house with this key signs it
abbrev pub record_frame : List ℕ → ℕ → Entry → List ℕ
record_frame key place e = frame (record { kind = SHIPPED_FRAME; body = shipped_bytes (signed key place e) })

-- those of these entries, the first of which stands at this place
abbrev pub record_frames : List ℕ → ℕ → List Entry → List ℕ
record_frames key place entries = flat_map frame (shipped_frames key place entries)

-- those of a list from a place on
abbrev pub shipped_from : List ℕ → ℕ → List Entry → List ℕ
shipped_from key from entries = record_frames key from (drop from entries)

-- by cases on the result, for the counts of faults and what was sent, before and after
abbrev pub Ships : ℕ → ℕ → Option (List ℕ) → Option (List ℕ) → List ℕ → ℕ → List Entry → Result (Unit {0}) ShipFault → Type 0
Ships before after sent sent' key from entries (Ok u) = (from ≤ length entries) × Appends sent sent' (shipped_from key from entries)
Ships before after sent sent' key from entries (Err (Beyond n)) = (n ≡ length entries) × (length entries < from)
Ships before after sent sent' key from entries (Err WriteFault) = (from ≤ length entries) × Rose before after × SentPart sent sent' (shipped_from key from entries)
Ships before after sent sent' key from entries (Err NoMemory) = from ≤ length entries

-- where nothing was begun the sink is as before
abbrev pub ShipsUnheld : {K : Type 0} → K → K → Result (Unit {0}) ShipFault → Type 0
ShipsUnheld old new (Ok u) = ⊤
ShipsUnheld old new (Err (Beyond n)) = new ≡ old
ShipsUnheld old new (Err WriteFault) = ⊤
ShipsUnheld old new (Err NoMemory) = new ≡ old

-- all of the bytes were sent but for their last, which wait
pub record SentBut (sent sent' : Option (List ℕ)) (waits bytes : List ℕ) : Type 0 where
  pub done : List ℕ
  pub appends : Appends sent sent' done
  pub all : done ++ waits ≡ bytes

-- for the counts of faults, what was sent, and what waits, before and after: there is room for a record behind what waits still, or a write failed behind
-- a part of what waited
abbrev pub MakesRoom : ℕ → ℕ → Option (List ℕ) → Option (List ℕ) → List ℕ → List ℕ → Sent → Type 0
MakesRoom before after sent sent' waited waits All = SentBut sent sent' waits waited × (length waits + SHIPPED_ROOM ≤ SHIPPED_PIECE)
MakesRoom before after sent sent' waited waits Failed = Rose before after × SentPart sent sent' waited

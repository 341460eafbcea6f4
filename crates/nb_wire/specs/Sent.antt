-- What was sent to a link.
use Rattle.std.specs.Prelude.{◌≡◌, ℕ, ◌<◌, ◌≤◌, List, Option, length, take}
use Rattle.std.specs.Io.KnownBytes.{Appends}
use Rattle.nb_port.specs.Faults.{Rose}
use Rattle.nb_link.specs.Link.{LinkSeen}
use Rattle.nb_wire.specs.declared.sending.Sent.{Sent}
use Rattle.nb_wire.specs.declared.sending.Sent.TheVariants.{All, Failed}

-- a part of the bytes was sent, from their front, and not all of them
pub record SentPart (sent sent' : Option (List ℕ)) (bytes : List ℕ) : Type 0 where
  pub count : ℕ
  pub less : count < length bytes
  pub appends : Appends sent sent' (take count bytes)

-- these bytes were sent so: all of them, or a part, and then a write failed
abbrev pub Sends : LinkSeen → LinkSeen → List ℕ → Sent → Type 0
Sends old new bytes All = Appends old.sent new.sent bytes
Sends old new bytes Failed = Rose old.write_faults new.write_faults × SentPart old.sent new.sent bytes

-- nothing but writes
pub record OnlyWrites (old new : LinkSeen) : Type 0 where
  pub left : new.left ≡ old.left
  pub reads : new.reads ≡ old.reads
  pub read_faults : new.read_faults ≡ old.read_faults
  pub count : old.write_faults ≤ new.write_faults

-- What was sent of these bytes, behind others that were sent so, and how all of them were sent by then. Where a write failed before,
-- nothing was sent
abbrev pub WroteOn : Sent → Sent → LinkSeen → LinkSeen → List ℕ → Type 0
WroteOn All out old new bytes = Sends old new bytes out
WroteOn Failed All old new bytes = ⊥
WroteOn Failed Failed old new bytes = new.sent ≡ old.sent

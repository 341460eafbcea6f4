-- What a link is seen as, and what its calls give. What a link does not tell is None.
use Rattle.std.specs.Prelude.{◌≡◌, ℕ, ◌≤◌, List, [], ◌∷◌, ◌++◌, Option, Some, None}
use Rattle.nb_port.specs.Source.{ReadGives}
use Rattle.nb_port.specs.Sink.{WriteGives}
use Rattle.nb_port.specs.declared.source.ReadOut.{ReadOut}
use Rattle.nb_port.specs.declared.source.ReadOut.TheVariants as reads
use Rattle.nb_port.specs.declared.sink.WriteOut.{WriteOut}
use Rattle.nb_link.specs.declared.link.Reading.{Reading}

-- the bytes that are still to come, those that were sent, its reads that gave bytes, and its counts of failed reads and of failed writes
pub record LinkSeen : Type 0 where
  pub left : Option (List ℕ)
  pub sent : Option (List ℕ)
  pub reads : Option (List Reading)
  pub read_faults : ℕ
  pub write_faults : ℕ

-- the reads that are told, behind one more: one that gave bytes is told with how many were asked for
abbrev pub reads_told : Option (List Reading) → ℕ → ReadOut → Option (List Reading)
reads_told None room out = None
reads_told (Some before) room (reads.Bytes n) = Some (before ++ record { asked = room; given = n } ∷ [])
reads_told (Some before) room reads.End = Some before
reads_told (Some before) room reads.Failed = Some before

-- a read: the room for bytes, the bytes there now
pub record LinkReads (old new : LinkSeen) (room : ℕ) (buf : List ℕ) (out : ReadOut) : Type 0 where
  pub gives : ReadGives old.read_faults new.read_faults old.left new.left room buf out
  pub count : old.read_faults ≤ new.read_faults
  pub told : new.reads ≡ reads_told old.reads room out
  pub sent : new.sent ≡ old.sent
  pub other : new.write_faults ≡ old.write_faults

-- a write: the bytes to send
pub record LinkWrites (old new : LinkSeen) (piece : List ℕ) (out : WriteOut) : Type 0 where
  pub gives : WriteGives old.write_faults new.write_faults old.sent new.sent piece out
  pub count : old.write_faults ≤ new.write_faults
  pub left : new.left ≡ old.left
  pub told : new.reads ≡ old.reads
  pub other : new.read_faults ≡ old.read_faults

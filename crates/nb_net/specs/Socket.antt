-- What the calls of a socket and of a listener give. The bytes that a socket does not tell are None.
use Rattle.std.specs.Prelude.{ℕ, ◌<◌, ◌≤◌, ◌∷◌, [], ◌==◌, ◌||◌, Bool, true, false, List, Option, None, Some, length, take}
use Rattle.std.specs.Io.KnownBytes.{Keeps, Appends, Consumes, IsAtEnd}
use Rattle.nb_net.specs.declared.socket.SocketRead.{SocketRead}
use Rattle.nb_net.specs.declared.socket.SocketRead.TheVariants as reads
use Rattle.nb_net.specs.declared.socket.SocketWrite.{SocketWrite}
use Rattle.nb_net.specs.declared.socket.SocketWrite.TheVariants as writes

-- The errors of a look for a connection that say nothing of the listener, by Linux's numbers: the call was interrupted (EINTR), or it
-- gave an error of the connection that waited, which is gone (accept(2): EPERM, of a firewall, ENONET, EPROTO, ENOPROTOOPT, EOPNOTSUPP,
-- ENETDOWN, ENETUNREACH, ECONNABORTED, ECONNRESET, ETIMEDOUT, EHOSTDOWN, EHOSTUNREACH)
abbrev pub passing : List ℕ
passing = 1 ∷ 4 ∷ 64 ∷ 71 ∷ 92 ∷ 95 ∷ 100 ∷ 101 ∷ 103 ∷ 104 ∷ 110 ∷ 112 ∷ 113 ∷ []

-- a number is one of these
abbrev pub is_among : ℕ → List ℕ → Bool
is_among n [] = false
is_among n (m ∷ more) = n == m || is_among n more

-- something is there
abbrev pub is_there : {A : Type 0} → Option A → Bool
is_there None = false
is_there (Some it) = true

-- what is left before and after, the room for bytes, the bytes there now
abbrev pub SocketReadGives : Option (List ℕ) → Option (List ℕ) → ℕ → List ℕ → SocketRead → Type 0
SocketReadGives old new room buf (reads.Got n) = (0 < n) × (n ≤ room) × Consumes old new (take n buf)
SocketReadGives old new room buf reads.End = IsAtEnd new × Keeps old new
SocketReadGives old new room buf reads.Interrupted = Keeps old new
SocketReadGives old new room buf reads.Failed = Keeps old new

-- what was sent before and after, the bytes to send
abbrev pub SocketWriteGives : Option (List ℕ) → Option (List ℕ) → List ℕ → SocketWrite → Type 0
SocketWriteGives old new piece (writes.Took n) = (0 < n) × (n ≤ length piece) × Appends old new (take n piece)
SocketWriteGives old new piece writes.Interrupted = Keeps old new
SocketWriteGives old new piece writes.Failed = Keeps old new

-- how a socket is set: that it sends each write at once, that it asks a silent peer whether it is there, for how many milliseconds a
-- write may send no byte; and that it was shut down: it sent its end, or its connection was gone
pub record Settings (S : Type 0) : Type 1 where
  pub prompt : S → Type 0
  pub alive : S → Type 0
  pub writes_within : S → ℕ → Type 0
  pub shut : S → Type 0

-- what was set of a socket is set of it still
pub record StaysSet {S : Type 0} (settings : Settings S) (old new : S) : Type 0 where
  pub prompt : settings.prompt old → settings.prompt new
  pub alive : settings.alive old → settings.alive new
  pub writes : (millis : ℕ) → settings.writes_within old millis → settings.writes_within new millis
  pub shut : settings.shut old → settings.shut new

-- what a socket knows of time: the moment that it told last, and until when its last read waited
pub record Times : Type 0 where
  pub moment : ℕ
  pub until : ℕ

-- What a link that dials is seen as, and when it dials anew. An exchange is some writes, and the reads behind them: the first write behind
-- a read begins the next one.
use Rattle.std.specs.Prelude.{◌≡◌, ◌⊎◌, ℕ, ◌≤◌, ◌+◌, Bool, true, false, List, None}
use Rattle.nb_port.specs.declared.source.ReadOut.{ReadOut}
use Rattle.nb_port.specs.declared.source.ReadOut.TheVariants as reads
use Rattle.nb_port.specs.declared.sink.WriteOut.{WriteOut}
use Rattle.nb_port.specs.declared.sink.WriteOut.TheVariants as writes
use Rattle.nb_link.specs.Link.{LinkSeen, LinkWrites}
use Rattle.nb_net.specs.Adapters.{SocketLink}
use Rattle.nb_net.specs.declared.limits.Limits.{Limits}
use Rattle.nb_net.specs.declared.place.TheConstants.{START}

-- who dials, the link that was dialled last, whether the last call was a write, and whether the link is over: the other side ended it, a
-- read of it failed, or it could not be dialled anew
pub record DialledLink (D S : Type 0) : Type 0 where
  pub dialler : D
  pub link : SocketLink S
  pub speaking : Bool
  pub over : Bool

-- what it tells: its two counts
abbrev pub dialled_told : {D S : Type 0} → DialledLink D S → LinkSeen
dialled_told l = record {
  left = None;
  sent = None;
  reads = None;
  read_faults = l.link.read_faults;
  write_faults = l.link.write_faults;
}

-- behind such a read a link is over
abbrev pub ends : ReadOut → Bool
ends (reads.Bytes n) = false
ends reads.End = true
ends reads.Failed = true

-- it dialled once at most
pub record DialsOnce {D : Type 0} (dialled : D → ℕ) (within : D → ℕ → Type 0) (limit : ℕ) (old new : D) : Type 0 where
  pub once : dialled new ≤ dialled old + 1
  pub soon : within new limit

-- a write goes on over the link, which is not over: nothing is dialled. The first one of an exchange asked before whether the other side ended
-- the link
pub record WritesOn {D S : Type 0} (seen : SocketLink S → LinkSeen) (open_seen : S → Type 0) (old new : DialledLink D S) (piece : List ℕ) (out : WriteOut) : Type 0 where
  pub open_still : (old.over ≡ false) × (new.over ≡ false)
  pub asked : old.speaking ≡ false → (socket : S) × open_seen socket
  pub waits : (new.link.limits ≡ old.link.limits) × (new.link.place ≡ old.link.place) × (new.link.since ≡ old.link.since)
  pub dialler : new.dialler ≡ old.dialler
  pub writes : LinkWrites (seen old.link) (seen new.link) piece out

-- a link to which nothing happened, but that so many reads and so many writes of the one before it failed
pub record IsAnew {S : Type 0} (limits : Limits) (reads_failed writes_failed : ℕ) (l : SocketLink S) : Type 0 where
  pub limits_are : l.limits ≡ limits
  pub place : l.place ≡ START
  pub since : l.since ≡ None
  pub read_faults : l.read_faults ≡ reads_failed
  pub write_faults : l.write_faults ≡ writes_failed

-- a link is over, or its socket was asked, and there is one of which it was seen
abbrev pub IsOver : {D S : Type 0} → (S → Type 0) → DialledLink D S → Type 0
IsOver {S = S} gone l = (l.over ≡ true) ⊎ ((socket : S) × gone socket)

-- a piece was written over a link that came anew
pub record WritesTo {S : Type 0} (seen : SocketLink S → LinkSeen) (limits : Limits) (reads_failed writes_failed : ℕ) (new : SocketLink S) (piece : List ℕ) (out : WriteOut) : Type 0 where
  pub link : SocketLink S
  pub anew : IsAnew limits reads_failed writes_failed link
  pub writes_it : LinkWrites (seen link) (seen new) piece out
  pub waits : (new.limits ≡ limits) × (new.place ≡ START) × (new.since ≡ None)

-- a dial gave no link: it failed, or there is a socket that could not be set
abbrev pub NoLink : {D S : Type 0} → (D → Type 0) → (S → Type 0) → D → Type 0
NoLink {S = S} failed refused dialler = failed dialler ⊎ ((socket : S) × refused socket)

-- a link was dialled anew, and the piece was written to it; or the dial gave none, and the write failed
abbrev pub WritesAnew : {D S : Type 0} → (SocketLink S → LinkSeen) → (D → ℕ) → (D → ℕ → Type 0) → (D → Type 0) → (S → Type 0) → D → Limits → ℕ → ℕ → DialledLink D S → List ℕ → WriteOut → Type 0
WritesAnew seen dialled within failed refused dialler limits reads_failed writes_failed new piece out =
    DialsOnce dialled within limits.dial dialler new.dialler
    × (((new.over ≡ false) × WritesTo seen limits reads_failed writes_failed new.link piece out)
    ⊎ ((new.over ≡ true) × (out ≡ writes.Failed) × NoLink failed refused new.dialler))

-- the first write of an exchange over a link that is over: it is dialled anew
pub record DialsAnew {D S : Type 0} (seen : SocketLink S → LinkSeen) (dialled : D → ℕ) (within : D → ℕ → Type 0) (failed : D → Type 0) (refused gone : S → Type 0) (old new : DialledLink D S) (piece : List ℕ) (out : WriteOut) : Type 0 where
  pub first : old.speaking ≡ false
  pub why : IsOver gone old
  pub anew : WritesAnew seen dialled within failed refused old.dialler old.link.limits old.link.read_faults old.link.write_faults new piece out

-- a later write of an exchange whose dial failed: it fails, and nothing is dialled
pub record Refuses {D S : Type 0} (old new : DialledLink D S) (out : WriteOut) : Type 0 where
  pub later : (old.speaking ≡ true) × (old.over ≡ true)
  pub dialler : new.dialler ≡ old.dialler
  pub failed : out ≡ writes.Failed
  pub still : new.over ≡ true

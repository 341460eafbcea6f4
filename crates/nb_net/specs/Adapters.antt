-- What a link over a socket, and a port over a listener, are seen as.
use Rattle.std.specs.Prelude.{◌≡◌, ◌⊎◌, ℕ, ◌≤◌, ◌+◌, ◌==◌, Bool, false, List, Option, None, Some, length, min, if◌then◌else◌}
use Rattle.std.specs.Io.KnownBytes.{Consumes, IsAtEnd}
use Rattle.nb_port.specs.Faults.{last_count, Rose}
use Rattle.nb_link.specs.Link.{LinkSeen}
use Rattle.nb_link.specs.Port.{PortSeen}
use Rattle.nb_link.specs.declared.port.PortOut.{PortOut}
use Rattle.nb_link.specs.declared.port.PortOut.TheVariants as outs
use Rattle.nb_port.specs.declared.source.ReadOut.{ReadOut}
use Rattle.nb_net.specs.Socket.{Settings, Times}
use Rattle.nb_net.specs.Waits.{since_or, waits_until, place_behind, since_behind}
use Rattle.nb_net.specs.declared.limits.Limits.{Limits}
use Rattle.nb_net.specs.declared.limits.TheConstants.{MAX_DROPPED}
use Rattle.nb_net.specs.declared.place.Place.{Place}
use Rattle.nb_net.specs.declared.place.TheConstants.{START}
use Rattle.nb_net.specs.declared.port.TheConstants.{MAX_TRIES}

-- a link: its socket, how long it waits, where in a frame it is, since when the next bytes are waited for, and how many reads and how
-- many writes failed
pub record SocketLink (S : Type 0) : Type 0 where
  pub socket : S
  pub limits : Limits
  pub place : Place
  pub since : Option ℕ
  pub read_faults : ℕ
  pub write_faults : ℕ

-- what a link tells: the bytes that its socket tells, and no reads
abbrev pub link_over : {S : Type 0} → (S → Option (List ℕ)) → (S → Option (List ℕ)) → SocketLink S → LinkSeen
link_over left sent l = record {
  left = left l.socket;
  sent = sent l.socket;
  reads = None;
  read_faults = l.read_faults;
  write_faults = l.write_faults;
}

-- a link to which nothing happened
abbrev pub IsFresh : {S : Type 0} → Limits → SocketLink S → Type 0
IsFresh limits l = (l.limits ≡ limits) × (l.place ≡ START) × (l.since ≡ None) × (l.read_faults ≡ 0) × (l.write_faults ≡ 0)

-- a socket is set as that of a link: it sends each write at once, a write that sends no byte waits no longer than it may, and a peer that
-- is gone is found
pub record IsSet {S : Type 0} (settings : Settings S) (write : ℕ) (socket : S) : Type 0 where
  pub prompt : settings.prompt socket
  pub alive : settings.alive socket
  pub writes : settings.writes_within socket write

-- one read of a link, which gave this: its socket waited as long as the place allows, since the moment from which these bytes are waited
-- for; behind bytes the place is that behind them
pub record Waited {S : Type 0} (times : S → Times) (old new : SocketLink S) (buf : List ℕ) (out : ReadOut) : Type 0 where
  pub since : ℕ
  pub since_is : since ≡ since_or old.since (times new.socket).moment
  pub until : (times new.socket).until ≡ waits_until old.limits old.place since
  pub place : new.place ≡ place_behind old.place buf out
  pub goes_on : new.since ≡ since_behind old.place new.place since out
  pub limits : new.limits ≡ old.limits

-- why a read or a write failed: a call of the socket did, or so many were interrupted that their count is at its last value
abbrev pub Fails : Type 0 → ℕ → Type 0
Fails broken faults = broken ⊎ (last_count ≤ faults)

-- n bytes were taken off what was left
pub record Took (old new : Option (List ℕ)) (n : ℕ) : Type 0 where
  pub bytes : List ℕ
  pub takes : Consumes old new bytes
  pub count : length bytes ≡ n

-- the rest of a link was read and dropped, until the other side's end, a failure of its socket, or so many bytes; `before` and `after` count
-- its failed reads
pub record DropsRest (broken : Type 0) (left left' : Option (List ℕ)) (before after : ℕ) : Type 0 where
  pub dropped : ℕ
  pub took : Took left left' dropped
  pub few : dropped ≤ MAX_DROPPED
  pub why : IsAtEnd left' ⊎ ((Rose before after × Fails broken after) ⊎ (dropped ≡ MAX_DROPPED))

-- a link was ended: its socket is shut down, and its rest was read and dropped, each read until so long behind the moment that the socket told
-- last; nothing more was sent
pub record HasEnded {S : Type 0} (rest told : S → Option (List ℕ)) (times : S → Times) (settings : Settings S) (broken : S → Type 0) (old new : SocketLink S) : Type 0 where
  pub shut : settings.shut new.socket
  pub sent : told new.socket ≡ told old.socket
  pub drops : DropsRest (broken new.socket) (rest old.socket) (rest new.socket) old.read_faults new.read_faults
  pub until : (times new.socket).until ≡ min ((times new.socket).moment + old.limits.end) last_count

-- a port: its listener, how long its links wait, how many it may still give, how many were given and not taken back, and how many calls failed
pub record ListenerPort (A : Type 0) : Type 0 where
  pub listener : A
  pub limits : Limits
  pub left : ℕ
  pub out : ℕ
  pub faults : ℕ

-- what a port tells: no links, and whether its listener listens
abbrev pub port_over : {A : Type 0} → (A → Bool) → ListenerPort A → PortSeen
port_over listens p = record {
  left = p.left;
  out = p.out;
  faults = p.faults;
  coming = None;
  taken = None;
  listening = Some (listens p.listener);
}

-- what a port gave, if it is a link, is so
abbrev pub IfGot : {L : Type 0} → PortOut L → (L → Type 0) → Type 0
IfGot (outs.Got link) P = P link
IfGot outs.Closed P = Unit {0}
IfGot outs.Failed P = Unit {0}

-- a listener that was taken for so many links: for none it is closed
abbrev pub listens_for : ℕ → Bool → Bool
listens_for links listens = if links == 0 then false else listens

-- each look for a connection that one call may make was made, and gave none that could be set up: so many more were counted
abbrev pub AllTried : ℕ → ℕ → Type 0
AllTried old new = min (old + MAX_TRIES) last_count ≤ new

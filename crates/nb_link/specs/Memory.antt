-- The memory forms: what each is seen as, and what a call makes of it.
use Rattle.std.specs.Prelude.{◌≡◌, ◌≢◌, ℕ, ◌+◌, Bool, true, false, List, [], ◌∷◌, ◌++◌, Some, Contains, length, map, drop, min}
use Rattle.nb_port.specs.Faults.{one_more}
use Rattle.nb_port.specs.declared.source.ReadOut.{ReadOut}
use Rattle.nb_port.specs.declared.source.ReadOut.TheVariants as reads
use Rattle.nb_port.specs.declared.sink.WriteOut.{WriteOut}
use Rattle.nb_port.specs.declared.sink.WriteOut.TheVariants as writes
use Rattle.nb_link.specs.Link.{LinkSeen}
use Rattle.nb_link.specs.Port.{PortSeen}
use Rattle.nb_link.specs.declared.link.Reading.{Reading}
use Rattle.nb_link.specs.declared.port.PortOut.{PortOut}
use Rattle.nb_link.specs.declared.port.PortOut.TheVariants as outs

-- the numbers of the calls that are to fail, from 1, and how many calls were made
pub record Planned : Type 0 where
  pub fails : List ℕ
  pub made : ℕ

-- no call was made
abbrev pub none_made : List ℕ → Planned
none_made fails = record { fails = fails; made = 0 }

-- the next call is one of those that are to fail
abbrev pub IsNextToFail : Planned → Type 0
IsNextToFail calls = Contains calls.fails (one_more calls.made)

-- one more call was made
abbrev pub one_made : Planned → Planned
one_made calls = record calls { made = one_more calls.made }

-- A link: the bytes that are left, the most that one read gives, those sent, the reads that gave bytes, how many more reads and
-- bytes it keeps without taking memory, its calls, and the two counts of those that failed
pub record LinkState : Type 0 where
  pub left : List ℕ
  pub step : ℕ
  pub sent : List ℕ
  pub reads : List Reading
  pub spare_reads : ℕ
  pub spare : ℕ
  pub calls : Planned
  pub read_faults : ℕ
  pub write_faults : ℕ

-- a link to which nothing happened
abbrev pub new_link : List ℕ → ℕ → List ℕ → LinkState
new_link content step fails = record {
  left = content;
  step = step;
  sent = [];
  reads = [];
  spare_reads = 0;
  spare = 0;
  calls = none_made fails;
  read_faults = 0;
  write_faults = 0;
}

-- it tells all of it
abbrev pub link_told : LinkState → LinkSeen
link_told l = record {
  left = Some l.left;
  sent = Some l.sent;
  reads = Some l.reads;
  read_faults = l.read_faults;
  write_faults = l.write_faults;
}

-- What a read makes of it, but for the room for more reads. One that gives n bytes gives the least of what is left, what one read
-- gives and what there is room for
abbrev pub LinkTakes : LinkState → LinkState → ℕ → ReadOut → Type 0
LinkTakes old new room (reads.Bytes n) =
    (n ≡ min (min (length old.left) old.step) room)
    × (new ≡ record old {
      left = drop n old.left;
      reads = old.reads ++ record { asked = room; given = n } ∷ [];
      spare_reads = new.spare_reads;
      calls = one_made old.calls;
    })
LinkTakes old new room reads.End = (old.left ≡ []) × (new ≡ record old { calls = one_made old.calls })
LinkTakes old new room reads.Failed = new ≡ record old {
  spare_reads = new.spare_reads;
  calls = one_made old.calls;
  read_faults = one_more old.read_faults;
}

-- what a write makes of it, but for the room for more bytes: one that works takes the whole piece
abbrev pub LinkSends : LinkState → LinkState → List ℕ → WriteOut → Type 0
LinkSends old new piece (writes.Took n) =
    (n ≡ length piece)
    × (new ≡ record old { sent = old.sent ++ piece; spare = new.spare; calls = one_made old.calls })
LinkSends old new piece writes.Failed = new ≡ record old {
  spare = new.spare;
  calls = one_made old.calls;
  write_faults = one_more old.write_faults;
}

-- a port: the links to come, those taken back, how many were given and not taken back, its calls of `next` with links to come, and
-- how many of them failed
pub record PortState : Type 0 where
  pub coming : List LinkState
  pub taken : List LinkState
  pub out : ℕ
  pub listening : Bool
  pub calls : Planned
  pub faults : ℕ

-- there are links to come
abbrev pub has_links : List LinkState → Bool
has_links [] = false
has_links (link ∷ links) = true

-- a port of which no link was given
abbrev pub new_port : List LinkState → List ℕ → PortState
new_port links fails = record { coming = links; taken = []; out = 0; listening = has_links links; calls = none_made fails; faults = 0 }

-- it tells all of it
abbrev pub port_told : PortState → PortSeen
port_told p = record {
  left = length p.coming;
  out = p.out;
  faults = p.faults;
  coming = Some (map link_told p.coming);
  taken = Some (map link_told p.taken);
  listening = Some p.listening;
}

-- what `next` makes of it; one that is Closed is not counted among its calls
abbrev pub PortNexts : PortState → PortState → PortOut LinkState → Type 0
PortNexts old new (outs.Got link) =
    (old.coming ≡ link ∷ new.coming)
    × (new ≡ record old { coming = new.coming; out = old.out + 1; listening = has_links new.coming; calls = one_made old.calls })
PortNexts old new outs.Closed = (old.coming ≡ []) × (new ≡ old)
PortNexts old new outs.Failed =
    (old.coming ≢ []) × (new ≡ record old { calls = one_made old.calls; faults = one_more old.faults })

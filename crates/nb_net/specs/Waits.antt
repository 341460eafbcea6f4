-- Where in a frame a link is, by the bytes that it gave so far, and until when it waits for the next ones.
use Rattle.std.specs.Prelude.{ℕ, ◌+◌, ◌-◌, ◌*◌, ◌/◌, ◌%◌, ◌^◌, ◌==◌, ◌&&◌, Bool, true, List, [], ◌∷◌, Option, None, Some, min, take, nat_lt, if◌then◌else◌}
use Rattle.nb_port.specs.Faults.{last_count, one_more}
use Rattle.nb_units.specs.declared.frames.TheConstants.{HEADER, MAX_BODY}
use Rattle.nb_port.specs.declared.source.ReadOut.{ReadOut}
use Rattle.nb_port.specs.declared.source.ReadOut.TheVariants as reads
use Rattle.nb_net.specs.declared.limits.Limits.{Limits}
use Rattle.nb_net.specs.declared.limits.TheConstants.{SPAN}
use Rattle.nb_net.specs.declared.place.Place.{Place}

-- the length of the frame under way, with one byte more: bytes 4 to 7 of a header have it, the highest first
abbrev pub len_with : Place → ℕ → ℕ
len_with p byte = if nat_lt 3 p.had && nat_lt p.had HEADER then (p.len % (2 ^ 24)) * 256 + byte else p.len

-- so many bytes of a frame with a body of so many are there: behind the last one there are none of the next frame
abbrev pub place_at : ℕ → ℕ → Place
place_at had len =
    if nat_lt had (HEADER + len) then record { heard = true; had = had; len = len } else record { heard = true; had = 0; len = 0 }

-- between two frames, or before the first one where no byte came
abbrev pub between : Bool → Place
between heard = record { heard = heard; had = 0; len = 0 }

-- behind one byte more
abbrev pub place_with : Place → ℕ → Place
place_with p byte = place_at (one_more p.had) (len_with p byte)

-- behind these bytes
abbrev pub place_after : Place → List ℕ → Place
place_after p [] = p
place_after p (byte ∷ bytes) = place_after (place_with p byte) bytes

-- how many of the next bytes come before the last one of the body: none while the header is not there
abbrev pub before_last : Place → ℕ
before_last p = if nat_lt p.had HEADER then 0 else HEADER + p.len - (p.had + 1)

-- how long a link waits there: for its first byte; between two frames; or for the rest of a frame that has begun, the longer the longer
-- it is
abbrev pub span : Limits → Place → ℕ
span limits p =
    if p.heard then (if p.had == 0 then limits.between else limits.frame + limits.more * (min p.len MAX_BODY / SPAN))
    else limits.first

-- until when: what is waited for is waited for since a moment, which for what was not waited for before is now
abbrev pub waits_until : Limits → Place → ℕ → ℕ
waits_until limits p since = min (since + span limits p) last_count

-- the moment, or now where there is none
abbrev pub since_or : Option ℕ → ℕ → ℕ
since_or None now = now
since_or (Some since) now = since

-- since when the next bytes are waited for, behind a read that gave n: since as before where a frame had begun and is not there yet, and
-- else from the next read on
abbrev pub bytes_since : Place → Place → ℕ → ℕ → Option ℕ
bytes_since old new n since = if nat_lt 0 old.had && (new.had == min (old.had + n) last_count) then Some since else None

-- where a link is behind a read that gave this: where it gave no byte, where it was
abbrev pub place_behind : Place → List ℕ → ReadOut → Place
place_behind old buf (reads.Bytes n) = place_after old (take n buf)
place_behind old buf reads.End = old
place_behind old buf reads.Failed = old

-- since when the next bytes are waited for, behind such a read
abbrev pub since_behind : Place → Place → ℕ → ReadOut → Option ℕ
since_behind old new since (reads.Bytes n) = bytes_since old new n since
since_behind old new since reads.End = Some since
since_behind old new since reads.Failed = Some since

-- Bytes that are read wait behind those that waited, until a frame is given out.
use Rattle.std.proofs.Common.{◌≡◌, ◌≢◌, ℕ, ◌+◌, ◌<◌, List, [], ◌∷◌, ◌++◌, length, Option, None, Some, refl, sym, ap, subst, ◌∙◌, append_assoc, append-nil, arith}
use Rattle.std.specs.List.{flat_map}
use Rattle.std.specs.Io.KnownBytes.{Keeps, Consumes, IsAtEnd}
use Rattle.std.proofs.lemmas.List.{nil_from_length}
use Rattle.std.proofs.KnownBytes.{Consumes-trans, Consumes-nil}
use Rattle.nb_units.specs.Frames.{Front, Whole, Empty, Partial, Bad, Frame, frame, IsFrame, IsBad, front_of}
use Rattle.nb_units.proofs.FrameLaws.{empty_front}
use Rattle.nb_frame.specs.State.{Collected, waiting, fed}
use Rattle.nb_units.specs.declared.frames.TheConstants.{HEADER, MAX_BODY}
use Rattle.nb_frame.specs.Looks.{IsShort}
use Rattle.nb_frame.proofs.Shortness.{short_length}
use Rattle.nb_frame.specs.Collected.{frame_at, TakesFrame, NextIs}
use Rattle.nb_frame.specs.declared.fault.FrameFault.{FrameFault}
use Rattle.nb_frame.specs.declared.stream.Next.TheVariants as next
use Rattle.nb_frame.specs.declared.stream.FrameAt.{FrameAt}
use Rattle.nb_batch.specs.declared.batch.BatchEnd.{BatchEnd}
use Rattle.nb_batch.specs.declared.batch.BatchEnd.TheVariants.{Clean, Cut, BadFrame, ReadFault, WriteFault, NoMemory, FrameLimit}
use Rattle.nb_batch.specs.declared.fetch.Fetched.TheVariants as fetched
use Rattle.nb_batch.specs.Fetch.{Reads, AtEnd, FetchIs, IsNewest}
use Rattle.nb_batch.proofs.Ahead.{ahead_frame, ahead_bad}

pub reads_none : (left : Option (List ℕ)) (held : Collected) → Reads left left held held []
reads_none left held = record { bytes = []; took = Consumes-nil left; is = append-nil (waiting held); taken = omega arith }

pub reads_fed : (a b c : Option (List ℕ)) (old mid : Collected) (more : List ℕ) → Reads a b old mid [] → Consumes b c more → Reads a c old (fed mid more) []
reads_fed a b c old mid more reads took = record {
  bytes = reads.bytes ++ more;
  took = Consumes-trans a b c reads.bytes more reads.took took;
  is = sym (append_assoc (waiting old) reads.bytes more) ∙ ap (λ (xs : List ℕ). xs ++ more) reads.is;
  taken = reads.taken;
}

kept : (b c : Option (List ℕ)) → Keeps b c → Consumes b c []
kept None c is = tt
kept (Some xs) None is = absurd is
kept (Some xs) (Some ys) is = sym is

pub reads_kept : (a b c : Option (List ℕ)) (old mid : Collected) → Reads a b old mid [] → Keeps b c → Reads a c old mid []
reads_kept a b c old mid reads keeps = record {
  bytes = reads.bytes ++ [];
  took = Consumes-trans a b c reads.bytes [] reads.took (kept b c keeps);
  is = ap (λ (xs : List ℕ). waiting old ++ xs) (append-nil reads.bytes) ∙ reads.is;
  taken = reads.taken;
}

pub reads_frame : (a b : Option (List ℕ)) (old mid new : Collected) (f : FrameAt) → Reads a b old mid [] → TakesFrame mid new f → Reads a b old new (frame_at new.held f ∷ []) × IsFrame (frame_at new.held f)
reads_frame a b old mid new f reads takes =
    let same : frame_at mid.held f ≡ frame_at new.held f = ap (λ (held : List ℕ). frame_at held f) (sym takes.held) in
    let one : flat_map frame (frame_at mid.held f ∷ []) ≡ frame (frame_at mid.held f) = append-nil (frame (frame_at mid.held f)) in
    let R : Frame → Type 0 = λ g. Reads a b old new (g ∷ []) × IsFrame g in
    subst R same (
      record {
        bytes = reads.bytes;
        took = reads.took;
        is = reads.is ∙ takes.is ∙ ap (λ (xs : List ℕ). xs ++ waiting new) (sym one);
        taken = omega (arith, reads.taken, takes.taken, ap length one);
      },
      takes.lawful,
    )

-- a part of a frame waits where less than a frame does, and not nothing
pub some_waits : (bytes : List ℕ) → IsShort (front_of bytes) → length bytes ≢ 0 → front_of bytes ≡ Partial
some_waits bytes short some = by_front (front_of bytes) refl short
  where
    by_front : (front : Front) → front_of bytes ≡ front → IsShort front → front_of bytes ≡ Partial
    by_front Partial is short = is
    by_front Empty is short = absurd (some (ap length (empty_front bytes is)))
    by_front (Whole f rest) is short = absurd short
    by_front (Bad fault) is short = absurd short

-- a reader that is as before waits as before
pub same_waits : (old new : Collected) → new ≡ old → IsShort (front_of (waiting old)) → IsShort (front_of (waiting new))
same_waits old new same short = subst (λ (held : Collected). IsShort (front_of (waiting held))) (sym same) short

-- less than a frame waits
short_ahead : (bytes : List ℕ) → IsShort (front_of bytes) → length bytes < HEADER + MAX_BODY
short_ahead bytes short = omega (arith, short_length bytes short)

-- nothing is left of the source
pub ends_at : (faults faults' : ℕ) (a b c : Option (List ℕ)) (old held : Collected) (end : BatchEnd) → Reads a b old held [] → Keeps b c → IsAtEnd c → IsShort (front_of (waiting held)) → AtEnd held end
    → FetchIs faults faults' a c old held (fetched.Ended end)
ends_at faults faults' a b c old held Clean reads keeps left short is = (reads_kept a b c old held reads keeps, tt, (nil_from_length (waiting held) is, left), (λ e. absurd cc), (λ few. short_ahead (waiting held) short))
ends_at faults faults' a b c old held (Cut place) reads keeps left short is = (reads_kept a b c old held reads keeps, tt, (some_waits (waiting held) short is.0, left, is.1), (λ e. absurd cc), (λ few. short_ahead (waiting held) short))
ends_at faults faults' a b c old held (BadFrame fault) reads keeps left short is = absurd is
ends_at faults faults' a b c old held ReadFault reads keeps left short is = absurd is
ends_at faults faults' a b c old held WriteFault reads keeps left short is = absurd is
ends_at faults faults' a b c old held NoMemory reads keeps left short is = absurd is
ends_at faults faults' a b c old held FrameLimit reads keeps left short is = absurd is

-- a frame is given out
pub frame_at_front : (faults faults' : ℕ) (a b : Option (List ℕ)) (old mid new : Collected) (f : FrameAt) → Reads a b old mid [] → IsNewest old mid → TakesFrame mid new f → FetchIs faults faults' a b old new (fetched.Frame f)
frame_at_front faults faults' a b old mid new f reads newest takes =
    let r = reads_frame a b old mid new f reads takes in (r.0, r.1, omega (arith, takes.within, ap length takes.held), ahead_frame old mid new f newest takes)

-- what waits is no frame
pub bad_at : (faults faults' : ℕ) (a b : Option (List ℕ)) (old mid new : Collected) (fault : FrameFault) → Reads a b old mid [] → IsNewest old mid → NextIs mid new (next.Bad fault) → FetchIs faults faults' a b old new (fetched.Ended (BadFrame fault))
bad_at faults faults' a b old mid new fault reads newest is =
    subst (λ (held : Collected). FetchIs faults faults' a b old held (fetched.Ended (BadFrame fault))) (sym is.0)
    (reads, tt, is.1, (λ e. absurd cc), ahead_bad old mid newest (subst IsBad (sym is.1.1) tt))

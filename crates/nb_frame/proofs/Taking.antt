-- What is seen at the front of what waits is what is told of it.
use Rattle.std.proofs.Common.{◌≡◌, ℕ, ◌+◌, ◌<◌, ◌^◌, List, ◌++◌, length, take, drop, refl, sym, ap, subst, ◌∙◌, arith}
use Rattle.std.specs.Prelude.{slice_index}
use Rattle.std.specs.Int.{w32, from_be_bytes}
use Rattle.std.proofs.lemmas.List.{drop-drop, length-drop}
use Rattle.std.proofs.Math.Seq.{take-append_seam, drop-append_seam}
use Rattle.std.proofs.lemmas.Nat.{from_be_bytes-to_be_bytes_4}
use Rattle.nb_units.specs.Frames.{Frame, frame, IsFrame, Front, Whole, Empty, Partial, Bad, front_of, IsWhole, AreBytes}
use Rattle.nb_units.proofs.FrameLaws.{frame_is}
use Rattle.nb_frame.specs.Faults.{placed, moved, header_of}
use Rattle.nb_frame.specs.Looks.{LooksAs}
use Rattle.nb_frame.specs.Collected.{TakesFrame}
use Rattle.nb_frame.specs.declared.fault.FrameFault.{FrameFault}
use Rattle.nb_frame.specs.declared.fault.FrameFault.TheVariants as faults
use Rattle.nb_frame.specs.declared.look.Seen.TheVariants as seen

whole_parts : (front : Front) → IsWhole front → (f : Frame) × (rest : List ℕ) × (front ≡ Whole f rest)
whole_parts (Whole f rest) is = (f, rest, refl)
whole_parts Empty is = absurd is
whole_parts Partial is = absurd is
whole_parts (Bad fault) is = absurd is

-- the length that stands in the header of a frame
length_of : (f : Frame) (rest : List ℕ) → length f.body < 2 ^ 32 → from_be_bytes w32 (take 4 (drop 4 (frame f ++ rest))) ≡ length f.body
length_of f rest fits = from_be_bytes-to_be_bytes_4 (length f.body) fits

-- a frame and what follows it, by the place of its front
record Standing (held : List ℕ) (at kind len : ℕ) : Type 0 where
  one : Frame
  rest : List ℕ
  lawful : IsFrame one
  is : drop at held ≡ frame one ++ rest
  kind_is : kind ≡ one.kind
  len_is : len ≡ length one.body

standing : (held : List ℕ) (at kind len : ℕ) → AreBytes (drop at held) → LooksAs (drop at held) (seen.Whole kind len) → Standing held at kind len
standing held at kind len fits sees =
    let parts = whole_parts (front_of (drop at held)) sees.0 in
    let read = frame_is (drop at held) parts.1 parts.0 fits parts.2 in
    record {
      one = parts.0;
      rest = parts.1;
      lawful = read.0;
      is = read.1;
      kind_is = sees.1 ∙ ap (λ (xs : List ℕ). slice_index xs 3) read.1;
      len_is = sees.2 ∙ ap (λ (xs : List ℕ). from_be_bytes w32 (take 4 (drop 4 xs))) read.1 ∙ length_of parts.0 parts.1 (omega (arith, read.0.2));
    }

same_frame : (kind : ℕ) (body : List ℕ) (f : Frame) → kind ≡ f.kind → body ≡ f.body → record { kind = kind; body = body } ≡ f
same_frame kind body f k b =
    ap (λ (n : ℕ). let g : Frame = record { kind = n; body = body } in g) k ∙ ap (λ (xs : List ℕ). let g : Frame = record { kind = f.kind; body = xs } in g) b

pub takes_frame : (held : List ℕ) (at taken kind len : ℕ) → AreBytes (drop at held) → LooksAs (drop at held) (seen.Whole kind len)
    → TakesFrame (record { held = held; at = at; taken = taken }) (record { held = held; at = at + 8 + len; taken = taken + (8 + len) }) (record { kind = kind; start = at + 8; len = len })
takes_frame held at taken kind len fits sees =
    let s = standing held at kind len fits sees in
    let behind : drop (at + 8) held ≡ s.one.body ++ s.rest = sym (drop-drop 8 at held) ∙ ap (drop 8) s.is in
    let body : take len (drop (at + 8) held) ≡ s.one.body = ap (take len) behind ∙ ap (λ (n : ℕ). take n (s.one.body ++ s.rest)) s.len_is ∙ take-append_seam s.one.body s.rest in
    let rest : drop (at + 8 + len) held ≡ s.rest = sym (drop-drop len (at + 8) held) ∙ ap (drop len) behind ∙ ap (λ (n : ℕ). drop n (s.one.body ++ s.rest)) s.len_is ∙ drop-append_seam s.one.body s.rest in
    let one : record { kind = kind; body = take len (drop (at + 8) held) } ≡ s.one = same_frame kind (take len (drop (at + 8) held)) s.one s.kind_is body in
    let long : length (take len (drop (at + 8) held)) ≡ len = ap length body ∙ sym s.len_is in
    record {
      lawful = subst IsFrame (sym one) s.lawful;
      is = s.is ∙ ap (λ (f : Frame). frame f ++ s.rest) (sym one) ∙ ap (λ (xs : List ℕ). frame (record { kind = kind; body = take len (drop (at + 8) held) }) ++ xs) (sym rest);
      start = refl;
      within = omega (arith, sees.3, length-drop at held);
      length_is = long;
      held = refl;
      taken = omega (arith, long);
    }

-- a fault that was moved is the header's at its place
pub moved_is : (before : ℕ) (fault : FrameFault) → moved before fault ≡ placed before (header_of fault)
moved_is before (faults.BadMagic place found) = refl
moved_is before (faults.BadVersion place found) = refl
moved_is before (faults.BadKind place found) = refl
moved_is before (faults.TooLong place len) = refl

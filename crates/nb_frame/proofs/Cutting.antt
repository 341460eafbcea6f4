-- Any calls of a reader of frames: what was fed is what was given out, and what waits.
use Rattle.std.proofs.Common.{◌≡◌, ℕ, ◌+◌, ◌<◌, List, [], ◌∷◌, ◌++◌, length, refl, sym, ap, subst, ◌∙◌, append_assoc, append-nil, arith, length-append}
use Rattle.std.specs.List.{flat_map, AllByRecursion}
use Rattle.nb_units.specs.Frames.{Frame, frame, IsFrame, HeaderFault, Front, Bad, front_of, IsWhole}
use Rattle.nb_units.proofs.FrameLaws.{bad_stays, one_reading}
use Rattle.nb_frame.specs.State.{Collected, waiting, unfed, fed}
use Rattle.nb_frame.specs.Faults.{placed}
use Rattle.nb_frame.specs.Collected.{frame_at, TakesFrame, NextIs}
use Rattle.nb_frame.specs.Cuts.{Call, Feeds, Tells, Calls, stream_of, given, EndsIn, IsEnd, ReadsAs, InAnyCut, SameInAnyCut, FaultInAnyCut, FaultStays}
use Rattle.nb_frame.specs.declared.stream.Next.{Next}
use Rattle.nb_frame.specs.declared.stream.Next.TheVariants as next
use Rattle.nb_frame.specs.declared.stream.FrameAt.{FrameAt}
use Rattle.nb_frame.proofs.Shortness.{short_not_whole, bad_not_short, bad_not_whole}

-- from one state to another: what waited and what was fed is what was given out and what waits
record Passes (old new : Collected) (pieces : List ℕ) (frames : List Frame) : Type 0 where
  bytes : waiting old ++ pieces ≡ flat_map frame frames ++ waiting new
  lawful : AllByRecursion IsFrame frames
  taken : new.taken ≡ old.taken + length (flat_map frame frames)

passes_none : (old new : Collected) → new ≡ old → Passes old new [] []
passes_none old new same = record {
  bytes = append-nil (waiting old) ∙ sym (ap waiting same);
  lawful = tt;
  taken = omega (arith, ap (λ (c : Collected). c.taken) same);
}

passes_fed : (old new : Collected) (piece pieces : List ℕ) (frames : List Frame) → Passes (fed old piece) new pieces frames → Passes old new (piece ++ pieces) frames
passes_fed old new piece pieces frames p = record {
  bytes = sym (append_assoc (waiting old) piece pieces) ∙ p.bytes;
  lawful = p.lawful;
  taken = p.taken;
}

passes_frame : (old mid new : Collected) (f : FrameAt) (pieces : List ℕ) (frames : List Frame) → TakesFrame old mid f → Passes mid new pieces frames → Passes old new pieces (frame_at mid.held f ∷ frames)
passes_frame old mid new f pieces frames takes p =
    let one : Frame = frame_at old.held f in
    let same : one ≡ frame_at mid.held f = ap (λ (held : List ℕ). frame_at held f) (sym takes.held) in
    subst (λ (g : Frame). Passes old new pieces (g ∷ frames)) same
    (record {
      bytes = ap (λ (xs : List ℕ). xs ++ pieces) takes.is ∙ append_assoc (frame one) (waiting mid) pieces ∙ ap (λ (xs : List ℕ). frame one ++ xs) p.bytes ∙ sym (append_assoc (frame one) (flat_map frame frames) (waiting new));
      lawful = (takes.lawful, p.lawful);
      taken = omega (arith, p.taken, takes.taken, length-append (frame one) (flat_map frame frames));
    })

passes : (calls : List Call) (old new : Collected) → Calls old calls new → Passes old new (stream_of calls) (given calls)
passes [] old new is = passes_none old new is
passes (Feeds piece ∷ more) old new is = passes_fed old new piece (stream_of more) (given more) (passes more (fed old piece) new is.1)
passes (Tells (next.Frame f) behind ∷ more) old new is = passes_frame old behind new f (stream_of more) (given more) is.0 (passes more behind new is.1)
passes (Tells next.More behind ∷ more) old new is = subst (λ (c : Collected). Passes c new (stream_of more) (given more)) is.0.0 (passes more behind new is.1)
passes (Tells (next.Bad fault) behind ∷ more) old new is = subst (λ (c : Collected). Passes c new (stream_of more) (given more)) is.0.0 (passes more behind new is.1)

end_of : (last behind : Collected) (answer : Next) (before : ℕ) → last.taken ≡ before → NextIs last behind answer → IsEnd answer → EndsIn before (waiting last) answer × (IsWhole (front_of (waiting last)) → ⊥)
end_of last behind (next.Frame f) before taken is end = absurd end
end_of last behind next.More before taken is end = (is.1, short_not_whole (front_of (waiting last)) is.1)
end_of last behind (next.Bad fault) before taken is end =
    ((is.1.0, is.1.1, is.1.2 ∙ ap (λ (n : ℕ). placed n is.1.0) taken), bad_not_whole is.1.0 (front_of (waiting last)) is.1.1)

-- a frame that is given out leaves less, and nothing is lost
pub takes_less : (old new : Collected) (f : FrameAt) → TakesFrame old new f → (length (waiting new) < length (waiting old)) × (new.taken + length (waiting new) ≡ old.taken + length (waiting old))
takes_less old new f takes =
    let one : List ℕ = frame (frame_at old.held f) in
    let long : length (waiting old) ≡ length one + length (waiting new) = ap length takes.is ∙ length-append one (waiting new) in
    (omega (arith, long), omega (arith, long, takes.taken))

pub in_any_cut : InAnyCut
in_any_cut calls last behind answer is told end =
    let p = passes calls unfed last is in
    let taken : last.taken ≡ length (flat_map frame (given calls)) = omega (arith, p.taken) in
    let e = end_of last behind answer (length (flat_map frame (given calls))) taken told end in
    (record { splits = record { bytes = p.bytes; lawful = p.lawful; ends = e.1 }; ends = e.0 }, taken)

same_fault : (a b : HeaderFault) (front : Front) → front ≡ Bad a → front ≡ Bad b → a ≡ b
same_fault a b front first second = cc

-- a stream ends in one way
one_end : (before : ℕ) (rest : List ℕ) (answer other : Next) → EndsIn before rest answer → EndsIn before rest other → answer ≡ other
one_end before rest (next.Frame f) other first second = absurd first
one_end before rest next.More (next.Frame f) first second = absurd second
one_end before rest next.More next.More first second = refl
one_end before rest next.More (next.Bad fault) first second = absurd (bad_not_short second.0 (front_of rest) second.1 first)
one_end before rest (next.Bad fault) (next.Frame f) first second = absurd second
one_end before rest (next.Bad fault) next.More first second = absurd (bad_not_short first.0 (front_of rest) first.1 second)
one_end before rest (next.Bad fault) (next.Bad other) first second =
    ap next.Bad (first.2 ∙ ap (placed before) (same_fault first.0 second.0 (front_of rest) first.1 second.1) ∙ sym second.2)

-- a stream is read in one way, and ends in one
one_way : (stream rest last : List ℕ) (frames others : List Frame) (answer other : Next) → ReadsAs stream frames rest answer → ReadsAs stream others last other → (frames ≡ others) × (rest ≡ last) × (answer ≡ other)
one_way stream rest last frames others answer other first second =
    let both = one_reading stream rest last frames others first.splits second.splits in
    let E : List Frame → List ℕ → Type 0 = λ fs xs. EndsIn (length (flat_map frame fs)) xs answer in (
      both.0,
      both.1,
      one_end (length (flat_map frame others)) last answer other (subst (λ (fs : List Frame). E fs last) both.0 (subst (λ (xs : List ℕ). E frames xs) both.1 first.ends)) second.ends,
    )

pub same_in_any_cut : SameInAnyCut
same_in_any_cut calls others last behind latter beyond answer other is told end are tells ends same =
    one_way (stream_of others) (waiting last) (waiting latter) (given calls) (given others) answer other
    (subst (λ (xs : List ℕ). ReadsAs xs (given calls) (waiting last) answer) same (in_any_cut calls last behind answer is told end).0)
    (in_any_cut others latter beyond other are tells ends).0

pub fault_stays : FaultStays
fault_stays stream rest more frames fault is =
    let front : front_of (rest ++ more) ≡ Bad is.ends.0 = bad_stays rest more is.ends.0 is.ends.1 in
    record {
      splits = record {
        bytes = ap (λ (xs : List ℕ). xs ++ more) is.splits.bytes ∙ append_assoc (flat_map frame frames) rest more;
        lawful = is.splits.lawful;
        ends = bad_not_whole is.ends.0 (front_of (rest ++ more)) front;
      };
      ends = (is.ends.0, front, is.ends.2);
    }

pub fault_in_any_cut : FaultInAnyCut
fault_in_any_cut calls others last behind latter beyond fault other more is told are tells ends same =
    one_way (stream_of others) (waiting last ++ more) (waiting latter) (given calls) (given others) (next.Bad fault) other
    (subst (λ (xs : List ℕ). ReadsAs xs (given calls) (waiting last ++ more) (next.Bad fault)) (sym same)
    (fault_stays (stream_of calls) (waiting last) more (given calls) fault (in_any_cut calls last behind (next.Bad fault) is told tt).0))
    (in_any_cut others latter beyond other are tells ends).0

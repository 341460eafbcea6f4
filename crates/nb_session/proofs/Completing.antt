-- What the lines tell of a session, and that one over a link that does not fail answers all.
use Rattle.std.proofs.Common.{◌+◌, ◌≡◌, ◌⊎◌, inl, inr, ⊎_elim, ℕ, ◌<◌, ◌≤◌, List, [], ◌∷◌, ◌++◌, length, Option, None, Some, refl, sym, ap, subst, ◌∙◌, append_assoc, append-nil, arith, take}
use Rattle.std.specs.List.{flat_map, AllByRecursion}
use Rattle.std.specs.Io.KnownBytes.{Consumes, IsAtEnd}
use Rattle.std.proofs.lemmas.List.{map-append, length-append, take-append-le, take_all}
use Rattle.std.proofs.lemmas.Option.{same_Some}
use Rattle.nb_port.specs.Tells.{DiskTells}
use Rattle.nb_link.specs.Link.{LinkSeen}
use Rattle.nb_units.specs.Frames.{Frame, frame, IsFrame, Bad, front_of, IsWhole, Splits, Front, Empty}
use Rattle.nb_units.proofs.FrameLaws.{bad_stays, one_reading, longest_in}
use Rattle.nb_frame.specs.declared.fault.FrameFault.{FrameFault}
use Rattle.nb_frame.proofs.Shortness.{bad_not_whole, nothing_short, short_not_whole}
use Rattle.nb_entry.specs.declared.entry.Entry.{Entry}
use Rattle.nb_turns.specs.declared.limits.TheConstants.{MAX_FAULTS}
use Rattle.nb_turns.specs.declared.line.Line.{Line}
use Rattle.nb_turns.specs.declared.mark.Mark.{Mark}
use Rattle.nb_turns.specs.Turns.{Request, House, Answered, Outcome, Decides, Fails, Refuses, answered, decided, marks, with_entry, recorded}
use Rattle.nb_turns.specs.Lines.{faults_of, lines_by, maker_of, AddsLines, IsClosed, DoubtedLines, UnsettledLines, adopts, doubts, next_turn}
use Rattle.nb_turns.specs.Laws.{IsWorn}
use Rattle.nb_turns.specs.Callers.{Turned, answers_in, lines_since, own_lines}
use Rattle.nb_turns.proofs.Lining.{faults_append, no_faults, one_fault}
use Rattle.nb_turns.proofs.Following.{own_lines_alone, places_stand, seen_grows, turns_apart, worn_stands}
use Rattle.nb_turn.specs.declared.chronicle.View.{View}
use Rattle.nb_turn.specs.Views.{first_sees}
use Rattle.nb_turn.proofs.Lists.{by-append, first_again}
use Rattle.nb_vault.specs.declared.origin.Origin.{Origin}
use Rattle.nb_vault.specs.Vaults.{Chronicled, FaultWithin, house_in}
use Rattle.nb_vault.proofs.Vaulting.{decided_faults}
use Rattle.nb_port.specs.Faults.{Rose}
use Rattle.nb_session.specs.declared.ended.TheConstants.{MOST_FRAMES}
use Rattle.nb_session.specs.declared.ended.SessionEnd.{SessionEnd}
use Rattle.nb_session.specs.declared.ended.SessionEnd.TheVariants as ends
use Rattle.nb_session.specs.Session.{Session, TurnsAt, EndsAs, answer_of, frames_in, house_at, marks_in}
use Rattle.nb_wire.specs.Reads.{joined}
use Rattle.nb_session.specs.Laws.{AsManyMarks, LinesTell, Completes, CompletesWithDisk, NoneRose, AnswersEach, IsDecided, EndsBy, EndsExactly, EndsOver, GivesBytes}
use Rattle.nb_session.proofs.Going.{all_both}
use Rattle.nb_session.proofs.Ending.{frames_count, marks_count, moments_count}
use Rattle.nb_frame.specs.Faults.{placed}
use Rattle.nb_turns.specs.declared.line.Line.TheVariants.{Fault}

-- ---- counts

pub as_many : {D : Type 0} (tells : DiskTells D) → AsManyMarks tells
as_many tells by v w old new clock clock' moments marks end s = record {
  moments_are = omega (arith, ap length s.moments_are, moments_count s.turns, frames_count s.turns);
  marks_are = omega (arith, ap length s.marks_are, marks_count (house_at s.origin) s.turns, frames_count s.turns);
  most = most end s.ends;
}
  where
    most : (e : SessionEnd) → EndsAs (joined s.pieces) (length (flat_map frame (frames_in s.turns))) s.rest (length (frames_in s.turns)) old new e → length (frames_in s.turns) ≤ MOST_FRAMES
    most ends.Clean is = omega (arith, is.2)
    most (ends.Cut place) is = omega (arith, is.3)
    most (ends.BadFrame fault) is = omega (arith, is.1)
    most ends.ReadFault is = omega (arith, is.2)
    most ends.WriteFault is = is.1
    most ends.Spent is = omega (arith, is)
    most ends.NoMemory is = omega (arith, is.2)

-- ---- lines

-- the pass of the first number saw all lines last
parts_after : {D : Type 0} (tells : DiskTells D) (by : ℕ) (v w : View Origin Line) (turns : List Turned) → TurnsAt tells by v turns w → v.parts ≡ first_sees v.seen v.parts → w.parts ≡ first_sees w.seen v.parts
parts_after tells by v w [] at own = ap (λ (x : View Origin Line). x.parts) at ∙ own ∙ ap (λ (x : View Origin Line). first_sees x.seen v.parts) (sym at)
parts_after tells by v w (t ∷ turns) at own =
    let now : at.0.parts ≡ first_sees at.0.seen v.parts = ap (λ (x : View Origin Line). x.parts) at.1.goes_on.2 in
    let again : at.0.parts ≡ first_sees at.0.seen at.0.parts = now ∙ sym (first_again at.0.seen at.0.seen v.parts) ∙ ap (first_sees at.0.seen) (sym now) in
    parts_after tells by at.0 w turns at.2 again ∙ ap (first_sees w.seen) now ∙ first_again w.seen at.0.seen v.parts

-- behind a turn no more faults are told than a vault has
few_faults : {D : Type 0} (tells : DiskTells D) (by : ℕ) (v w : View Origin Line) (t : Turned) (turns : List Turned) → TurnsAt tells by v (t ∷ turns) w → faults_of w.seen ≤ MAX_FAULTS
few_faults tells by v w t [] at = omega (arith, ap (λ (x : View Origin Line). faults_of x.seen) at.2, ap faults_of at.1.asks.seen_is, at.1.asks.keeps.few)
few_faults tells by v w t (u ∷ turns) at = few_faults tells by at.0 w u turns at.2

worn_exactly : {D : Type 0} (tells : DiskTells D) (by : ℕ) (house : House) (v w : View Origin Line) (turns : List Turned) → TurnsAt tells by v turns w
    → AllByRecursion (λ (mark : Mark). IsWorn mark → MAX_FAULTS ≤ faults_of w.seen) (marks_in house turns) → AllByRecursion (λ (mark : Mark). IsWorn mark → faults_of w.seen ≡ MAX_FAULTS) (marks_in house turns)
worn_exactly tells by house v w [] at all = tt
worn_exactly tells by house v w (t ∷ turns) at all =
    let most : faults_of w.seen ≤ MAX_FAULTS = few_faults tells by v w t turns at in
    each (marks_in house (t ∷ turns)) most all
  where
    each : (told : List Mark) → faults_of w.seen ≤ MAX_FAULTS → AllByRecursion (λ (mark : Mark). IsWorn mark → MAX_FAULTS ≤ faults_of w.seen) told → AllByRecursion (λ (mark : Mark). IsWorn mark → faults_of w.seen ≡ MAX_FAULTS) told
    each [] most least = tt
    each (mark ∷ told) most least = ((λ (worn : IsWorn mark). omega (arith, most, least.0 worn)), each told most least.1)

pub lines_tell : {D : Type 0} (tells : DiskTells D) → LinesTell tells
lines_tell tells by v w old new clock clock' moments told end s =
    let house : House = house_at s.origin in
    let grows : w.seen ≡ v.seen ++ lines_since s.turns = seen_grows house s.origin.entries by v.seen s.turns w.seen s.answered in
    let own : lines_by by (lines_since s.turns) ≡ own_lines s.turns = own_lines_alone house s.origin.entries by v.seen s.turns w.seen s.answered in
    record {
      seen_grows = grows;
      count_grows = omega (arith, ap length grows, length-append v.seen (lines_since s.turns));
      own_alone = own;
      own_grow = ap (lines_by by) grows ∙ by-append maker_of by v.seen (lines_since s.turns) ∙ ap (λ (ls : List Line). lines_by by v.seen ++ ls) own;
      places_stand = places_stand house s.origin.entries by v.seen s.turns w.seen s.answered;
      worn_stands = subst (AllByRecursion (λ (mark : Mark). IsWorn mark → faults_of w.seen ≡ MAX_FAULTS)) (sym s.marks_are)
          (worn_exactly tells by house v w s.turns s.at_desk (worn_stands house s.origin.entries by v.seen s.turns w.seen s.answered));
      turns_apart = turns_apart house s.origin.entries by v.seen s.turns w.seen s.answered;
      parts_stand = parts_after tells by v w s.turns s.at_desk;
    }

-- ---- where no turn fails

-- each turn that fails tells a fault
one_told : (house : House) (opening : List Entry) (by turn : ℕ) (before : List Line) (requests : List Request) (from to : ℕ) (added : List Line) → AddsLines house opening by turn before requests (Fails from to) added → faults_of added ≡ 1
one_told house opening by turn before requests from to added is =
    let alone : faults_of [] + faults_of (Fault by turn from to ∷ []) ≡ 1 = one_fault by turn [] [] from to in
    ⊎_elim
    (λ (u : UnsettledLines by turn before from to added). omega (arith, ap faults_of u.lines, alone, no_faults [] tt))
    (λ (d : DoubtedLines house opening by turn before requests from to added).
    omega (arith, ap faults_of d.lines, faults_append (adopts by turn d.kept) (doubts by turn (recorded house d.over requests) ++ Fault by turn from to ∷ []), one_fault by turn d.kept (recorded house d.over requests) from to))
    is.1

decided_marks : (house : House) (over : List Entry) (requests : List Request) → AllByRecursion IsDecided (marks (decided house over requests))
decided_marks house over [] = tt
decided_marks house over (r ∷ rs) = (tt, decided_marks house (with_entry house over r) rs)

decides : (told house : House) (opening : List Entry) (by turn : ℕ) (before : List Line) (requests : List Request) (outcome : Outcome) (added : List Line) → faults_of added ≡ 0 → faults_of before < MAX_FAULTS
    → AddsLines house opening by turn before requests outcome added → AllByRecursion IsDecided (marks (answered told requests outcome))
decides told house opening by turn before requests (Decides over) added none few adds = decided_marks told over requests
decides told house opening by turn before requests (Fails from to) added none few adds = absurd (omega (arith, none, one_told house opening by turn before requests from to added adds))
decides told house opening by turn before requests Refuses added none few adds = absurd (omega (arith, few, adds.0))

module _ {D : Type 0} (tells : DiskTells D) (by : ℕ) where
  faults_grow : (v w : View Origin Line) (turns : List Turned) → TurnsAt tells by v turns w → faults_of v.seen ≤ faults_of w.seen
  faults_grow v w [] at = omega (arith, ap (λ (x : View Origin Line). faults_of x.seen) at)
  faults_grow v w (t ∷ turns) at =
      let a = at.1.asks in
      let one : faults_of v.seen ≤ faults_of at.0.seen = omega (arith, ap faults_of a.seen, faults_append (v.seen ++ a.meets.others) a.went.added, faults_append v.seen a.meets.others) in
      omega (arith, one, faults_grow at.0 w turns at.2)

  -- where none of some turns tells a fault, and not too many are told behind them, each decided its requests
  pub all_decided : (house : House) (v w : View Origin Line) (turns : List Turned) → TurnsAt tells by v turns w → faults_of (own_lines turns) ≡ 0 → faults_of w.seen < MAX_FAULTS → AllByRecursion IsDecided (marks_in house turns)
  all_decided house v w [] at none few = tt
  all_decided house v w (t ∷ turns) at none few =
      let a = at.1.asks in
      let before : List Line = v.seen ++ a.meets.others in
      let own : faults_of t.added + faults_of (own_lines turns) ≡ 0 = omega (arith, none, faults_append t.added (own_lines turns)) in
      let quiet : faults_of a.went.added ≡ 0 = omega (arith, own, ap (λ (x : Turned). faults_of x.added) at.1.turn_is) in
      let fewer : faults_of before < MAX_FAULTS = omega (arith, few, faults_grow at.0 w turns at.2, ap faults_of a.seen, faults_append before a.went.added) in
      subst (AllByRecursion IsDecided) (sym (map-append (λ (x : Answered). x.mark) (answered house t.requests t.outcome) (answers_in house turns)))
      (all_both IsDecided (marks (answered house t.requests t.outcome)) (marks_in house turns)
      (decides house (house_in a.old) a.old.origin.entries by (next_turn before) before t.requests t.outcome a.went.added quiet fewer a.follows.lines)
      (all_decided house at.0 w turns at.2 (omega (arith, own)) few))

-- ---- where the link does not fail

nothing_whole : IsWhole (front_of []) → ⊥
nothing_whole = short_not_whole (front_of []) nothing_short

nothing_is : front_of [] ≡ Empty
unfolding front_of
nothing_is = refl

-- what was read of a link that tells, and what is left of it
left_over : (bytes read : List ℕ) (old new : Option (List ℕ)) → old ≡ Some bytes → Consumes old new read → (rest : List ℕ) × (new ≡ Some rest) × (bytes ≡ read ++ rest)
left_over bytes read None new is took = absurd cc
left_over bytes read (Some xs) None is took = absurd took
left_over bytes read (Some xs) (Some ys) is took = (ys, refl, sym (same_Some xs bytes is) ∙ took)

at_end : (rest : List ℕ) (left : Option (List ℕ)) → left ≡ Some rest → IsAtEnd left → rest ≡ []
at_end rest None is end = absurd cc
at_end rest (Some xs) is end = sym (same_Some xs rest is) ∙ end

module _ {D : Type 0} (tells : DiskTells D) (by : ℕ) (v w : View Origin Line) (old new : LinkSeen) (clock clock' : Option (List ℕ)) (moments : List ℕ) (told : List Mark) (bytes : List ℕ) (frames : List Frame) (rest : List ℕ) (gives : GivesBytes old new bytes) (splits : Splits bytes frames rest) where
  -- where all frames that were read are answered, and none begins behind them, they are all frames of the link
  whole_read : (end : SessionEnd) (s : Session tells by v w old new clock clock' moments told end) (left : List ℕ) → bytes ≡ joined s.pieces ++ left → s.unanswered ≡ [] → (IsWhole (front_of (s.rest ++ left)) → ⊥)
      → (frames_in s.turns ≡ frames) × (s.rest ++ left ≡ rest)
  whole_read end s left is none ends =
      let answered : frames_in s.turns ++ s.unanswered ≡ frames_in s.turns = ap (λ (fs : List Frame). frames_in s.turns ++ fs) none ∙ append-nil (frames_in s.turns) in
      let read : joined s.pieces ≡ flat_map frame (frames_in s.turns) ++ s.rest = s.frames.bytes ∙ ap (λ (fs : List Frame). flat_map frame fs ++ s.rest) answered in
      one_reading bytes (s.rest ++ left) rest (frames_in s.turns) frames
      (record { bytes = is ∙ ap (λ (bs : List ℕ). bs ++ left) read ∙ append_assoc (flat_map frame (frames_in s.turns)) s.rest left; lawful = subst (AllByRecursion IsFrame) answered s.frames.lawful; ends = ends }) splits

  -- so it is where nothing is left of it
  at_last : (end : SessionEnd) (s : Session tells by v w old new clock clock' moments told end) → IsAtEnd new.left → s.unanswered ≡ [] → length (frames_in s.turns) < MOST_FRAMES
      → (length frames < MOST_FRAMES) × (frames_in s.turns ≡ frames) × (s.rest ≡ rest) × (joined s.pieces ≡ bytes)
  at_last end s last none few =
      let l = left_over bytes (joined s.pieces) old.left new.left gives.left s.took in
      let nothing : l.0 ≡ [] = at_end l.0 new.left l.1 last in
      let same : s.rest ++ l.0 ≡ s.rest = ap (λ (bs : List ℕ). s.rest ++ bs) nothing ∙ append-nil s.rest in
      let all = whole_read end s l.0 l.2 none (λ (whole : IsWhole (front_of (s.rest ++ l.0))). s.frames.ends (subst (λ (bs : List ℕ). IsWhole (front_of bs)) same whole)) in
      (omega (arith, few, ap length all.0), all.0, sym same ∙ all.1, sym (l.2 ∙ ap (λ (bs : List ℕ). joined s.pieces ++ bs) nothing ∙ append-nil (joined s.pieces)))

  abbrev ends_by : Front → SessionEnd → Type 0
  ends_by front end = EndsBy (length bytes) (length (flat_map frame frames)) front end

  clean : (s : Session tells by v w old new clock clock' moments told ends.Clean) → (length frames < MOST_FRAMES) × (frames_in s.turns ≡ frames) × ends_by (front_of rest) ends.Clean
  clean s =
      let a = at_last ends.Clean s s.ends.1 (s.all tt) s.ends.2 in
      (a.0, a.1, subst (λ (front : Front). ends_by front ends.Clean) (sym nothing_is ∙ ap front_of (sym s.ends.0 ∙ a.2)) refl)

  cut : (place : ℕ) (s : Session tells by v w old new clock clock' moments told (ends.Cut place)) → (length frames < MOST_FRAMES) × (frames_in s.turns ≡ frames) × ends_by (front_of rest) (ends.Cut place)
  cut place s =
      let a = at_last (ends.Cut place) s s.ends.1 (s.all tt) s.ends.3 in
      (a.0, a.1, subst (λ (front : Front). ends_by front (ends.Cut place)) (sym s.ends.0 ∙ ap front_of a.2) (ap (λ (n : ℕ). ends.Cut n) (s.ends.2 ∙ ap length a.3)))

  bad : (fault : FrameFault) (s : Session tells by v w old new clock clock' moments told (ends.BadFrame fault)) → (length frames < MOST_FRAMES) × (frames_in s.turns ≡ frames) × ends_by (front_of rest) (ends.BadFrame fault)
  bad fault s =
      let l = left_over bytes (joined s.pieces) old.left new.left gives.left s.took in
      let stays : front_of (s.rest ++ l.0) ≡ Bad s.ends.0.0 = bad_stays s.rest l.0 s.ends.0.0 s.ends.0.1 in
      let all = whole_read (ends.BadFrame fault) s l.0 l.2 (s.all tt) (bad_not_whole s.ends.0.0 (front_of (s.rest ++ l.0)) stays) in (
        omega (arith, s.ends.1, ap length all.0),
        all.0,
        subst (λ (front : Front). ends_by front (ends.BadFrame fault)) (sym stays ∙ ap front_of all.1) (ap (λ (f : FrameFault). ends.BadFrame f) (s.ends.0.2 ∙ ap (λ (fs : List Frame). placed (length (flat_map frame fs)) s.ends.0.0) all.0)),
      )

  spent : (s : Session tells by v w old new clock clock' moments told ends.Spent) → (MOST_FRAMES ≤ length frames) × (frames_in s.turns ≡ take MOST_FRAMES frames)
  spent s =
      let l = left_over bytes (joined s.pieces) old.left new.left gives.left s.took in
      let further : bytes ≡ flat_map frame (frames_in s.turns ++ s.unanswered) ++ (s.rest ++ l.0) = l.2 ∙ ap (λ (bs : List ℕ). bs ++ l.0) s.frames.bytes ∙ append_assoc (flat_map frame (frames_in s.turns ++ s.unanswered)) s.rest l.0 in
      let m = longest_in bytes rest (s.rest ++ l.0) frames (frames_in s.turns ++ s.unanswered) splits s.frames.lawful further in
      let whole : frames ≡ frames_in s.turns ++ (s.unanswered ++ m.0) = m.1 ∙ append_assoc (frames_in s.turns) s.unanswered m.0 in (
        omega (arith, s.ends, ap length whole, length-append (frames_in s.turns) (s.unanswered ++ m.0)),
        sym (ap (take MOST_FRAMES) whole ∙ take-append-le MOST_FRAMES (frames_in s.turns) (s.unanswered ++ m.0) (omega (arith, s.ends)) ∙ take_all MOST_FRAMES (frames_in s.turns) (omega (arith, s.ends))),
      )

  by_end : (end : SessionEnd) (s : Session tells by v w old new clock clock' moments told end) → EndsOver bytes frames rest (frames_in s.turns) end
  by_end ends.Clean s = inr (inr (clean s))
  by_end (ends.Cut place) s = inr (inr (cut place s))
  by_end (ends.BadFrame fault) s = inr (inr (bad fault s))
  by_end ends.ReadFault s = absurd (gives.reads s.ends.0)
  by_end ends.WriteFault s = absurd (gives.writes s.ends.0)
  by_end ends.Spent s = let e = spent s in inr (inl (e.0, e.1, refl))
  by_end ends.NoMemory s = inl refl

pub exactly : {D : Type 0} (tells : DiskTells D) → EndsExactly tells
exactly tells by v w old new clock clock' moments told end bytes frames rest s gives splits = by_end tells by v w old new clock clock' moments told bytes frames rest gives splits end s

pub complete : {D : Type 0} (tells : DiskTells D) → Completes tells
complete tells by v w old new clock clock' moments told end frames s gives quiet = which (exactly tells by v w old new clock clock' moments told end (flat_map frame frames) frames [] s gives.gives whole)
  where
    whole : Splits (flat_map frame frames) frames []
    whole = record { bytes = sym (append-nil (flat_map frame frames)); lawful = gives.lawful; ends = nothing_whole }

    which : EndsOver (flat_map frame frames) frames [] (frames_in s.turns) end → (end ≡ ends.NoMemory) ⊎ AnswersEach (frames_in s.turns) frames told end
    which (inl none) = inl none
    which (inr (inl spent)) = absurd (omega (arith, gives.few, spent.0))
    which (inr (inr ended)) = inr (record {
      clean = subst (λ (front : Front). EndsBy (length (flat_map frame frames)) (length (flat_map frame frames)) front end) nothing_is ended.2;
      all = ended.1;
      decided = subst (AllByRecursion IsDecided) (sym s.marks_are) (all_decided tells by (house_at s.origin) v w s.turns s.at_desk quiet.none quiet.few);
    })

-- ---- where the disk does not fail

-- a turn in which the disk's count did not rise tells no fault
quiet_adds : {D : Type 0} (tells : DiskTells D) (old new : Chronicled D) (by : ℕ) (requests : List Request) (outcome : Outcome) (added : List Line) → IsClosed old.lines
    → (Rose (tells.faults old.disk) (tells.faults new.disk) → ⊥) → FaultWithin tells old new (answer_of outcome)
    → AddsLines (house_in old) old.origin.entries by (next_turn old.lines) old.lines requests outcome added → faults_of added ≡ 0
quiet_adds tells old new by requests (Decides over) added closed still fault adds =
    omega (arith, decided_faults (house_in old) old.origin.entries by (next_turn old.lines) old.lines requests added closed over adds, faults_append old.lines added)
quiet_adds tells old new by requests (Fails from to) added closed still fault adds = absurd (still (omega (arith, fault.0, fault.2, fault.3)))
quiet_adds tells old new by requests Refuses added closed still fault adds = ap faults_of adds.1 ∙ no_faults [] tt

quiet_own : {D : Type 0} (tells : DiskTells D) (by : ℕ) (v w : View Origin Line) (turns : List Turned) (at : TurnsAt tells by v turns w) → NoneRose tells by v turns w at → faults_of (own_lines turns) ≡ 0
quiet_own tells by v w [] at still = no_faults [] tt
quiet_own tells by v w (t ∷ turns) at still =
    let a = at.1.asks in
    let one : faults_of t.added ≡ 0 =
    ap (λ (x : Turned). faults_of x.added) at.1.turn_is ∙ quiet_adds tells a.old a.new by t.requests t.outcome a.went.added a.kept.closed still.0 a.fault a.went.lines in
    omega (arith, faults_append t.added (own_lines turns), one, quiet_own tells by at.0 w turns at.2 still.1)

pub complete_with_disk : {D : Type 0} (tells : DiskTells D) → CompletesWithDisk tells
complete_with_disk tells by v w old new clock clock' moments told end frames s gives still few =
    complete tells by v w old new clock clock' moments told end frames s gives (record { none = quiet_own tells by v w s.turns s.at_desk still; few = few })

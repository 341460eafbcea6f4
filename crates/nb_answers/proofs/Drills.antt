-- A drill's batch: all frames, each at the one moment, from an empty list; and its line.
use Rattle.std.proofs.Common.{◌≡◌, ◌≢◌, ℕ, zero, suc, ◌<◌, ◌≤◌, ◌^◌, ◌⊎◌, List, [], ◌∷◌, ◌++◌, length, drop, get_or, Option, Some, IfSome, refl, sym, ap, subst, ◌∙◌, append-nil, arith, inl, inr, ⊎_elim}
use Rattle.std.specs.Prelude.{map, replicate}
use Rattle.std.specs.List.{flat_map, AllByRecursion}
use Rattle.std.specs.Io.KnownBytes.{Appends, IsAtEnd}
use Rattle.std.proofs.lemmas.List.Sums.{sum_by-append}
use Rattle.nb_port.specs.Tells.{DiskTells}
use Rattle.nb_units.specs.Frames.{Frame, frame, IsFrame}
use Rattle.nb_entry.specs.declared.entry.Entry.{Entry}
use Rattle.nb_book.specs.Money.{fund, total}
use Rattle.nb_book.proofs.Summing.{total_fits}
use Rattle.nb_turns.specs.declared.line.Line.{Line}
use Rattle.nb_turns.specs.Lines.{entries_of}
use Rattle.nb_turns.specs.Turns.{Request, Answered}
use Rattle.nb_vault.specs.declared.vault.opening.VaultFault.{VaultFault}
use Rattle.nb_vault.specs.declared.vault.opening.VaultFault.TheVariants.{Unborn, Damaged, BadEntry, DiskFault, NoMemory}
use Rattle.nb_journal.specs.Making.{without_fee}
use Rattle.nb_vault.specs.Holdings.{StandsFor}
use Rattle.nb_vault.proofs.HoldingLaws.{one_list}
use Rattle.nb_batch.specs.declared.answering.Answerer.TheVariants.{House}
use Rattle.nb_batch.specs.Batch.{Outside, frame_of, moment_of}
use Rattle.nb_batch.specs.Send.{SentPart}
use Rattle.nb_play.specs.declared.frames.TheConstants.{MOMENT}
use Rattle.nb_play.specs.Drill.{head_of}
use Rattle.nb_play.specs.Feed.{bytes_from, cap_of, count_of, frames_from, frames_of}
use Rattle.nb_play.proofs.Lengths.{are_frames}
use Rattle.nb_commands.specs.declared.ending.Ending.{Ending}
use Rattle.nb_commands.specs.declared.ending.TheConstants.{CLEAN, SOURCE_FAILED, SINK_FAILED, BAD_INPUT, OUT_OF_MEMORY, FRAME_LIMIT}
use Rattle.nb_commands.specs.Ending.{at_no_place}
use Rattle.nb_commands.specs.Opening.{unopened}
use Rattle.nb_answers.specs.Batch.{Batch, BatchLines, EndsWhole, IsWholeInput}
use Rattle.nb_answers.specs.Drill.{Answers, Drilled, IsFresh, TellsLine, fed, held, line_of, line_with, recorded, requests_of, tally}
use Rattle.nb_answers.proofs.Completeness.{parts}

-- ---- the input

lawful : (seed place n : ℕ) → AllByRecursion IsFrame (frames_from seed place n)
unfolding frames_from
lawful seed place zero = tt
lawful seed place (suc n) = (are_frames seed place, lawful seed (suc place) n)

as_many : (seed place n : ℕ) → length (frames_from seed place n) ≡ n
unfolding frames_from
as_many seed place zero = refl
as_many seed place (suc n) = ap suc (as_many seed (suc place) n)

pub whole_input : (seed orders : ℕ) → orders ≤ 100000 → IsWholeInput (Some (bytes_from seed 0 (count_of orders)))
whole_input seed orders few = record {
  frames = frames_of seed orders;
  lawful = lawful seed 0 (count_of orders);
  few = omega (arith, few, as_many seed 0 (count_of orders));
  is = refl;
}

-- ---- the requests

at_moment : (answered : List Answered) (n : ℕ) → replicate n 1000000 ≡ map moment_of answered → AllByRecursion (λ (a : Answered). a.request.moment ≡ 1000000) answered
at_moment [] n is = tt
at_moment (a ∷ more) zero is = absurd cc
at_moment (a ∷ more) (suc n) is = (sym (ap (λ (xs : List ℕ). get_or xs 0 0) is), at_moment more n (ap (drop 1) is))

abbrev asked : Frame → Request
asked f = record { kind = f.kind; body = f.body; moment = MOMENT }

requests_are : (answered : List Answered) → AllByRecursion (λ (a : Answered). a.request.moment ≡ 1000000) answered → map (λ (a : Answered). a.request) answered ≡ map asked (map frame_of answered)
requests_are [] each = refl
requests_are (a ∷ more) each =
    ap (λ (m : ℕ). (let r : Request = record { kind = a.request.kind; body = a.request.body; moment = m } in r) ∷ map (λ (other : Answered). other.request) more) each.0
    ∙ ap (λ (rs : List Request). asked (frame_of a) ∷ rs) (requests_are more each.1)

none_more : (more : List Frame) → [] ≡ flat_map frame more ++ [] → more ≡ []
none_more [] is = refl
none_more (f ∷ more) is = absurd cc

-- ---- what of a batch is a drill's

module _ {D : Type 0} (tells : DiskTells D) (made new : D) (seed orders : ℕ) (few : orders ≤ 100000) (after : Outside) (end : Ending) where
  all_frames : (b : Batch tells House made new (fed seed orders) after end) → end.status ≡ CLEAN → map frame_of b.answered ≡ frames_of seed orders
  all_frames b clean =
      let gs : List Frame = map frame_of b.answered ++ b.unanswered in
      let p = parts (frames_of seed orders) gs b.rest b.read (Some (bytes_from seed 0 (count_of orders))) after.left refl (lawful seed 0 (count_of orders)) b.took b.frames in
      let nothing : p.left ≡ [] = subst IsAtEnd p.known (b.clean clean).1 in
      let behind : [] ≡ flat_map frame p.more ++ [] = sym (ap (λ (xs : List ℕ). xs ++ p.left) (b.clean clean).0 ∙ nothing) ∙ p.after in
      sym (append-nil (map frame_of b.answered)) ∙ ap (λ (fs : List Frame). map frame_of b.answered ++ fs) (sym (b.all (inl clean)))
      ∙ sym (append-nil gs) ∙ ap (λ (fs : List Frame). gs ++ fs) (sym (none_more p.more behind)) ∙ sym p.all

  all_requests : (b : Batch tells House made new (fed seed orders) after end) (n : ℕ) → end.status ≡ CLEAN → after.moments ≡ Some (replicate n MOMENT) → map (λ (a : Answered). a.request) b.answered ≡ requests_of seed orders
  all_requests b n clean told =
      let given : replicate n 1000000 ≡ map moment_of b.answered = subst (λ (moments : Option (List ℕ)). Rattle.nb_batch.specs.Answering.Gave (Some []) moments (map moment_of b.answered)) told b.asked in
      requests_are b.answered (at_moment b.answered n given) ∙ ap (map asked) (all_frames b clean)

  begins_so : (b : Batch tells House made new (fed seed orders) after end) → IsFresh (tells.content made) seed orders → (b.charter ≡ without_fee (head_of seed)) × (b.cap ≡ cap_of orders) × (b.opening ≡ [])
  begins_so b fresh =
      let stands : StandsFor b.charter b.cap b.opening fresh.0 = subst (λ (content : Option (List ℕ)). IfSome content (StandsFor b.charter b.cap b.opening)) fresh.1 b.stands in
      let one = one_list fresh.0 b.charter (without_fee (head_of seed)) b.cap (cap_of orders) b.opening [] stands fresh.2 in
      (one.1, one.0, one.2)

  -- the line of the entries that the lines record is that of the last list
  told_of : (b : Batch tells House made new (fed seed orders) after end) (lines : List Line) → b.last.entries ≡ entries_of b.opening lines → IsFresh (tells.content made) seed orders
      → line_with orders (tally (recorded lines)) ≡ line_of orders b.last.entries
  told_of b lines is fresh =
      let all : b.last.entries ≡ recorded lines = is ∙ ap (λ (es : List Entry). es ++ recorded lines) (begins_so b fresh).2 in
      let sums : total b.last.entries ≡ held b.last.entries = sym b.money.sums in
      ap (λ (es : List Entry). line_with orders (tally es)) (sym all)
      ∙ ap (λ (t : ℕ). line_with orders (record (tally b.last.entries) { total = t })) sums

  opened_not : (fault : VaultFault) (n : ℕ) → (n ≡ CLEAN) ⊎ (n ≡ SOURCE_FAILED) → (unopened fault).status ≡ n → ⊥
  opened_not (Unborn found) n (inl is) e = omega (arith, is, e)
  opened_not (Unborn found) n (inr is) e = omega (arith, is, e)
  opened_not (Damaged item place) n (inl is) e = omega (arith, is, e)
  opened_not (Damaged item place) n (inr is) e = omega (arith, is, e)
  opened_not (BadEntry item) n (inl is) e = omega (arith, is, e)
  opened_not (BadEntry item) n (inr is) e = omega (arith, is, e)
  opened_not (DiskFault before behind) n (inl is) e = omega (arith, is, e)
  opened_not (DiskFault before behind) n (inr is) e = omega (arith, is, e)
  opened_not NoMemory n (inl is) e = omega (arith, is, e)
  opened_not NoMemory n (inr is) e = omega (arith, is, e)

  module _ (lines : List Line) (batch : BatchLines tells House made new (fed seed orders) after lines end) (sent sent' : Option (List ℕ)) where
    -- the frames were answered, and the line was told
    pub told : (ending : Ending) (n : ℕ) → end.status ≡ CLEAN → after.moments ≡ Some (replicate n MOMENT) → TellsLine sent sent' (line_with orders (tally (recorded lines))) ending
        → Answers tells made new sent sent' seed orders ending
    told ending n clean moments line = elim batch [
      | inl none ↦ absurd (opened_not none.0.fault end.status (inl clean) (ap (λ (e : Ending). e.status) (sym none.0.ends)))
      | inr b ↦ inr (record {
        after = after;
        end = end;
        batch = b.0;
        begins = begins_so b.0;
        all = λ other. all_requests b.0 n clean moments;
        line = λ is fresh. subst (Appends sent sent') (told_of b.0 lines b.1 fresh) (whole line is);
        cut = λ is fresh. subst (SentPart sent sent') (told_of b.0 lines b.1 fresh) (part line is);
        nothing = none line;
        ends = ⊎_elim (λ l. inl l.0) (⊎_elim (λ l. inr (inl l.0)) (λ l. inr (inr l.0))) line;
      })
    ]
      where
        whole : TellsLine sent sent' (line_with orders (tally (recorded lines))) ending → ending.status ≡ CLEAN → Appends sent sent' (line_with orders (tally (recorded lines)))
        whole (inl l) is = l.1
        whole (inr (inl l)) is = absurd (omega (arith, is, ap (λ (e : Ending). e.status) l.0))
        whole (inr (inr l)) is = absurd (omega (arith, is, ap (λ (e : Ending). e.status) l.0))

        part : TellsLine sent sent' (line_with orders (tally (recorded lines))) ending → ending.status ≡ SINK_FAILED → SentPart sent sent' (line_with orders (tally (recorded lines)))
        part (inl l) is = absurd (omega (arith, is, ap (λ (e : Ending). e.status) l.0))
        part (inr (inl l)) is = l.1
        part (inr (inr l)) is = absurd (omega (arith, is, ap (λ (e : Ending). e.status) l.0))

        none : TellsLine sent sent' (line_with orders (tally (recorded lines))) ending → ending.status ≡ OUT_OF_MEMORY → sent' ≡ sent
        none (inl l) is = absurd (omega (arith, is, ap (λ (e : Ending). e.status) l.0))
        none (inr (inl l)) is = absurd (omega (arith, is, ap (λ (e : Ending). e.status) l.0))
        none (inr (inr l)) is = l.1

    -- memory was wanting in it
    starved : (ending : Ending) → ending ≡ at_no_place OUT_OF_MEMORY → Batch tells House made new (fed seed orders) after end → sent' ≡ sent → Drilled tells made new sent sent' seed orders ending
    starved ending is b same = record {
      after = after;
      end = end;
      batch = b;
      begins = begins_so b;
      all = λ other. absurd (other (ap (λ (e : Ending). e.status) is));
      line = λ clean. absurd (omega (arith, clean, ap (λ (e : Ending). e.status) is));
      cut = λ clean. absurd (omega (arith, clean, ap (λ (e : Ending). e.status) is));
      nothing = λ e. same;
      ends = inr (inr is);
    }

    pub wanting : (end.status ≡ CLEAN) ⊎ (end.status ≡ SOURCE_FAILED) → sent' ≡ sent → Answers tells made new sent sent' seed orders (at_no_place OUT_OF_MEMORY)
    wanting opened same = elim batch [
      | inl none ↦ absurd (opened_not none.0.fault end.status opened (ap (λ (e : Ending). e.status) (sym none.0.ends)))
      | inr b ↦ inr (starved (at_no_place OUT_OF_MEMORY) refl b.0 same)
    ]

    pub other : EndsWhole end → end.status ≢ CLEAN → end.status ≢ SOURCE_FAILED → sent' ≡ sent → Answers tells made new sent sent' seed orders end
    other ends not_clean not_failed same = elim batch [
      | inl none ↦ inl (record { fault = none.0.fault; ends = none.0.ends; why = none.0.why; nothing = refl; unwritten = none.0.unwritten }, same)
      | inr b ↦ inr (starved end (by b.0 ends) b.0 same)
    ]
      where
        ending_is : (e : Ending) (s p : ℕ) → e.status ≡ s → e.place ≡ p → e ≡ record { status = s; place = p }
        ending_is e s p is at = rw (sym is, sym at) refl

        by : (b : Batch tells House made new (fed seed orders) after end) → EndsWhole end → end ≡ at_no_place OUT_OF_MEMORY
        by b (inl is) = absurd (not_clean is)
        by b (inr (inl is)) = ending_is end OUT_OF_MEMORY 0 is (b.nowhere (λ e. omega (arith, is, e)))
        by b (inr (inr (inl is))) = absurd (not_failed is)
        by b (inr (inr (inr (inl is)))) = absurd (never b.ends)
          where
            never : (end.status ≡ CLEAN) ⊎ (end.status ≡ SOURCE_FAILED) ⊎ (end.status ≡ SINK_FAILED) ⊎ (end.status ≡ BAD_INPUT) ⊎ (end.status ≡ OUT_OF_MEMORY) ⊎ (end.status ≡ FRAME_LIMIT) → ⊥
            never e = omega (arith, is, e)
        by b (inr (inr (inr (inr is)))) = absurd (never b.ends)
          where
            never : (end.status ≡ CLEAN) ⊎ (end.status ≡ SOURCE_FAILED) ⊎ (end.status ≡ SINK_FAILED) ⊎ (end.status ≡ BAD_INPUT) ⊎ (end.status ≡ OUT_OF_MEMORY) ⊎ (end.status ≡ FRAME_LIMIT) → ⊥
            never e = omega (arith, is, e)

    -- the money that the lines record fits a number of 64 bits
    pub fits : total (recorded lines) < 2 ^ 64
    fits = elim batch [
      | inl none ↦ subst (λ (ls : List Line). total (recorded ls) < 2 ^ 64) (sym none.1) (omega arith)
      | inr b ↦ omega (
        arith,
        total_fits (b.0.last.entries ++ b.0.last.doubt) b.0.legal.legal,
        sum_by-append fund b.0.last.entries b.0.last.doubt,
        ap total b.1,
        sum_by-append fund b.0.opening (recorded lines),
      )
    ]

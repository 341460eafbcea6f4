-- What a batch served, told as a run of the program.
use Rattle.std.proofs.lemmas.List.{nil_from_length, length-append}
use Rattle.std.proofs.Common.{◌≡◌, ◌≢◌, ℕ, ◌+◌, ◌<◌, ◌≤◌, ◌⊎◌, Bool, false, List, [], ◌∷◌, ◌++◌, length, Option, IfSome, Result, Ok, Err, refl, sym, ap, subst, ◌∙◌, append-nil, arith, inl, inr, ⊎_elim}
use Rattle.std.specs.Prelude.{map}
use Rattle.std.specs.List.{flat_map, AllByRecursion}
use Rattle.std.specs.Option.{option_to_list}
use Rattle.std.specs.Io.KnownBytes.{Appends, IsAtEnd}
use Rattle.nb_port.specs.Tells.{DiskTells}
use Rattle.nb_port.proofs.Backing.{backed_earlier, backed_grows}
use Rattle.nb_port.specs.Faults.{Rose, Backed}
use Rattle.nb_units.specs.declared.charter.Charter.{Charter}
use Rattle.nb_units.specs.Frames.{Frame, frame, front_of, IsBad, Splits}
use Rattle.nb_entry.specs.declared.entry.Entry.{Entry}
use Rattle.nb_escrow.specs.Head.{head_of}
use Rattle.nb_units.specs.declared.frames.TheConstants.{HEADER}
use Rattle.nb_frame.specs.declared.stream.TheConstants.{MAX_PIECE}
use Rattle.nb_frame.specs.Faults.{place_of}
use Rattle.nb_frame.specs.Looks.{IsShort}
use Rattle.nb_frame.proofs.Shortness.{short_not_bad, nothing_bad}
use Rattle.nb_journal.specs.Time.{Unwritten}
use Rattle.nb_turns.specs.declared.line.Line.{Line}
use Rattle.nb_turns.specs.Lines.{entries_of}
use Rattle.nb_vault.specs.declared.origin.Origin.{Origin}
use Rattle.nb_vault.specs.Holdings.{StandsForEither}
use Rattle.nb_vault.specs.Opens.{VaultOpensAs}
use Rattle.nb_turns.specs.declared.mark.Mark.{Mark}
use Rattle.nb_turns.specs.declared.mark.Mark.TheVariants.{At, Fault, Worn}
use Rattle.nb_turns.specs.Turns.{Request, House, State, Answered, decided, last_state, replies}
use Rattle.nb_turns.specs.Laws.{TurnOfOne, RunOfOnes}
use Rattle.nb_vault.specs.Rules.{house_of}
use Rattle.nb_book.specs.Legal.{LegalUnder}
use Rattle.nb_vault.specs.Vaults.{Chronicled, state_of, entries_in, doubt_in, Keeps}
use Rattle.nb_commands.specs.declared.ending.TheConstants.{CLEAN, SOURCE_FAILED, SINK_FAILED, BAD_INPUT, OUT_OF_MEMORY, FRAME_LIMIT}
use Rattle.nb_batch.specs.declared.batch.TheConstants.{MOST_FRAMES}
use Rattle.nb_vault.specs.declared.taking.TakeIn.{TakeIn}
use Rattle.nb_vault.specs.declared.taking.TakeIn.TheVariants as takes
use Rattle.nb_batch.specs.declared.batch.BatchEnd.{BatchEnd}
use Rattle.nb_batch.specs.declared.batch.BatchEnd.TheVariants.{Clean, Cut, BadFrame, ReadFault, WriteFault, NoMemory, FrameLimit}
use Rattle.nb_standby.specs.declared.shipped.Shipped.{Shipped}
use Rattle.nb_standby.specs.Answering.{Acknowledges, AcknowledgesAll, CameOf, mark_of, record_in}
use Rattle.nb_standby.specs.World.{TakesTo}
use Rattle.nb_batch.specs.declared.answering.Answerer.{Answerer}
use Rattle.nb_batch.specs.declared.answering.Answerer.TheVariants as answers
use Rattle.nb_batch.specs.Answering.{Goes, failure_in_mark}
use Rattle.nb_batch.specs.Batch.{at_rest, AllDecided, IsDecided, failures_told, Outside, frame_of, CountsAs, AnswersAll, Wrote, WroteShort, Served, StandsInRun, GoesThrough}
use Rattle.nb_batch.specs.Fetch.{AheadAs, EndsAs}
use Rattle.nb_answers.specs.Ending.{ended, status_of}
use Rattle.nb_answers.specs.Batch.{EndsBadly, Batch, BatchLines}

-- ---- where each turn decides

decides_on : (house : House) (entries : List Entry) (request : Request) (mark : Mark) (reply : List ℕ) (new : State) → TurnOfOne house (at_rest entries) request mark reply new → IsDecided mark
    → (reply ≡ (house.rules entries request).reply) × (new ≡ at_rest (entries ++ option_to_list (house.rules entries request).entry))
decides_on house entries request (At place) reply new turn is = on turn.1.over (over_is turn.1.settled) turn.1.told turn.1.left
  where
    over_is : (turn.1.over ≡ entries) ⊎ (turn.1.over ≡ entries ++ []) → turn.1.over ≡ entries
    over_is settled = elim settled [ inl e ↦ e | inr e ↦ e ∙ append-nil entries ]

    on : (over : List Entry) → over ≡ entries → reply ≡ (house.rules over request).reply → new ≡ at_rest (over ++ option_to_list (house.rules over request).entry)
        → (reply ≡ (house.rules entries request).reply) × (new ≡ at_rest (entries ++ option_to_list (house.rules entries request).entry))
    on over e told left =
        (told ∙ ap (λ (H : List Entry). (house.rules H request).reply) e, left ∙ ap (λ (H : List Entry). at_rest (H ++ option_to_list (house.rules H request).entry)) e)
decides_on house entries request (Fault before after) reply new turn is = absurd is
decides_on house entries request Worn reply new turn is = absurd is

-- a turn from rest that decides goes on to rest, over the entries
replies-decided : (house : House) (entries : List Entry) (answered : List Answered) (states : List State) → RunOfOnes house (at_rest entries) answered states → AllDecided answered
    → replies answered ≡ replies (decided house entries (map (λ (a : Answered). a.request) answered))
replies-decided house entries [] [] run all = refl
replies-decided house entries (a ∷ more) (s ∷ states) run all =
    let next = decides_on house entries a.request a.mark a.reply s run.0 all.0 in
    let P : State → Type 0 = λ state. RunOfOnes house state more states in
    let rest = replies-decided house (entries ++ option_to_list (house.rules entries a.request).entry) more states (subst P next.1 run.1) all.1 in
    ap (λ (bytes : List ℕ). bytes ++ replies more) next.0 ∙ ap (λ (bytes : List ℕ). (house.rules entries a.request).reply ++ bytes) rest
replies-decided house entries [] (s ∷ states) run all = absurd run
replies-decided house entries (a ∷ more) [] run all = absurd run

-- ---- the counts of faults

-- in a house where no turn failed each turn decides where the count does not rise
all_decided : (house : House) (first : State) (answered : List Answered) (states : List State) (from to : ℕ) → first.faults ≡ 0 → RunOfOnes house first answered states → Backed from (failures_told answered) to → (Rose from to → ⊥)
    → AllDecided answered
all_decided house first [] states from to none run backed calm = tt
all_decided house first (a ∷ more) [] from to none run backed calm = absurd run
all_decided house first (a ∷ more) (s ∷ states) from to none run backed calm = by_mark a.mark (λ still is. all_decided house s more states from to still run.1 is calm) run.0 backed
  where
    by_mark : (mark : Mark) → (s.faults ≡ 0 → Backed from (failures_told more) to → AllDecided more) → TurnOfOne house first a.request mark a.reply s → Backed from (option_to_list (failure_in_mark mark) ++ failures_told more) to → IsDecided mark × AllDecided more
    by_mark (At place) again turn is = (tt, again (ap (λ (state : State). state.faults) turn.1.left ∙ none) is)
    by_mark Worn again turn is = absurd (omega (arith, none, turn.0))
    by_mark (Fault before after) again turn is = absurd (calm (omega (arith, is.0, is.1, backed_grows (failures_told more) after to is.2)))

-- ---- a standby, where its disk does not fail

-- a frame that was not looked at rose the count; and no turn failed by then
looked_at : (charter : Charter) (cap : ℕ) (first : State) (request : Request) (mark : Mark) (reply : List ℕ) (next : State) → first.faults ≡ 0 → Acknowledges charter cap first request mark reply next
    → (IsDecided mark × (next.faults ≡ 0)) ⊎ ((before after : ℕ) × (mark ≡ Fault before after))
looked_at charter cap first request mark reply next none is = by (record_in request) is.came
  where
    as_before : (place : ℕ) → mark ≡ At place → next ≡ first → (IsDecided mark × (next.faults ≡ 0)) ⊎ ((before after : ℕ) × (mark ≡ Fault before after))
    as_before place at same = inl (subst IsDecided (sym at) tt, ap (λ (state : State). state.faults) same ∙ none)

    goes_on : (place : ℕ) → mark ≡ At place → next.faults ≡ first.faults → (IsDecided mark × (next.faults ≡ 0)) ⊎ ((before after : ℕ) × (mark ≡ Fault before after))
    goes_on place at same = inl (subst IsDecided (sym at) tt, same ∙ none)

    by_how : (place : ℕ) (e : Entry) (how : TakeIn) → mark ≡ mark_of place how → TakesTo charter cap first place e how next → (IsDecided mark × (next.faults ≡ 0)) ⊎ ((before after : ℕ) × (mark ≡ Fault before after))
    by_how place e takes.Taken at turn = goes_on place at (ap (λ (state : State). state.faults) turn.1.2)
    by_how place e takes.Same at turn = goes_on place at (ap (λ (state : State). state.faults) turn.1.2)
    by_how place e takes.Other at turn = goes_on place at (ap (λ (state : State). state.faults) turn.1.2)
    by_how place e takes.Ahead at turn = goes_on place at (ap (λ (state : State). state.faults) turn.1.2)
    by_how place e takes.Illegal at turn = goes_on place at (ap (λ (state : State). state.faults) turn.1.2)
    by_how place e (takes.DiskFault before after) at turn = inr (before, after, at)
    by_how place e (takes.Worn faults) at turn = absurd (omega (arith, none, turn.1.0))

    by : (read : Result Shipped ℕ) → CameOf (head_of charter).house charter cap first read mark is.code next → (IsDecided mark × (next.faults ≡ 0)) ⊎ ((before after : ℕ) × (mark ≡ Fault before after))
    by (Err place) came = as_before 0 came.0 came.2
    by (Ok r) (inl came) = as_before r.place came.1 came.3
    by (Ok r) (inr came) = by_how r.place r.entry came.1.0 came.1.1 came.1.3

all_looked_at : (charter : Charter) (cap : ℕ) (first : State) (answered : List Answered) (states : List State) (from to : ℕ) → first.faults ≡ 0 → AcknowledgesAll charter cap first answered states → Backed from (failures_told answered) to → (Rose from to → ⊥)
    → AllDecided answered
all_looked_at charter cap first [] states from to none run backed calm = tt
all_looked_at charter cap first (a ∷ more) [] from to none run backed calm = absurd run
all_looked_at charter cap first (a ∷ more) (s ∷ states) from to none run backed calm = elim (looked_at charter cap first a.request a.mark a.reply s none run.0) [
  | inl is ↦ (is.0, all_looked_at charter cap s more states from to is.1 run.1 (still a.mark is.0 backed) calm)
  | inr is ↦ absurd (calm (risen a.mark is.0 is.1 is.2 backed))
]
  where
    still : (mark : Mark) → IsDecided mark → Backed from (option_to_list (failure_in_mark mark) ++ failures_told more) to → Backed from (failures_told more) to
    still (At place) is backed = backed
    still (Fault before after) is backed = absurd is
    still Worn is backed = absurd is

    risen : (mark : Mark) (before after : ℕ) → mark ≡ Fault before after → Backed from (option_to_list (failure_in_mark mark) ++ failures_told more) to → Rose from to
    risen mark before after is backed =
        let told = subst (λ (m : Mark). Backed from (option_to_list (failure_in_mark m) ++ failures_told more) to) is backed in
        omega (arith, told.0, told.1, backed_grows (failures_told more) after to told.2)

-- ---- by who answers

decided_by : (by : Answerer) (charter : Charter) (cap : ℕ) (first : State) (answered : List Answered) (states : List State) (from to : ℕ) → first.faults ≡ 0 → Goes by charter cap first answered states → Backed from (failures_told answered) to → (Rose from to → ⊥)
    → AllDecided answered
decided_by answers.House charter cap first answered states from to none run backed calm = all_decided (house_of (head_of charter) cap) first answered states from to none run backed calm
decided_by answers.Standby charter cap first answered states from to none run backed calm = all_looked_at charter cap first answered states from to none run backed calm

alone_by : (by : Answerer) (charter : Charter) (cap : ℕ) (entries : List Entry) (answered : List Answered) (states : List State) → Goes by charter cap (at_rest entries) answered states → by ≡ answers.House → AllDecided answered
    → replies answered ≡ replies (decided (house_of (head_of charter) cap) entries (map (λ (a : Answered). a.request) answered))
alone_by answers.House charter cap entries answered states run is all = replies-decided (house_of (head_of charter) cap) entries answered states run all
alone_by answers.Standby charter cap entries answered states run is all = absurd cc

-- ---- by how the batch ended

answers_all : (end : BatchEnd) → (status_of end ≡ CLEAN) ⊎ (status_of end ≡ BAD_INPUT) ⊎ (status_of end ≡ SOURCE_FAILED) → AnswersAll end
answers_all Clean is = tt
answers_all (Cut place) is = tt
answers_all (BadFrame fault) is = tt
answers_all ReadFault is = tt
answers_all WriteFault is = elim is [ inl e ↦ absurd (omega arith) | inr o ↦ elim o [ inl e ↦ absurd (omega arith) | inr e ↦ absurd (omega arith) ] ]
answers_all NoMemory is = tt
answers_all FrameLimit is = elim is [ inl e ↦ absurd (omega arith) | inr o ↦ elim o [ inl e ↦ absurd (omega arith) | inr e ↦ absurd (omega arith) ] ]

wrote_all : (end : BatchEnd) (before after : Outside) (answered : List Answered) → Wrote end before after answered → status_of end ≢ SINK_FAILED → Appends before.sent after.sent (replies answered)
wrote_all Clean before after answered wrote other = wrote
wrote_all (Cut place) before after answered wrote other = wrote
wrote_all (BadFrame fault) before after answered wrote other = wrote
wrote_all ReadFault before after answered wrote other = wrote
wrote_all WriteFault before after answered wrote other = absurd (other refl)
wrote_all NoMemory before after answered wrote other = wrote
wrote_all FrameLimit before after answered wrote other = wrote

wrote_part : (end : BatchEnd) (before after : Outside) (answered : List Answered) → Wrote end before after answered → status_of end ≡ SINK_FAILED → WroteShort before after answered
wrote_part Clean before after answered wrote is = absurd (omega arith)
wrote_part (Cut place) before after answered wrote is = absurd (omega arith)
wrote_part (BadFrame fault) before after answered wrote is = absurd (omega arith)
wrote_part ReadFault before after answered wrote is = absurd (omega arith)
wrote_part WriteFault before after answered wrote is = wrote
wrote_part NoMemory before after answered wrote is = absurd (omega arith)
wrote_part FrameLimit before after answered wrote is = absurd (omega arith)

ends_clean : (end : BatchEnd) (rest : List ℕ) (left : Option (List ℕ)) (before : ℕ) → EndsAs end before rest left → status_of end ≡ CLEAN → (rest ≡ []) × IsAtEnd left
ends_clean Clean rest left before ends is = ends
ends_clean (Cut place) rest left before ends is = absurd (omega arith)
ends_clean (BadFrame fault) rest left before ends is = absurd (omega arith)
ends_clean ReadFault rest left before ends is = absurd (omega arith)
ends_clean WriteFault rest left before ends is = absurd (omega arith)
ends_clean NoMemory rest left before ends is = absurd (omega arith)
ends_clean FrameLimit rest left before ends is = absurd (omega arith)

ends_bad : (end : BatchEnd) (read : List ℕ) (frames : List Frame) (rest : List ℕ) (left : Option (List ℕ)) → (AnswersAll end → length read ≡ length (flat_map frame frames) + length rest) → EndsAs end (length (flat_map frame frames)) rest left
    → status_of end ≡ BAD_INPUT → EndsBadly read frames rest left (ended end).place
ends_bad Clean read frames rest left long ends is = absurd (omega arith)
ends_bad (Cut place) read frames rest left long ends is = inl (ends.0, ends.1, ends.2 ∙ sym (long tt))
ends_bad (BadFrame fault) read frames rest left long ends is = inr (ends.0, ends.1, ap place_of ends.2)
ends_bad ReadFault read frames rest left long ends is = absurd (omega arith)
ends_bad WriteFault read frames rest left long ends is = absurd (omega arith)
ends_bad NoMemory read frames rest left long ends is = absurd (omega arith)
ends_bad FrameLimit read frames rest left long ends is = absurd (omega arith)

-- how far was read
ahead_of : (end : BatchEnd) (waits : ℕ) → AheadAs end waits → (status_of end ≡ SINK_FAILED) ⊎ (status_of end ≡ FRAME_LIMIT) → waits < MAX_PIECE
ahead_of WriteFault waits ahead is = ahead
ahead_of FrameLimit waits ahead is = ahead
ahead_of Clean waits ahead (inl is) = absurd (omega arith)
ahead_of Clean waits ahead (inr is) = absurd (omega arith)
ahead_of (Cut place) waits ahead (inl is) = absurd (omega arith)
ahead_of (Cut place) waits ahead (inr is) = absurd (omega arith)
ahead_of (BadFrame fault) waits ahead (inl is) = absurd (omega arith)
ahead_of (BadFrame fault) waits ahead (inr is) = absurd (omega arith)
ahead_of ReadFault waits ahead (inl is) = absurd (omega arith)
ahead_of ReadFault waits ahead (inr is) = absurd (omega arith)
ahead_of NoMemory waits ahead (inl is) = absurd (omega arith)
ahead_of NoMemory waits ahead (inr is) = absurd (omega arith)

ahead_bad : (end : BatchEnd) (rest : List ℕ) (left : Option (List ℕ)) (before waits : ℕ) → AheadAs end waits → EndsAs end before rest left → status_of end ≡ BAD_INPUT → IsBad (front_of rest) → waits < MAX_PIECE + HEADER
ahead_bad Clean rest left before waits ahead ends is bad = absurd (omega arith)
ahead_bad (Cut place) rest left before waits ahead ends is bad = absurd (subst IsBad ends.0 bad)
ahead_bad (BadFrame fault) rest left before waits ahead ends is bad = ahead
ahead_bad ReadFault rest left before waits ahead ends is bad = absurd (omega arith)
ahead_bad WriteFault rest left before waits ahead ends is bad = absurd (omega arith)
ahead_bad NoMemory rest left before waits ahead ends is bad = absurd (omega arith)
ahead_bad FrameLimit rest left before waits ahead ends is bad = absurd (omega arith)

ends_failed : (end : BatchEnd) (rest : List ℕ) (left : Option (List ℕ)) (before : ℕ) → EndsAs end before rest left → status_of end ≡ SOURCE_FAILED → IsShort (front_of rest)
ends_failed Clean rest left before ends is = absurd (omega arith)
ends_failed (Cut place) rest left before ends is = absurd (omega arith)
ends_failed (BadFrame fault) rest left before ends is = absurd (omega arith)
ends_failed ReadFault rest left before ends is = ends
ends_failed WriteFault rest left before ends is = absurd (omega arith)
ends_failed NoMemory rest left before ends is = absurd (omega arith)
ends_failed FrameLimit rest left before ends is = absurd (omega arith)

-- nothing was read where nothing was answered, nothing waits, and there is no rest
nothing_read : (read : List ℕ) (answered : List Answered) (unanswered : List Frame) (rest : List ℕ) → Splits read (map frame_of answered ++ unanswered) rest → answered ≡ [] → unanswered ≡ [] → rest ≡ [] → read ≡ []
nothing_read read answered unanswered rest splits none no_more no_rest =
    splits.bytes
    ∙ ap (λ (done : List Answered). flat_map frame (map frame_of done ++ unanswered) ++ rest) none
    ∙ ap (λ (fs : List Frame). flat_map frame fs ++ rest) no_more
    ∙ no_rest

starved_so : (end : BatchEnd) (read : List ℕ) (answered : List Answered) (unanswered : List Frame) (rest : List ℕ) (left : Option (List ℕ)) (before : ℕ) → Splits read (map frame_of answered ++ unanswered) rest → (AnswersAll end → unanswered ≡ [])
    → EndsAs end before rest left → CountsAs end (length answered) → status_of end ≡ OUT_OF_MEMORY → (answered ≡ []) × (read ≡ [])
starved_so Clean read answered unanswered rest left before splits all ends counted is = absurd (omega arith)
starved_so (Cut place) read answered unanswered rest left before splits all ends counted is = absurd (omega arith)
starved_so (BadFrame fault) read answered unanswered rest left before splits all ends counted is = absurd (omega arith)
starved_so ReadFault read answered unanswered rest left before splits all ends counted is = absurd (omega arith)
starved_so WriteFault read answered unanswered rest left before splits all ends counted is = absurd (omega arith)
starved_so NoMemory read answered unanswered rest left before splits all ends counted is =
    let none : answered ≡ [] = nil_from_length answered counted in
    (none, nothing_read read answered unanswered rest splits none (all tt) ends)
starved_so FrameLimit read answered unanswered rest left before splits all ends counted is = absurd (omega arith)

bad_ends : (end : BatchEnd) (rest : List ℕ) (left : Option (List ℕ)) (before : ℕ) → EndsAs end before rest left → IsBad (front_of rest) → (status_of end ≡ BAD_INPUT) ⊎ (status_of end ≡ SINK_FAILED) ⊎ (status_of end ≡ FRAME_LIMIT)
bad_ends Clean rest left before ends bad = absurd (nothing_bad rest ends.0 bad)
bad_ends (Cut place) rest left before ends bad = absurd (subst IsBad ends.0 bad)
bad_ends (BadFrame fault) rest left before ends bad = inl refl
bad_ends ReadFault rest left before ends bad = absurd (short_not_bad (front_of rest) ends bad)
bad_ends WriteFault rest left before ends bad = inr (inl refl)
bad_ends NoMemory rest left before ends bad = absurd (nothing_bad rest ends bad)
bad_ends FrameLimit rest left before ends bad = inr (inr refl)

rest_ends : (end : BatchEnd) (rest : List ℕ) (left : Option (List ℕ)) (before : ℕ) → EndsAs end before rest left → rest ≢ [] → (status_of end ≡ BAD_INPUT) ⊎ (status_of end ≡ SINK_FAILED) ⊎ (status_of end ≡ FRAME_LIMIT) ⊎ (status_of end ≡ SOURCE_FAILED)
rest_ends Clean rest left before ends some = absurd (some ends.0)
rest_ends (Cut place) rest left before ends some = inl refl
rest_ends (BadFrame fault) rest left before ends some = inl refl
rest_ends ReadFault rest left before ends some = inr (inr (inr refl))
rest_ends WriteFault rest left before ends some = inr (inl refl)
rest_ends NoMemory rest left before ends some = absurd (some ends)
rest_ends FrameLimit rest left before ends some = inr (inr (inl refl))

no_place : (end : BatchEnd) → status_of end ≢ BAD_INPUT → (ended end).place ≡ 0
no_place Clean other = refl
no_place (Cut place) other = absurd (other refl)
no_place (BadFrame fault) other = absurd (other refl)
no_place ReadFault other = refl
no_place WriteFault other = refl
no_place NoMemory other = refl
no_place FrameLimit other = refl

-- where all frames are answered, the bytes read are theirs and the rest
read_long : (end : BatchEnd) (read : List ℕ) (fs unanswered : List Frame) (rest : List ℕ) → Splits read (fs ++ unanswered) rest → (AnswersAll end → unanswered ≡ []) → AnswersAll end → length read ≡ length (flat_map frame fs) + length rest
read_long end read fs unanswered rest splits all is =
    let whole : read ≡ flat_map frame fs ++ rest = splits.bytes ∙ ap (λ (gs : List Frame). flat_map frame (fs ++ gs) ++ rest) (all is) ∙ ap (λ (gs : List Frame). flat_map frame gs ++ rest) (append-nil fs) in
    omega (arith, ap length whole, length-append (flat_map frame fs) rest)

counts_few : (end : BatchEnd) (count : ℕ) → CountsAs end count → count ≤ MOST_FRAMES
counts_few Clean count is = omega arith
counts_few (Cut place) count is = omega arith
counts_few (BadFrame fault) count is = omega arith
counts_few ReadFault count is = omega arith
counts_few WriteFault count is = is
counts_few NoMemory count is = omega (arith, is)
counts_few FrameLimit count is = omega arith

counts_spent : (end : BatchEnd) (count : ℕ) → CountsAs end count → status_of end ≡ FRAME_LIMIT → count ≡ MOST_FRAMES
counts_spent Clean count is e = absurd (omega arith)
counts_spent (Cut place) count is e = absurd (omega arith)
counts_spent (BadFrame fault) count is e = absurd (omega arith)
counts_spent ReadFault count is e = absurd (omega arith)
counts_spent WriteFault count is e = absurd (omega arith)
counts_spent NoMemory count is e = absurd (omega arith)
counts_spent FrameLimit count is e = is

counts_most : (end : BatchEnd) (count : ℕ) → CountsAs end count → count ≡ MOST_FRAMES → (status_of end ≡ FRAME_LIMIT) ⊎ (status_of end ≡ SINK_FAILED)
counts_most Clean count is e = absurd (omega arith)
counts_most (Cut place) count is e = absurd (omega arith)
counts_most (BadFrame fault) count is e = absurd (omega arith)
counts_most ReadFault count is e = absurd (omega arith)
counts_most WriteFault count is e = inr refl
counts_most NoMemory count is e = absurd (omega (arith, is, e))
counts_most FrameLimit count is e = inl refl

ends_as : (end : BatchEnd) → (status_of end ≡ CLEAN) ⊎ (status_of end ≡ SOURCE_FAILED) ⊎ (status_of end ≡ SINK_FAILED) ⊎ (status_of end ≡ BAD_INPUT) ⊎ (status_of end ≡ OUT_OF_MEMORY) ⊎ (status_of end ≡ FRAME_LIMIT)
ends_as Clean = inl refl
ends_as ReadFault = inr (inl refl)
ends_as WriteFault = inr (inr (inl refl))
ends_as (Cut place) = inr (inr (inr (inl refl)))
ends_as (BadFrame fault) = inr (inr (inr (inl refl)))
ends_as NoMemory = inr (inr (inr (inr (inl refl))))
ends_as FrameLimit = inr (inr (inr (inr (inr refl))))

-- ---- all of it

-- a vault that was just opened is at rest
opened_rests : {D : Type 0} (v : Chronicled D) → v.lines ≡ [] → v.stale ≡ false → state_of v ≡ at_rest v.origin.entries
opened_rests {D} v lines fresh =
    let P : List Line → Bool → Type 0 = λ ls stale. (let house : Chronicled D = record { origin = v.origin; lines = ls; stale = stale; disk = v.disk } in state_of house) ≡ at_rest v.origin.entries in
    subst (λ (ls : List Line). P ls v.stale) (sym lines) (subst (P []) (sym fresh) (ap (λ (entries : List Entry). at_rest entries) (append-nil v.origin.entries)))

module _ {D : Type 0} (tells : DiskTells D) (by : Answerer) where
  pub batch_of : ((d : D) (c : List ℕ) → tells.left d (tells.moment d) c → tells.allowed d c) → (end : BatchEnd) (disk : D) (opened house : Chronicled D) (before after : Outside)
      → VaultOpensAs tells disk opened → Unwritten tells disk opened.disk → tells.faults disk ≤ tells.faults opened.disk
      → Served tells by opened house before after end → Keeps tells house → house.origin ≡ opened.origin
      → Batch tells by disk house.disk before after (ended end)
  batch_of only_now end disk opened house before after opens unwritten count s keeps same =
      let rest : state_of opened ≡ at_rest opened.origin.entries = opened_rests opened opens.lines opens.durable.fresh in
      let R : State → Type 0 = λ state. Goes by opened.origin.charter opened.origin.cap state s.answered s.states in
      let turns = subst R rest s.turns in
      let backed = backed_earlier (failures_told s.answered) (tells.faults disk) (tells.faults opened.disk) (tells.faults house.disk) count s.backed in
      record {
        charter = opened.origin.charter;
        cap = opened.origin.cap;
        opening = opened.origin.entries;
        answered = s.answered;
        states = s.states;
        last = state_of house;
        opened = opened.disk;
        disks = s.disks;
        read = s.read;
        unanswered = s.unanswered;
        ahead = ahead_of end (length (flat_map frame s.unanswered ++ s.rest)) s.ahead;
        ahead_bad = λ is bad. omega (arith, ahead_bad end s.rest after.left (length (flat_map frame (map frame_of s.answered))) (length (flat_map frame s.unanswered ++ s.rest)) s.ahead s.ends is bad, length-append (flat_map frame s.unanswered) s.rest);
        rest = s.rest;
        stands = opens.stands;
        took = s.took;
        frames = s.frames;
        all = λ is. s.all (answers_all end is);
        asked = s.asked;
        turns = turns;
        last_is = s.last ∙ ap (λ (state : State). last_state state s.states) rest;
        wrote = wrote_all end before after s.answered s.wrote;
        wrote_short = wrote_part end before after s.answered s.wrote;
        backed = backed;
        steady = decided_by by opened.origin.charter opened.origin.cap (at_rest opened.origin.entries) s.answered s.states (tells.faults disk) (tells.faults house.disk) refl turns backed;
        alone = alone_by by opened.origin.charter opened.origin.cap opened.origin.entries s.answered s.states turns;
        content_rests = subst (λ (o : Origin). IfSome (tells.content house.disk) (λ (image : List ℕ). StandsForEither o.charter o.cap (entries_in house) (doubt_in house) image)) same keeps.bytes;
        images_rest = λ image is. subst (λ (o : Origin). StandsForEither o.charter o.cap (entries_in house) (doubt_in house) image) same (keeps.images image is);
        opened_so = unwritten;
        through = subst (λ (state : State). GoesThrough tells opened.origin.charter opened.origin.cap state opened.disk s.states s.disks) rest s.through;
        handed_back = s.last_is;
        quiet = λ all. s.quiet (subst (λ (state : State). AllByRecursion (λ (other : State). other ≡ state) s.states) (sym rest) all) ∙ unwritten.same;
        later = omega (arith, unwritten.time.later, s.stops.later);
        stops = λ image is. ⊎_elim
            (λ earlier. inl (⊎_elim (only_now disk image) (λ now. now) (unwritten.time.each (tells.moment disk) image (omega arith) earlier)))
            (λ here. inr (subst (λ (state : State). StandsInRun opened.origin.charter opened.origin.cap state s.states image) rest here))
            (s.stops.before (tells.moment disk) image unwritten.time.later is);
        legal = subst (λ (o : Origin). LegalUnder o.charter.version o.charter.rate (entries_in house ++ doubt_in house)) same keeps.legal;
        within = subst (λ (o : Origin). length (entries_in house ++ doubt_in house) ≤ o.cap) same keeps.within;
        money = keeps.money;
        clean = ends_clean end s.rest after.left (length (flat_map frame (map frame_of s.answered))) s.ends;
        bad = ends_bad end s.read (map frame_of s.answered) s.rest after.left (read_long end s.read (map frame_of s.answered) s.unanswered s.rest s.frames s.all) s.ends;
        failed = ends_failed end s.rest after.left (length (flat_map frame (map frame_of s.answered))) s.ends;
        starved = starved_so end s.read s.answered s.unanswered s.rest after.left (length (flat_map frame (map frame_of s.answered))) s.frames s.all s.ends s.counted;
        bad_frame = bad_ends end s.rest after.left (length (flat_map frame (map frame_of s.answered))) s.ends;
        any_rest = rest_ends end s.rest after.left (length (flat_map frame (map frame_of s.answered))) s.ends;
        few = counts_few end (length s.answered) s.counted;
        spent = counts_spent end (length s.answered) s.counted;
        most = counts_most end (length s.answered) s.counted;
        nowhere = no_place end;
        ends = ends_as end;
      }

  -- and its last entries are those at opening and then those that the lines record
  pub batch_lines : ((d : D) (c : List ℕ) → tells.left d (tells.moment d) c → tells.allowed d c) → (end : BatchEnd) (disk : D) (opened house : Chronicled D) (before after : Outside)
      → VaultOpensAs tells disk opened → Unwritten tells disk opened.disk → tells.faults disk ≤ tells.faults opened.disk
      → Served tells by opened house before after end → Keeps tells house → house.origin ≡ opened.origin
      → BatchLines tells by disk house.disk before after house.lines (ended end)
  unfolding batch_of
  batch_lines only_now end disk opened house before after opens unwritten count s keeps same =
      inr (batch_of only_now end disk opened house before after opens unwritten count s keeps same, ap (λ (o : Origin). entries_of o.entries house.lines) same)

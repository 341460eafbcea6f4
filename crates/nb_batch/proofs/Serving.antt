-- A batch step by step: what ran so far goes on by one frame, and ends.
use Rattle.std.proofs.Common.{◌≡◌, ℕ, ◌+◌, ◌*◌, ◌<◌, ◌≤◌, ◌⊎◌, ⊎_elim, List, [], ◌∷◌, ◌++◌, length, take, Option, None, Some, refl, sym, ap, subst, ◌∙◌, append_assoc, append-nil, arith}
use Rattle.std.specs.Prelude.{map}
use Rattle.std.specs.List.{flat_map, AllByRecursion}
use Rattle.std.specs.Option.{option_to_list}
use Rattle.std.specs.Io.KnownBytes.{Appends}
use Rattle.std.proofs.KnownBytes.{Consumes-trans, Appends-trans, Appends-nil}
use Rattle.std.proofs.lemmas.List.{map-append, length-append, length-map}
use Rattle.std.proofs.lemmas.List.Elements.{Contains-append_left, Contains-append_right, Contains-push}
use Rattle.std.proofs.lemmas.Grind.{flat_map-append}
use Rattle.nb_units.specs.declared.charter.Charter.{Charter}
use Rattle.nb_port.proofs.Backing.{backed_append}
use Rattle.nb_port.specs.Tells.{DiskTells}
use Rattle.nb_port.specs.Faults.{Failure, Backed}
use Rattle.nb_port.specs.Clock.{Gives}
use Rattle.nb_units.specs.Frames.{Frame, frame, IsFrame, front_of, IsWhole, AreBytes, Splits}
use Rattle.nb_frame.specs.State.{Collected, waiting, unfed}
use Rattle.nb_frame.specs.declared.stream.TheConstants.{MAX_PIECE}
use Rattle.nb_frame.proofs.Shortness.{short_not_whole, bad_not_whole}
use Rattle.nb_units.proofs.ByteLists.{AreBytes-drop}
use Rattle.nb_units.proofs.FrameLaws.{has_reading}
use Rattle.nb_batch.specs.Fetch.{Reads, AheadAs, EndsAs, IsReadEnd}
use Rattle.nb_batch.proofs.Fetching.{reads_none}
use Rattle.nb_journal.specs.Time.{LeavesOnly}
use Rattle.nb_vault.proofs.Joining.{all_more}
use Rattle.nb_vault.proofs.Resting.{leaves_more, leaves_then}
use Rattle.nb_vault.specs.declared.origin.Origin.{Origin}
use Rattle.nb_vault.specs.Holdings.{StandsForEither}
use Rattle.nb_vault.specs.Rules.{house_of}
use Rattle.nb_turns.specs.Turns.{House, State, Answered, last_state, IsStateOf, replies}
use Rattle.nb_turns.specs.Laws.{TurnOfOne, RunOfOnes}
use Rattle.nb_standby.specs.Answering.{Acknowledges, AcknowledgesAll}
use Rattle.nb_vault.specs.Vaults.{Chronicled, Keeps, state_of, entries_in, doubt_in, StandsForState as StandsForVault}
use Rattle.nb_escrow.specs.Head.{head_of}
use Rattle.nb_batch.specs.declared.batch.TheConstants.{MOST_FRAMES}
use Rattle.nb_batch.specs.declared.batch.BatchEnd.{BatchEnd}
use Rattle.nb_batch.specs.declared.batch.BatchEnd.TheVariants.{Clean, Cut, BadFrame, ReadFault, WriteFault, NoMemory, FrameLimit}
use Rattle.nb_batch.specs.declared.batch.Step.TheVariants as step
use Rattle.nb_batch.specs.Send.{SentPart}
use Rattle.nb_batch.specs.declared.answering.Answerer.{Answerer}
use Rattle.nb_batch.specs.declared.answering.Answerer.TheVariants as answers
use Rattle.nb_batch.specs.Answering.{Asked, AsksOnce, Gave, Goes, GoesTo, failure_in_mark}
use Rattle.nb_batch.specs.Batch.{failures_told, frame_of, moment_of, Outside, Stepped, Stopped, StepIs, AnswersAll, CountsAs, Wrote, Served, StandsInRun, HoldsState, GoesThrough, last_disk}

-- these requests were answered, and the house came to these states
pub record Went {D : Type 0} (tells : DiskTells D) (by : Answerer) (held : Collected) (old new : Chronicled D) (before after : Outside) (answered : List Answered) (states : List State) (disks : List D) : Type 0 where
  pub turns : Goes by old.origin.charter old.origin.cap (state_of old) answered states
  pub last : state_of new ≡ last_state (state_of old) states
  pub origin : new.origin ≡ old.origin
  pub backed : Backed (tells.faults old.disk) (failures_told answered) (tells.faults new.disk)
  pub stops : LeavesOnly tells old.disk new.disk (StandsInRun old.origin.charter old.origin.cap (state_of old) states)
  pub through : GoesThrough tells old.origin.charter old.origin.cap (state_of old) old.disk states disks
  pub last_is : new.disk ≡ last_disk old.disk disks
  pub quiet : AllByRecursion (λ (state : State). state ≡ state_of old) states → tells.content new.disk ≡ tells.content old.disk
  pub lawful : AllByRecursion IsFrame (map frame_of answered)
  pub read : Reads before.left after.left unfed held (map frame_of answered)
  pub asked : Asked by before.moments after.moments (map moment_of answered)

-- the replies so far were sent, and there are so many
pub record Ran {D : Type 0} (tells : DiskTells D) (by : Answerer) (held : Collected) (old new : Chronicled D) (before after : Outside) (count : ℕ) : Type 0 where
  pub answered : List Answered
  pub states : List State
  pub disks : List D
  pub went : Went tells by held old new before after answered states disks
  pub wrote : Appends before.sent after.sent (replies answered)
  pub counted : length answered ≡ count
  pub ahead : length (waiting held) < MAX_PIECE

pub nothing_whole : IsWhole (front_of []) → ⊥
unfolding front_of
nothing_whole is = is

-- ---- one more

turn_more : (house : House) (first next : State) (done : List Answered) (states : List State) (a : Answered) → RunOfOnes house first done states → TurnOfOne house (last_state first states) a.request a.mark a.reply next
    → RunOfOnes house first (done ++ a ∷ []) (states ++ next ∷ [])
turn_more house first next [] [] a run turn = (turn, tt)
turn_more house first next (x ∷ done) (s ∷ states) a run turn = (run.0, turn_more house s next done states a run.1 turn)
turn_more house first next [] (s ∷ states) a run turn = absurd run
turn_more house first next (x ∷ done) [] a run turn = absurd run

acknowledges_more : (charter : Charter) (cap : ℕ) (first next : State) (done : List Answered) (states : List State) (a : Answered) → AcknowledgesAll charter cap first done states
    → Acknowledges charter cap (last_state first states) a.request a.mark a.reply next → AcknowledgesAll charter cap first (done ++ a ∷ []) (states ++ next ∷ [])
acknowledges_more charter cap first next [] [] a run turn = (turn, tt)
acknowledges_more charter cap first next (x ∷ done) (s ∷ states) a run turn = (run.0, acknowledges_more charter cap s next done states a run.1 turn)
acknowledges_more charter cap first next [] (s ∷ states) a run turn = absurd run
acknowledges_more charter cap first next (x ∷ done) [] a run turn = absurd run

run_more : (by : Answerer) (charter : Charter) (cap : ℕ) (first next : State) (done : List Answered) (states : List State) (a : Answered) → Goes by charter cap first done states
    → GoesTo by charter cap (last_state first states) a.request a.mark a.reply next → Goes by charter cap first (done ++ a ∷ []) (states ++ next ∷ [])
run_more answers.House charter cap first next done states a run turn = turn_more (house_of (head_of charter) cap) first next done states a run turn
run_more answers.Standby charter cap first next done states a run turn = acknowledges_more charter cap first next done states a run turn

run_none : (by : Answerer) (charter : Charter) (cap : ℕ) (first : State) → Goes by charter cap first [] []
run_none answers.House charter cap first = tt
run_none answers.Standby charter cap first = tt

last_more : (first next : State) (states : List State) → next ≡ last_state first (states ++ next ∷ [])
last_more first next [] = refl
last_more first next (s ∷ states) = last_more s next states

last_is_one : (first : State) (states : List State) → IsStateOf first states (last_state first states)
last_is_one first [] = (0, omega arith, refl)
last_is_one first (s ∷ states) = Contains-append_right (first ∷ []) (s ∷ states) (last_state s states) (last_is_one s states)

backed_more : (done : List Answered) (a : Answered) (from mid to : ℕ) → Backed from (failures_told done) mid → Backed mid (option_to_list (failure_in_mark a.mark)) to → Backed from (failures_told (done ++ a ∷ [])) to
backed_more done a from mid to backed one =
    let last : List Failure = option_to_list (failure_in_mark a.mark) in
    let whole = flat_map-append (λ (b : Answered). option_to_list (failure_in_mark b.mark)) done (a ∷ []) ∙ ap (λ (failures : List Failure). failures_told done ++ failures) (append-nil last) in
    subst (λ (failures : List Failure). Backed from failures to) (sym whole) (backed_append (failures_told done) last from mid to backed one)

all_less : {A : Type 0} (P : A → Type 0) (xs : List A) (x : A) → AllByRecursion P (xs ++ x ∷ []) → AllByRecursion P xs × P x
all_less P [] x all = (tt, all.0)
all_less P (y ∷ xs) x all = (let rest = all_less P xs x all.1 in ((all.0, rest.0), rest.1))

-- where each state is the first, the last one is
last_same : (first now : State) (states : List State) → now ≡ first → AllByRecursion (λ (state : State). state ≡ first) states → last_state now states ≡ first
last_same first now [] is all = is
last_same first now (s ∷ states) is all = last_same first s states all.0 all.1

replies_more : (done : List Answered) (a : Answered) → replies (done ++ a ∷ []) ≡ replies done ++ a.reply
replies_more done a =
    flat_map-append (λ (b : Answered). b.reply) done (a ∷ []) ∙ ap (λ (bytes : List ℕ). replies done ++ bytes) (append-nil a.reply)

gave_none : (given : Option (List ℕ)) → Gave given given []
gave_none None = tt
gave_none (Some given) = sym (append-nil given)

gave_more : (a b c : Option (List ℕ)) (moments : List ℕ) (moment : ℕ) → Gave a b moments → Gives b c moment → Gave a c (moments ++ moment ∷ [])
gave_more a b None moments moment before now = tt
gave_more a None (Some c) moments moment before now = absurd now
gave_more None (Some b) (Some c) moments moment before now = absurd before
gave_more (Some a) (Some b) (Some c) moments moment before now =
    now ∙ ap (λ (xs : List ℕ). xs ++ moment ∷ []) before ∙ append_assoc a moments (moment ∷ [])

asked_none : (by : Answerer) (given : Option (List ℕ)) → Asked by given given []
asked_none answers.House given = gave_none given
asked_none answers.Standby given = refl

asked_more : (by : Answerer) (a b c : Option (List ℕ)) (moments : List ℕ) (moment : ℕ) → Asked by a b moments → AsksOnce by b c moment → Asked by a c (moments ++ moment ∷ [])
asked_more answers.House a b c moments moment before now = gave_more a b c moments moment before now
asked_more answers.Standby a b c moments moment before now = now ∙ before

-- ---- what was read

reads_then : (a b c : Option (List ℕ)) (old mid new : Collected) (fs gs : List Frame) → Reads a b old mid fs → Reads b c mid new gs → Reads a c old new (fs ++ gs)
reads_then a b c old mid new fs gs first second =
    let both : flat_map frame (fs ++ gs) ≡ flat_map frame fs ++ flat_map frame gs = flat_map-append frame fs gs in
    record {
      bytes = first.bytes ++ second.bytes;
      took = Consumes-trans a b c first.bytes second.bytes first.took second.took;
      is = sym (append_assoc (waiting old) first.bytes second.bytes)
          ∙ ap (λ (xs : List ℕ). xs ++ second.bytes) first.is
          ∙ append_assoc (flat_map frame fs) (waiting mid) second.bytes
          ∙ ap (λ (xs : List ℕ). flat_map frame fs ++ xs) second.is
          ∙ sym (append_assoc (flat_map frame fs) (flat_map frame gs) (waiting new))
          ∙ ap (λ (xs : List ℕ). xs ++ waiting new) (sym both);
      taken = omega (arith, first.taken, second.taken, ap length both, length-append (flat_map frame fs) (flat_map frame gs));
    }

reads_one : (a b c : Option (List ℕ)) (mid new : Collected) (done : List Answered) (one : Answered) → Reads a b unfed mid (map frame_of done) → Reads b c mid new (frame_of one ∷ []) → Reads a c unfed new (map frame_of (done ++ one ∷ []))
reads_one a b c mid new done one first second =
    subst (λ (fs : List Frame). Reads a c unfed new fs) (sym (map-append frame_of done (one ∷ []))) (reads_then a b c unfed mid new (map frame_of done) (frame_of one ∷ []) first second)

-- frames have at most so many bytes each
few_bytes : (fs : List Frame) → AllByRecursion IsFrame fs → length (flat_map frame fs) ≤ 1048584 * length fs
few_bytes [] lawful = omega arith
few_bytes (f ∷ fs) lawful = omega (arith, few_bytes fs lawful.1, lawful.0.2, length-append (frame f) (flat_map frame fs))

all_both : {A : Type 0} (P : A → Type 0) (xs ys : List A) → AllByRecursion P xs → AllByRecursion P ys → AllByRecursion P (xs ++ ys)
all_both P [] ys all more = more
all_both P (x ∷ xs) ys all more = (all.0, all_both P xs ys all.1 more)

-- where reading ends no frame waits
pub end_not_whole : (end : BatchEnd) (before : ℕ) (rest : List ℕ) (left : Option (List ℕ)) → IsReadEnd end → EndsAs end before rest left → IsWhole (front_of rest) → ⊥
end_not_whole Clean before rest left end ends whole = nothing_whole (subst (λ (xs : List ℕ). IsWhole (front_of xs)) ends.0 whole)
end_not_whole (Cut place) before rest left end ends whole = subst IsWhole ends.0 whole
end_not_whole (BadFrame fault) before rest left end ends whole = bad_not_whole ends.0 (front_of rest) ends.1 whole
end_not_whole ReadFault before rest left end ends whole = short_not_whole (front_of rest) ends whole
end_not_whole WriteFault before rest left end ends whole = end
end_not_whole NoMemory before rest left end ends whole = end
end_not_whole FrameLimit before rest left end ends whole = end

-- ---- what a stop leaves

-- as in the run so far
stands_before : (charter : Charter) (cap : ℕ) (first next : State) (states : List State) (image : List ℕ) → StandsInRun charter cap first states image → StandsInRun charter cap first (states ++ next ∷ []) image
stands_before charter cap first next states image is =
    record { state = is.state; is = Contains-append_left (first ∷ states) (next ∷ []) is.state is.is; stands = is.stands }

-- as before the step or after it
stands_now : {D : Type 0} (old mid new : Chronicled D) (states : List State) (image : List ℕ) → mid.origin ≡ old.origin → new.origin ≡ mid.origin → state_of mid ≡ last_state (state_of old) states
    → StandsForVault mid image ⊎ StandsForVault new image → StandsInRun old.origin.charter old.origin.cap (state_of old) (states ++ state_of new ∷ []) image
stands_now old mid new states image same_mid same_new last is = ⊎_elim
    (λ before. record {
      state = state_of mid;
      is = Contains-append_left (state_of old ∷ states) (state_of new ∷ []) (state_of mid) (subst (IsStateOf (state_of old) states) (sym last) (last_is_one (state_of old) states));
      stands = subst (λ (o : Origin). StandsForEither o.charter o.cap (entries_in mid) (doubt_in mid) image) same_mid before;
    })
    (λ after. record {
      state = state_of new;
      is = Contains-push (state_of old ∷ states) (state_of new);
      stands = subst (λ (o : Origin). StandsForEither o.charter o.cap (entries_in new) (doubt_in new) image) (same_new ∙ same_mid) after;
    })
    is

-- one disk more
through_more : {D : Type 0} (tells : DiskTells D) (charter : Charter) (cap : ℕ) (first next : State) (disk behind : D) (states : List State) (disks : List D) → GoesThrough tells charter cap first disk states disks
    → LeavesOnly tells (last_disk disk disks) behind (λ image. StandsForEither charter cap (last_state first states).entries (last_state first states).doubt image ⊎ StandsForEither charter cap next.entries next.doubt image)
    → HoldsState tells charter cap next behind → GoesThrough tells charter cap first disk (states ++ next ∷ []) (disks ++ behind ∷ [])
through_more tells charter cap first next disk behind [] [] is leaves holds = (is, leaves, holds)
through_more tells charter cap first next disk behind (s ∷ states) (d ∷ disks) is leaves holds = (is.0, is.1, through_more tells charter cap s next d behind states disks is.2 leaves holds)
through_more tells charter cap first next disk behind [] (d ∷ disks) is leaves holds = absurd is
through_more tells charter cap first next disk behind (s ∷ states) [] is leaves holds = absurd is

last_of_more : {D : Type 0} (first next : D) (disks : List D) → next ≡ last_disk first (disks ++ next ∷ [])
last_of_more first next [] = refl
last_of_more first next (d ∷ disks) = last_of_more d next disks

-- ---- a batch, so far

module _ {D : Type 0} (tells : DiskTells D) (by : Answerer) where
  went_none : (house : Chronicled D) (start : Outside) → LeavesOnly tells house.disk house.disk (StandsForVault house) → Keeps tells house → Went tells by unfed house house start start [] [] []
  went_none house start images keeps = record {
    turns = run_none by house.origin.charter house.origin.cap (state_of house);
    last = refl;
    origin = refl;
    backed = omega arith;
    stops = leaves_more tells house.disk house.disk (StandsForVault house) (StandsInRun house.origin.charter house.origin.cap (state_of house) [])
        (λ c is. record { state = state_of house; is = (0, omega arith, refl); stands = is }) images;
    through = keeps.images;
    last_is = refl;
    quiet = λ all. refl;
    lawful = tt;
    read = reads_none start.left unfed;
    asked = asked_none by start.moments;
  }

  went_more : (held held' : Collected) (old mid new : Chronicled D) (before between after : Outside) (answered : List Answered) (states : List State) (disks : List D) → Went tells by held old mid before between answered states disks
      → (more : Stepped tells by held held' mid new between after) → new.origin ≡ mid.origin → LeavesOnly tells mid.disk new.disk (λ (image : List ℕ). StandsForVault mid image ⊎ StandsForVault new image) → (state_of new ≡ state_of mid → tells.content new.disk ≡ tells.content mid.disk)
      → Keeps tells new → Went tells by held' old new before after (answered ++ more.one ∷ []) (states ++ state_of new ∷ []) (disks ++ new.disk ∷ [])
  went_more held held' old mid new before between after answered states disks went more origin leaves quiet keeps =
      let Q : List ℕ → Type 0 = λ moments. Asked by before.moments after.moments moments in
      let L : List Frame → Type 0 = λ fs. AllByRecursion IsFrame fs in
      let T : Origin → Type 0 = λ o. GoesTo by o.charter o.cap (state_of mid) more.one.request more.one.mark more.one.reply (state_of new) in
      let S : State → Type 0 = λ state. GoesTo by old.origin.charter old.origin.cap state more.one.request more.one.mark more.one.reply (state_of new) in
      let same : new.origin ≡ old.origin = origin ∙ went.origin in
      let Either : State → List ℕ → Type 0 = λ state image. StandsForEither old.origin.charter old.origin.cap state.entries state.doubt image ⊎ StandsForEither old.origin.charter old.origin.cap (entries_in new) (doubt_in new) image in
      record {
        turns = run_more by old.origin.charter old.origin.cap (state_of old) (state_of new) answered states more.one went.turns (subst S went.last (subst T went.origin more.turn));
        last = last_more (state_of old) (state_of new) states;
        origin = same;
        backed = backed_more answered more.one (tells.faults old.disk) (tells.faults mid.disk) (tells.faults new.disk) went.backed more.backed;
        stops = leaves_then tells old.disk mid.disk new.disk (StandsInRun old.origin.charter old.origin.cap (state_of old) states) (λ (image : List ℕ). StandsForVault mid image ⊎ StandsForVault new image)
            (StandsInRun old.origin.charter old.origin.cap (state_of old) (states ++ state_of new ∷ [])) went.stops leaves
            (λ c is. stands_before old.origin.charter old.origin.cap (state_of old) (state_of new) states c is)
            (λ c is. stands_now old mid new states c went.origin origin went.last is);
        through = through_more tells old.origin.charter old.origin.cap (state_of old) (state_of new) old.disk new.disk states disks went.through
            (subst (λ (disk : D). LeavesOnly tells disk new.disk (Either (last_state (state_of old) states))) went.last_is
            (subst (λ (state : State). LeavesOnly tells mid.disk new.disk (Either state)) went.last
            (subst (λ (o : Origin). LeavesOnly tells mid.disk new.disk (λ (image : List ℕ). StandsForEither o.charter o.cap (entries_in mid) (doubt_in mid) image ⊎ StandsForEither old.origin.charter old.origin.cap (entries_in new) (doubt_in new) image)) went.origin
            (subst (λ (o : Origin). LeavesOnly tells mid.disk new.disk (λ (image : List ℕ). StandsForEither mid.origin.charter mid.origin.cap (entries_in mid) (doubt_in mid) image ⊎ StandsForEither o.charter o.cap (entries_in new) (doubt_in new) image)) same leaves))))
            (subst (λ (o : Origin). (image : List ℕ) → tells.allowed new.disk image → StandsForEither o.charter o.cap (entries_in new) (doubt_in new) image) same keeps.images);
        last_is = last_of_more old.disk new.disk disks;
        quiet = λ all.
            let each = all_less (λ (state : State). state ≡ state_of old) states (state_of new) all in
            let here : state_of mid ≡ state_of old = went.last ∙ last_same (state_of old) (state_of old) states refl each.0 in
            quiet (each.1 ∙ sym here) ∙ went.quiet each.0;
        lawful = subst L (sym (map-append frame_of answered (more.one ∷ []))) (all_more IsFrame (map frame_of answered) (frame_of more.one) went.lawful more.lawful);
        read = reads_one before.left between.left after.left held held' answered more.one went.read more.read;
        asked = subst Q (sym (map-append moment_of answered (more.one ∷ []))) (asked_more by before.moments between.moments after.moments (map moment_of answered) more.one.request.moment went.asked more.asked);
      }

  pub ran_none : (house : Chronicled D) (start : Outside) → LeavesOnly tells house.disk house.disk (StandsForVault house) → Keeps tells house → Ran tells by unfed house house start start 0
  ran_none house start images keeps = record { answered = []; states = []; disks = []; went = went_none house start images keeps; wrote = Appends-nil start.sent; counted = refl; ahead = omega arith }

  pub ran_more : (held held' : Collected) (old mid new : Chronicled D) (before between after : Outside) (n : ℕ) → Ran tells by held old mid before between n → (more : Stepped tells by held held' mid new between after)
      → new.origin ≡ mid.origin → LeavesOnly tells mid.disk new.disk (λ (image : List ℕ). StandsForVault mid image ⊎ StandsForVault new image) → (state_of new ≡ state_of mid → tells.content new.disk ≡ tells.content mid.disk)
      → Keeps tells new → Appends between.sent after.sent more.one.reply → Ran tells by held' old new before after (n + 1)
  ran_more held held' old mid new before between after n ran more origin leaves quiet keeps sent =
      let P : List ℕ → Type 0 = λ bytes. Appends before.sent after.sent bytes in
      record {
        answered = ran.answered ++ more.one ∷ [];
        states = ran.states ++ state_of new ∷ [];
        disks = ran.disks ++ new.disk ∷ [];
        went = went_more held held' old mid new before between after ran.answered ran.states ran.disks ran.went more origin leaves quiet keeps;
        wrote = subst P (sym (replies_more ran.answered more.one)) (Appends-trans before.sent between.sent after.sent (replies ran.answered) more.one.reply ran.wrote sent);
        counted = omega (arith, ran.counted, length-append ran.answered (more.one ∷ []));
        ahead = more.ahead ran.ahead;
      }

  -- as many bytes were given out as the frames have
  pub ran_taken : (held : Collected) (old new : Chronicled D) (before after : Outside) (n : ℕ) → Ran tells by held old new before after n → held.taken ≤ 1048584 * n
  ran_taken held old new before after n ran =
      omega (arith, few_bytes (map frame_of ran.answered) ran.went.lawful, ran.went.read.taken, length-map ran.answered frame_of, ran.counted)

  -- ---- endings

  -- the batch ended, and so what waits reads
  served : (end : BatchEnd) (held held' : Collected) (old new : Chronicled D) (before between after : Outside) (answered : List Answered) (states : List State) (disks : List D) (unanswered : List Frame) (rest : List ℕ)
      → Went tells by held old new before between answered states disks → Reads between.left after.left held held' [] → after.moments ≡ between.moments → Splits (waiting held') unanswered rest → AheadAs end (length (waiting held')) → (AnswersAll end → unanswered ≡ [])
      → EndsAs end held'.taken rest after.left → CountsAs end (length answered) → Wrote end before after answered → Served tells by old new before after end
  served end held held' old new before between after answered states disks unanswered rest went more unasked splits ahead all ends counted wrote =
      let P : Option (List ℕ) → Type 0 = λ given. Asked by before.moments given (map moment_of answered) in
      let fs : List Frame = map frame_of answered in
      let whole = reads_then before.left between.left after.left unfed held held' fs [] went.read more in
      let same : fs ++ [] ≡ fs = append-nil fs in
      record {
        answered = answered;
        states = states;
        disks = disks;
        unanswered = unanswered;
        rest = rest;
        read = whole.bytes;
        took = whole.took;
        frames = record {
          bytes = whole.is
              ∙ ap (λ (gs : List Frame). flat_map frame gs ++ waiting held') same
              ∙ ap (λ (xs : List ℕ). flat_map frame fs ++ xs) splits.bytes
              ∙ sym (append_assoc (flat_map frame fs) (flat_map frame unanswered) rest)
              ∙ ap (λ (xs : List ℕ). xs ++ rest) (sym (flat_map-append frame fs unanswered));
          lawful = all_both IsFrame fs unanswered went.lawful splits.lawful;
          ends = splits.ends;
        };
        all = all;
        ahead = subst (AheadAs end) (ap length splits.bytes) ahead;
        ends = subst (λ (n : ℕ). EndsAs end n rest after.left) (omega (arith, whole.taken, ap (λ (gs : List Frame). length (flat_map frame gs)) same)) ends;
        counted = counted;
        asked = subst P (sym unasked) went.asked;
        turns = went.turns;
        last = went.last;
        backed = went.backed;
        stops = went.stops;
        through = went.through;
        last_is = went.last_is;
        quiet = went.quiet;
        wrote = wrote;
      }

  -- as many were answered as one batch answers
  pub spent : (held : Collected) (old new : Chronicled D) (before after : Outside) (n : ℕ) → n ≡ MOST_FRAMES → AreBytes held.held → Ran tells by held old new before after n → Served tells by old new before after FrameLimit
  spent held old new before after n all fits ran =
      let reading = has_reading (waiting held) (AreBytes-drop held.at held.held fits) in
      served FrameLimit held held old new before after after ran.answered ran.states ran.disks reading.0 reading.1 ran.went (reads_none after.left held) refl reading.2 ran.ahead (λ none. absurd none) tt (ran.counted ∙ all) ran.wrote

  -- without memory nothing was begun
  pub unbegun : (house : Chronicled D) (start : Outside) → LeavesOnly tells house.disk house.disk (StandsForVault house) → Keeps tells house → Served tells by house house start start NoMemory
  unbegun house start images keeps =
      served NoMemory unfed unfed house house start start start [] [] [] [] [] (went_none house start images keeps) (reads_none start.left unfed) refl (record { bytes = refl; lawful = tt; ends = nothing_whole }) (omega arith) (λ is. refl) refl refl (Appends-nil start.sent)

  wrote_end : (end : BatchEnd) (before after : Outside) (answered : List Answered) → IsReadEnd end → Appends before.sent after.sent (replies answered) → Wrote end before after answered
  wrote_end Clean before after answered is wrote = wrote
  wrote_end (Cut place) before after answered is wrote = wrote
  wrote_end (BadFrame fault) before after answered is wrote = wrote
  wrote_end ReadFault before after answered is wrote = wrote
  wrote_end NoMemory before after answered is wrote = wrote
  wrote_end FrameLimit before after answered is wrote = wrote
  wrote_end WriteFault before after answered is wrote = absurd is

  counts_end : (end : BatchEnd) (count : ℕ) → IsReadEnd end → count < MOST_FRAMES → CountsAs end count
  counts_end Clean count is few = few
  counts_end (Cut place) count is few = few
  counts_end (BadFrame fault) count is few = few
  counts_end ReadFault count is few = few
  counts_end NoMemory count is few = absurd is
  counts_end FrameLimit count is few = absurd is
  counts_end WriteFault count is few = absurd is

  -- reading ended
  stop_with : (end : BatchEnd) (held held' : Collected) (old mid new : Chronicled D) (before between after : Outside) (n : ℕ) → Ran tells by held old mid before between n → n < MOST_FRAMES → Stopped held held' mid new between after
      → AheadAs end (length (waiting held')) → IsReadEnd end → EndsAs end held'.taken (waiting held') after.left → Served tells by old new before after end
  stop_with end held held' old mid new before between after n ran few stop ahead is ends =
      let P : Option (List ℕ) → Type 0 = λ sent. Appends before.sent sent (replies ran.answered) in
      let W : Chronicled D → Type 0 = λ house. Went tells by held old house before between ran.answered ran.states ran.disks in
      served end held held' old new before between after ran.answered ran.states ran.disks [] (waiting held') (subst W (sym stop.same) ran.went) stop.read stop.unasked
      (record { bytes = refl; lawful = tt; ends = end_not_whole end held'.taken (waiting held') after.left is ends }) ahead (λ all. refl) ends (counts_end end (length ran.answered) is (omega (arith, ran.counted, few)))
      (wrote_end end before after ran.answered is (subst P (sym stop.unsent) ran.wrote))

  -- the sink failed within the reply to the next frame
  stop_short : (held held' : Collected) (old mid new : Chronicled D) (before between after : Outside) (n : ℕ) → Ran tells by held old mid before between n → n < MOST_FRAMES → (more : Stepped tells by held held' mid new between after)
      → AreBytes held'.held → new.origin ≡ mid.origin → LeavesOnly tells mid.disk new.disk (λ (image : List ℕ). StandsForVault mid image ⊎ StandsForVault new image) → (state_of new ≡ state_of mid → tells.content new.disk ≡ tells.content mid.disk)
      → Keeps tells new → SentPart between.sent after.sent more.one.reply → Served tells by old new before after WriteFault
  stop_short held held' old mid new before between after n ran few more fits origin leaves quiet keeps part =
      let reading = has_reading (waiting held') (AreBytes-drop held'.at held'.held fits) in
      served WriteFault held' held' old new before after after (ran.answered ++ more.one ∷ []) (ran.states ++ state_of new ∷ []) (ran.disks ++ new.disk ∷ []) reading.0 reading.1
      (went_more held held' old mid new before between after ran.answered ran.states ran.disks ran.went more origin leaves quiet keeps)
      (reads_none after.left held') refl reading.2 (more.ahead ran.ahead) (λ none. absurd none) tt
      (omega (arith, ran.counted, few, length-append ran.answered (more.one ∷ [])))
      (record {
        whole = ran.answered;
        last = more.one;
        split = refl;
        count = part.count;
        less = part.less;
        appends = Appends-trans before.sent between.sent after.sent (replies ran.answered) (take part.count more.one.reply) ran.wrote part.appends;
      })

  -- the batch ends as its last step does
  pub ended : (end : BatchEnd) (held held' : Collected) (old mid new : Chronicled D) (before between after : Outside) (n : ℕ) → Ran tells by held old mid before between n → n < MOST_FRAMES
      → AreBytes held'.held → new.origin ≡ mid.origin → LeavesOnly tells mid.disk new.disk (λ (image : List ℕ). StandsForVault mid image ⊎ StandsForVault new image) → (state_of new ≡ state_of mid → tells.content new.disk ≡ tells.content mid.disk)
      → Keeps tells new → StepIs tells by held held' mid new between after (step.Ended end) → Served tells by old new before after end
  ended WriteFault held held' old mid new before between after n ran few fits origin leaves quiet keeps is = stop_short held held' old mid new before between after n ran few is.0 fits origin leaves quiet keeps is.1
  ended Clean held held' old mid new before between after n ran few fits origin leaves quiet keeps is = stop_with Clean held held' old mid new before between after n ran few is.0 (is.3 ran.ahead) is.1 is.2
  ended (Cut place) held held' old mid new before between after n ran few fits origin leaves quiet keeps is = stop_with (Cut place) held held' old mid new before between after n ran few is.0 (is.3 ran.ahead) is.1 is.2
  ended (BadFrame fault) held held' old mid new before between after n ran few fits origin leaves quiet keeps is = stop_with (BadFrame fault) held held' old mid new before between after n ran few is.0 (is.3 ran.ahead) is.1 is.2
  ended ReadFault held held' old mid new before between after n ran few fits origin leaves quiet keeps is = stop_with ReadFault held held' old mid new before between after n ran few is.0 (is.3 ran.ahead) is.1 is.2
  ended NoMemory held held' old mid new before between after n ran few fits origin leaves quiet keeps is = stop_with NoMemory held held' old mid new before between after n ran few is.0 (is.3 ran.ahead) is.1 is.2
  ended FrameLimit held held' old mid new before between after n ran few fits origin leaves quiet keeps is = stop_with FrameLimit held held' old mid new before between after n ran few is.0 (is.3 ran.ahead) is.1 is.2

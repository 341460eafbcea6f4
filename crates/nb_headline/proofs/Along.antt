-- A run of a real house: its turns, what a stop leaves, and which requests are decided.
use Rattle.std.proofs.Common.{◌≡◌, ◌⊎◌, inl, inr, ℕ, ◌<◌, ◌≤◌, List, [], ◌∷◌, ◌++◌, take, Some, refl, ap, subst, ◌∙◌, arith}
use Rattle.std.proofs.lemmas.List.{append-nil}
use Rattle.std.specs.List.{AllByRecursion}
use Rattle.nb_port.specs.Tells.{DiskTells}
use Rattle.nb_port.specs.Faults.{Rose}
use Rattle.nb_units.specs.declared.epoid.Epoid.{Epoid}
use Rattle.nb_entry.specs.declared.entry.Entry.{Entry}
use Rattle.nb_book.specs.declared.kept.Kept.{Kept}
use Rattle.nb_book.specs.Searches.{order_in}
use Rattle.nb_turns.specs.declared.limits.TheConstants.{MAX_FAULTS}
use Rattle.nb_turns.specs.declared.mark.Mark.{Mark}
use Rattle.nb_turns.specs.declared.mark.Mark.TheVariants.{At, Fault, Worn}
use Rattle.nb_turns.specs.Turns.{Request, House, State, Outcome, Decides, Fails, Refuses, Answered, Round, Turn, Run, answered, answered_in, decided, last_state, with_entry}
use Rattle.nb_turns.specs.Laws.{Grows}
use Rattle.nb_turns.proofs.Growth.{turn_grows, run_grows}
use Rattle.nb_escrow.proofs.Lasts.{order_stays}
use Rattle.nb_vault.specs.Holdings.{StandsFor}
use Rattle.nb_vault.specs.Vaults.{Chronicled, FaultWithin, StandsForState, doubt_in, entries_in, house_in, state_of}
use Rattle.nb_vault.proofs.Resting.{leaves_more}
use Rattle.nb_world.specs.Laws.{Begins}
use Rattle.nb_headline.specs.Served.{DeskTurnsAreOfHouse, FailsWithin, HouseRun, said, last_vault, states_of}
use Rattle.nb_headline.specs.Headline.{LeavesTold, RestLeaves, StopsLeave, OrderStays, IsDecided, CalmDecides, WhereDecided, AllDecidedSo}
use Rattle.nb_headline.proofs.Fronts.{begins_same, begins_then, begins_append, AreTold, told_more, told_taken}

-- ---- the run of a real house

fails_within : {D : Type 0} (tells : DiskTells D) (old new : Chronicled D) (outcome : Outcome) → FaultWithin tells old new (said outcome) → FailsWithin tells old.disk new.disk outcome
fails_within tells old new (Decides over) fault = tt
fails_within tells old new (Fails before after) fault = (fault.0, fault.2, fault.3)
fails_within tells old new Refuses fault = tt

pub desk_turns : {D : Type 0} (tells : DiskTells D) → DeskTurnsAreOfHouse tells
desk_turns tells by v w requests outcome found out written asks = record {
  by = by;
  found = found;
  out = out;
  written = written;
  fits = asks.follows.fits;
  went = asks.went;
  same_origin = asks.same_origin;
  any_moment = asks.any_moment;
  images = asks.keeps.images;
  durable = asks.durable;
  fault = fails_within tells asks.old asks.new outcome asks.fault;
  count = asks.count;
}

same_house : {D : Type 0} (old new : Chronicled D) → new.origin ≡ old.origin → house_in new ≡ house_in old
same_house old new same = ap (λ origin. house_in (record new { origin = origin })) same

pub house_run : {D : Type 0} (tells : DiskTells D) (house : House) (first : Chronicled D) (rounds : List Round) (vaults : List (Chronicled D)) → house_in first ≡ house → HouseRun tells first rounds vaults
    → Run house (state_of first) rounds (states_of vaults)
house_run tells house first [] [] is turns = tt
house_run tells house first (round ∷ more) (next ∷ vaults) is turns = (
  turns.0.fits,
  subst (λ (h : House). Turn h (state_of first) round.requests round.outcome (state_of next)) is turns.0.went.turn,
  house_run tells house next more vaults (same_house first next turns.0.same_origin ∙ is) turns.1,
)
house_run tells house first [] (next ∷ vaults) is turns = absurd turns
house_run tells house first (round ∷ more) [] is turns = absurd turns

pub last_is : {D : Type 0} (first : Chronicled D) (vaults : List (Chronicled D)) → last_state (state_of first) (states_of vaults) ≡ state_of (last_vault first vaults)
last_is first [] = refl
last_is first (next ∷ vaults) = last_is next vaults

-- what a list holds of an order stands in each list that begins with it
all_stay : {D : Type 0} (order : Epoid) (entries : List Entry) (kept : Kept) → order_in entries order ≡ Some kept → (vaults : List (Chronicled D))
    → AllByRecursion (λ (state : State). (more : List Entry) × (state.entries ≡ entries ++ more)) (states_of vaults) → AllByRecursion (λ (w : Chronicled D). order_in (entries_in w) order ≡ Some kept) vaults
all_stay order entries kept is [] all = tt
all_stay order entries kept is (w ∷ vaults) all =
    (ap (λ (es : List Entry). order_in es order) all.0.1 ∙ order_stays entries all.0.0 order kept is, all_stay order entries kept is vaults all.1)

pub order_along : {D : Type 0} (tells : DiskTells D) (house : House) (order : Epoid) (first : Chronicled D) (rounds : List Round) (vaults : List (Chronicled D)) → house_in first ≡ house
    → HouseRun tells first rounds vaults → OrderStays order (first ∷ vaults)
order_along tells house order first [] [] is turns = (λ kept found. tt, tt)
order_along tells house order first (round ∷ more) (next ∷ vaults) is turns = (
  λ kept found. all_stay order (entries_in first) kept found (next ∷ vaults)
      (run_grows house (state_of first) (round ∷ more) (states_of (next ∷ vaults)) (house_run tells house first (round ∷ more) (next ∷ vaults) is turns)),
  order_along tells house order next more vaults (same_house first next turns.0.same_origin ∙ is) turns.1,
)
order_along tells house order first [] (next ∷ vaults) is turns = absurd turns
order_along tells house order first (round ∷ more) [] is turns = absurd turns

-- ---- stops

module _ {D : Type 0} (tells : DiskTells D) (house : House) (least : ℕ) where
  left_of : (old new : Chronicled D) (requests : List Request) (outcome : Outcome) (told : List Answered) → new.origin ≡ old.origin → Turn house (state_of old) requests outcome (state_of new)
      → AreTold house least told (entries_in old) → (image : List ℕ) → StandsForState old image ⊎ StandsForState new image → LeavesTold house old new least told image
  left_of old new requests outcome told same turn are image = by
    where
      grows : Grows (state_of old) (state_of new) requests
      grows = turn_grows house (state_of old) (state_of new) requests outcome turn

      begins : Begins (entries_in new) (entries_in old)
      begins = (grows.kept ++ grows.made, grows.grows)

      behind : (entries : List Entry) → StandsFor new.origin.charter new.origin.cap entries image → StandsFor old.origin.charter old.origin.cap entries image
      behind entries stands = subst (λ origin. StandsFor origin.charter origin.cap entries image) same stands

      by : StandsForState old image ⊎ StandsForState new image → LeavesTold house old new least told image
      by (inl (inl stands)) =
          record { entries = entries_in old; stands = stands; prefix = inl (inl refl); acknowledged = told_taken house least told (entries_in old) (entries_in old) are (begins_same (entries_in old)) }
      by (inl (inr stands)) =
          record { entries = entries_in old ++ doubt_in old; stands = stands; prefix = inl (inr refl); acknowledged = told_taken house least told (entries_in old) (entries_in old ++ doubt_in old) are (begins_append (entries_in old) (doubt_in old)) }
      by (inr (inl stands)) =
          record { entries = entries_in new; stands = behind (entries_in new) stands; prefix = inr (inl refl); acknowledged = told_taken house least told (entries_in old) (entries_in new) are begins }
      by (inr (inr stands)) = record {
        entries = entries_in new ++ doubt_in new;
        stands = behind (entries_in new ++ doubt_in new) stands;
        prefix = inr (inr refl);
        acknowledged = told_taken house least told (entries_in old) (entries_in new ++ doubt_in new) are
            (begins_then (entries_in old) (entries_in new) (entries_in new ++ doubt_in new) begins (begins_append (entries_in new) (doubt_in new)));
      }

  -- at rest
  at_rest : (v : Chronicled D) (told : List Answered) → AreTold house least told (entries_in v) → ((image : List ℕ) → tells.allowed v.disk image → StandsForState v image)
      → RestLeaves tells house least told v
  at_rest v told are images image is = by (images image is)
    where
      by : StandsForState v image → LeavesTold house v v least told image
      by (inl stands) =
          record { entries = entries_in v; stands = stands; prefix = inl (inl refl); acknowledged = told_taken house least told (entries_in v) (entries_in v) are (begins_same (entries_in v)) }
      by (inr stands) =
          record { entries = entries_in v ++ doubt_in v; stands = stands; prefix = inl (inr refl); acknowledged = told_taken house least told (entries_in v) (entries_in v ++ doubt_in v) are (begins_append (entries_in v) (doubt_in v)) }

  pub stops_leave : (first : Chronicled D) (rounds : List Round) (vaults : List (Chronicled D)) (told : List Answered) → house_in first ≡ house → HouseRun tells first rounds vaults
      → AreTold house least told (entries_in first) → ((image : List ℕ) → tells.allowed first.disk image → StandsForState first image) → StopsLeave tells house least told first rounds vaults
  stops_leave first [] [] told is turns are images = at_rest first told are images
  stops_leave first (round ∷ more) (next ∷ vaults) told is turns are images =
      let turn = subst (λ (h : House). Turn h (state_of first) round.requests round.outcome (state_of next)) is turns.0.went.turn in (
        at_rest first told are images,
        leaves_more tells first.disk next.disk (λ image. StandsForState first image ⊎ StandsForState next image) (LeavesTold house first next least told)
            (left_of first next round.requests round.outcome told turns.0.same_origin turn are) turns.0.any_moment,
        stops_leave next more vaults (told ++ answered house round.requests round.outcome) (same_house first next turns.0.same_origin ∙ is) turns.1
            (told_more house least (state_of first) (state_of next) round.requests round.outcome told turn are) turns.0.images,
      )
  stops_leave first [] (next ∷ vaults) told is turns are images = absurd turns
  stops_leave first (round ∷ more) [] told is turns are images = absurd turns

-- ---- decided

all_decided : (house : House) (over : List Entry) (requests : List Request) (rest : List Answered) → AllByRecursion (λ (a : Answered). IsDecided a.mark) rest
    → AllByRecursion (λ (a : Answered). IsDecided a.mark) (decided house over requests ++ rest)
all_decided house over [] rest all = all
all_decided house over (r ∷ rs) rest all = (tt, all_decided house (with_entry house over r) rs rest all)

counts : {D : Type 0} (tells : DiskTells D) (first : Chronicled D) (rounds : List Round) (vaults : List (Chronicled D)) → HouseRun tells first rounds vaults
    → tells.faults first.disk ≤ tells.faults (last_vault first vaults).disk
counts tells first [] [] turns = omega arith
counts tells first (round ∷ more) (next ∷ vaults) turns = omega (arith, turns.0.count, counts tells next more vaults turns.1)
counts tells first [] (next ∷ vaults) turns = absurd turns
counts tells first (round ∷ more) [] turns = absurd turns

rose_out : (a b c d e f : ℕ) → a ≤ b → b ≤ c → Rose c d → d ≡ e → e ≤ f → Rose a f
rose_out a b c d e f low at rose is up = omega (arith, low, at, rose, is, up)

module _ {D : Type 0} (tells : DiskTells D) (house : House) (start end : ℕ) (calm : Rose start end → ⊥) where
  decided_turn : (first next : Chronicled D) (requests : List Request) (outcome : Outcome) (rest : List Answered) → Turn house (state_of first) requests outcome (state_of next)
      → FailsWithin tells first.disk next.disk outcome → start ≤ tells.faults first.disk → tells.faults next.disk ≤ end → (state_of first).faults < MAX_FAULTS
      → ((state_of next).faults < MAX_FAULTS → AllByRecursion (λ (a : Answered). IsDecided a.mark) rest) → AllByRecursion (λ (a : Answered). IsDecided a.mark) (answered house requests outcome ++ rest)
  decided_turn first next requests (Decides over) rest turn fault low high few all =
      all_decided house over requests rest (all (omega (arith, few, ap (λ (s : State). s.faults) turn.2)))
  decided_turn first next requests (Fails before after) rest turn fault low high few all =
      absurd (calm (rose_out start (tells.faults first.disk) before after (tells.faults next.disk) end low fault.0 fault.1 fault.2 high))
  decided_turn first next requests Refuses rest turn fault low high few all = absurd (omega (arith, few, turn.0))

  pub decided_run : (first : Chronicled D) (rounds : List Round) (vaults : List (Chronicled D)) → house_in first ≡ house → HouseRun tells first rounds vaults → start ≤ tells.faults first.disk
      → tells.faults (last_vault first vaults).disk ≤ end → (state_of first).faults < MAX_FAULTS → AllByRecursion (λ (a : Answered). IsDecided a.mark) (answered_in house rounds)
  decided_run first [] [] is turns low high few = tt
  decided_run first (round ∷ more) (next ∷ vaults) is turns low high few =
      decided_turn first next round.requests round.outcome (answered_in house more) (subst (λ (h : House). Turn h (state_of first) round.requests round.outcome (state_of next)) is turns.0.went.turn)
      turns.0.fault low (omega (arith, counts tells next more vaults turns.1, high)) few
      (λ few_now. decided_run next more vaults (same_house first next turns.0.same_origin ∙ is) turns.1 (omega (arith, low, turns.0.count)) high few_now)
  decided_run first [] (next ∷ vaults) is turns low high few = absurd turns
  decided_run first (round ∷ more) [] is turns low high few = absurd turns

pub calm_decides : {D : Type 0} (tells : DiskTells D) (house : House) (first : Chronicled D) (rounds : List Round) (vaults : List (Chronicled D)) → house_in first ≡ house → HouseRun tells first rounds vaults
    → CalmDecides tells house first rounds vaults
calm_decides tells house first [] [] is turns = tt
calm_decides tells house first (round ∷ more) (next ∷ vaults) is turns = (
  λ calm few. subst (AllByRecursion (λ (a : Answered). IsDecided a.mark)) (append-nil (answered house round.requests round.outcome))
      (decided_turn tells house (tells.faults first.disk) (tells.faults next.disk) calm first next round.requests round.outcome []
      (subst (λ (h : House). Turn h (state_of first) round.requests round.outcome (state_of next)) is turns.0.went.turn) turns.0.fault (omega arith) (omega arith) few (λ few_now. tt)),
  calm_decides tells house next more vaults (same_house first next turns.0.same_origin ∙ is) turns.1,
)
calm_decides tells house first [] (next ∷ vaults) is turns = absurd turns
calm_decides tells house first (round ∷ more) [] is turns = absurd turns

-- what holds of each request over each front of a list holds of all that was decided
pub decided_so : (so : List Entry → Request → Type 0) (entries : List Entry) (answers : List Answered) → ((n : ℕ) (request : Request) → so (take n entries) request) → AllDecidedSo so entries answers
decided_so so entries [] each = tt
decided_so so entries (a ∷ answers) each = (by a.mark, decided_so so entries answers each)
  where
    by : (mark : Mark) → WhereDecided so entries a.request mark
    by (At place) = each place a.request
    by (Fault before after) = tt
    by Worn = tt

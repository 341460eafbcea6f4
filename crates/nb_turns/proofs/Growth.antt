-- Entries are never lost.
use Rattle.std.proofs.Common.{◌≡◌, ◌⊎◌, inl, inr, ◌≤◌, List, [], ◌∷◌, ◌++◌, length, refl, sym, ap, ◌∙◌, append_assoc, arith}
use Rattle.std.proofs.lemmas.List.{append-nil}
use Rattle.std.specs.List.{AllByRecursion}
use Rattle.nb_entry.specs.declared.entry.Entry.{Entry}
use Rattle.nb_turns.specs.Turns.{Request, House, State, Outcome, Decides, Fails, Refuses, Round, SettlesInto, Unsettled, Doubts, Turn, Run, recorded}
use Rattle.nb_turns.specs.Laws.{Grows, TurnGrows, RunGrows}
use Rattle.nb_turns.proofs.Single.{recorded_few}

module _ (house : House) (old new : State) (requests : List Request) where
  -- what was settled, and these entries behind it
  settled_grows : (over made : List Entry) → length made ≤ length requests → SettlesInto old over → new.entries ≡ over ++ made → Grows old new requests
  settled_grows over made few (inl same) is = record {
    kept = [];
    made = made;
    of_doubt = inl refl;
    few = few;
    grows = is ∙ ap (λ (es : List Entry). es ++ made) same;
  }
  settled_grows over made few (inr same) is = record {
    kept = old.doubt;
    made = made;
    of_doubt = inr refl;
    few = few;
    grows = is ∙ ap (λ (es : List Entry). es ++ made) same ∙ append_assoc old.entries old.doubt made;
  }

  same_grows : new.entries ≡ old.entries → Grows old new requests
  same_grows same = record { kept = []; made = []; of_doubt = inl refl; few = omega arith; grows = same ∙ sym (append-nil old.entries) }

  failed_grows : Unsettled old new ⊎ Doubts house old requests new → Grows old new requests
  failed_grows (inl unsettled) = same_grows (ap (λ (s : State). s.entries) unsettled.1)
  failed_grows (inr d) = settled_grows d.over [] (omega arith) d.settled (ap (λ (s : State). s.entries) d.left ∙ sym (append-nil d.over))

  grows : (outcome : Outcome) → Turn house old requests outcome new → Grows old new requests
  grows (Decides over) turn = settled_grows over (recorded house over requests) (recorded_few house over requests) turn.1 (ap (λ (s : State). s.entries) turn.2)
  grows (Fails before after) turn = failed_grows turn.1
  grows Refuses turn = same_grows (ap (λ (s : State). s.entries) turn.1)

pub turn_grows : TurnGrows
turn_grows house old new requests outcome turn = grows house old new requests outcome turn

abbrev BeginsWith : List Entry → State → Type 0
BeginsWith front state = (more : List Entry) × (state.entries ≡ front ++ more)

all_begin : (front : List Entry) (house : House) (first : State) (rounds : List Round) (states : List State)
    → BeginsWith front first → Run house first rounds states → AllByRecursion (BeginsWith front) states
all_begin front house first [] [] begins run = tt
all_begin front house first (round ∷ more) (next ∷ states) begins run =
    let here : Grows first next round.requests = turn_grows house first next round.requests round.outcome run.1 in
    let goes_on : BeginsWith front next =
    (begins.0 ++ (here.kept ++ here.made), here.grows ∙ ap (λ (es : List Entry). es ++ (here.kept ++ here.made)) begins.1 ∙ append_assoc front begins.0 (here.kept ++ here.made)) in
    (goes_on, all_begin front house next more states goes_on run.2)
all_begin front house first [] (next ∷ states) begins run = absurd run
all_begin front house first (round ∷ more) [] begins run = absurd run

pub run_grows : RunGrows
run_grows house first rounds states run = all_begin first.entries house first rounds states ([], sym (append-nil first.entries)) run

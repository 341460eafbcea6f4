-- What a run of a house told stands in each list that begins with what came of it.
use Rattle.std.proofs.Common.{◌≡◌, inl, inr, ℕ, ◌≤◌, List, [], ◌∷◌, ◌++◌, length, refl, sym, ap, subst, ◌∙◌, append_assoc, arith}
use Rattle.std.proofs.lemmas.List.{append-nil, length-append}
use Rattle.nb_entry.specs.declared.entry.Entry.{Entry}
use Rattle.nb_turns.specs.declared.mark.Mark.TheVariants.{Fault, Worn}
use Rattle.nb_turns.specs.Turns.{Request, House, State, Outcome, Decides, Fails, Refuses, Answered, Round, SettlesInto, Turn, Run, alike, answered, answered_in, decided, last_state, recorded, with_entry}
use Rattle.nb_turns.specs.Callers.{AreTaken}
use Rattle.nb_turns.specs.Laws.{Grows}
use Rattle.nb_turns.proofs.Growth.{turn_grows}
use Rattle.nb_turns.proofs.Single.{behind_more}
use Rattle.nb_world.specs.Laws.{Begins}

-- ---- lists that begin with another

pub begins_same : {A : Type 0} (xs : List A) → Begins xs xs
begins_same xs = ([], sym (append-nil xs))

pub begins_then : {A : Type 0} (xs ys zs : List A) → Begins ys xs → Begins zs ys → Begins zs xs
begins_then xs ys zs one two = (one.0 ++ two.0, two.1 ∙ ap (λ front. front ++ two.0) one.1 ∙ append_assoc xs one.0 two.0)

pub begins_append : {A : Type 0} (xs ys : List A) → Begins (xs ++ ys) xs
begins_append xs ys = (ys, refl)

begins_length : {A : Type 0} (xs ys : List A) → Begins ys xs → length xs ≤ length ys
begins_length xs ys begins = omega (arith, ap length begins.1, length-append xs begins.0)

-- ---- what was told

-- these are taken over each list that begins with this one, and so is more behind them that goes on from a place within it
abbrev pub AreTold : House → ℕ → List Answered → List Entry → Type 0
AreTold house least told front = (entries : List Entry) (rest : List Answered) → Begins entries front
    → ((n : ℕ) → n ≤ length front → AreTaken house entries n rest) → AreTaken house entries least (told ++ rest)

module _ (house : House) (entries : List Entry) where
  failed_taken : (before after : ℕ) (reply : List ℕ) (requests : List Request) (rest : List Answered) (least : ℕ) → AreTaken house entries least rest → AreTaken house entries least (alike (Fault before after) reply requests ++ rest)
  failed_taken before after reply [] rest least taken = taken
  failed_taken before after reply (r ∷ rs) rest least taken = failed_taken before after reply rs rest least taken

  worn_taken : (reply : List ℕ) (requests : List Request) (rest : List Answered) (least : ℕ) → AreTaken house entries least rest → AreTaken house entries least (alike Worn reply requests ++ rest)
  worn_taken reply [] rest least taken = taken
  worn_taken reply (r ∷ rs) rest least taken = worn_taken reply rs rest least taken

  decided_taken : (over later : List Entry) (requests : List Request) (rest : List Answered) (least : ℕ) → least ≤ length over → entries ≡ (over ++ recorded house over requests) ++ later
      → ((n : ℕ) → n ≤ length (over ++ recorded house over requests) → AreTaken house entries n rest) → AreTaken house entries least (decided house over requests ++ rest)
  decided_taken over later [] rest least above is go = go least (omega (arith, above, ap length (append-nil over)))
  decided_taken over later (r ∷ rs) rest least above is go =
      let same = behind_more house over r rs in
      let here : entries ≡ (with_entry house over r ++ recorded house (with_entry house over r) rs) ++ later = is ∙ ap (λ (es : List Entry). es ++ later) (sym same) in (
        record {
          over = over;
          later = recorded house (with_entry house over r) rs ++ later;
          above = above;
          place_is = refl;
          stands = here ∙ append_assoc (with_entry house over r) (recorded house (with_entry house over r) rs) later;
          told = refl;
        },
        decided_taken (with_entry house over r) later rs rest (length (with_entry house over r)) (omega arith) here
            (λ (n : ℕ) (below : n ≤ length (with_entry house over r ++ recorded house (with_entry house over r) rs)). go n (omega (arith, below, ap length same))),
      )

settles_begins : (old : State) (over : List Entry) → SettlesInto old over → Begins over old.entries
settles_begins old over (inl same) = ([], same ∙ sym (append-nil old.entries))
settles_begins old over (inr same) = (old.doubt, same)

module _ (house : House) (least : ℕ) where
  turn_taken : (old new : State) (requests : List Request) (outcome : Outcome) → Turn house old requests outcome new → (entries : List Entry) (rest : List Answered) → Begins entries new.entries
      → ((n : ℕ) → n ≤ length new.entries → AreTaken house entries n rest) → (n : ℕ) → n ≤ length old.entries → AreTaken house entries n (answered house requests outcome ++ rest)
  turn_taken old new requests (Decides over) turn entries rest begins go n below =
      let new_is : new.entries ≡ over ++ recorded house over requests = ap (λ (s : State). s.entries) turn.2 in
      decided_taken house entries over begins.0 requests rest n (omega (arith, below, begins_length old.entries over (settles_begins old over turn.1)))
      (begins.1 ∙ ap (λ (es : List Entry). es ++ begins.0) new_is)
      (λ (m : ℕ) (small : m ≤ length (over ++ recorded house over requests)). go m (omega (arith, small, ap length new_is)))
  turn_taken old new requests (Fails before after) turn entries rest begins go n below =
      let grows : Grows old new requests = turn_grows house old new requests (Fails before after) turn in
      failed_taken house entries before after (house.fault before after) requests rest n
      (go n (omega (arith, below, begins_length old.entries new.entries (grows.kept ++ grows.made, grows.grows))))
  turn_taken old new requests Refuses turn entries rest begins go n below =
      worn_taken house entries house.worn requests rest n (go n (omega (arith, below, ap (λ (s : State). length s.entries) turn.1)))

  -- the answers of a turn more
  pub told_more : (old new : State) (requests : List Request) (outcome : Outcome) (told : List Answered) → Turn house old requests outcome new → AreTold house least told old.entries
      → AreTold house least (told ++ answered house requests outcome) new.entries
  told_more old new requests outcome told turn before entries rest begins go =
      let grows : Grows old new requests = turn_grows house old new requests outcome turn in
      subst (AreTaken house entries least) (sym (append_assoc told (answered house requests outcome) rest))
      (before entries (answered house requests outcome ++ rest) (begins_then old.entries new.entries entries (grows.kept ++ grows.made, grows.grows) begins)
      (turn_taken old new requests outcome turn entries rest begins go))

  -- of a run
  pub told_run : (first : State) (rounds : List Round) (states : List State) (told : List Answered) → Run house first rounds states → AreTold house least told first.entries
      → AreTold house least (told ++ answered_in house rounds) (last_state first states).entries
  told_run first [] [] told run before = subst (λ (answers : List Answered). AreTold house least answers first.entries) (sym (append-nil told)) before
  told_run first (round ∷ more) (next ∷ states) told run before =
      subst (λ (answers : List Answered). AreTold house least answers (last_state next states).entries) (append_assoc told (answered house round.requests round.outcome) (answered_in house more))
      (told_run next more states (told ++ answered house round.requests round.outcome) run.2 (told_more first next round.requests round.outcome told run.1 before))
  told_run first [] (next ∷ states) told run before = absurd run
  told_run first (round ∷ more) [] told run before = absurd run

-- so these are taken over it
pub told_taken : (house : House) (least : ℕ) (told : List Answered) (front entries : List Entry) → AreTold house least told front → Begins entries front → AreTaken house entries least told
told_taken house least told front entries are begins = subst (AreTaken house entries least) (append-nil told) (are entries [] begins (λ n below. tt))

pub none_told : (house : House) (front : List Entry) → AreTold house (length front) [] front
none_told house front entries rest begins go = go (length front) (omega arith)

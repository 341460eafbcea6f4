-- A turn of one request, and one request more.
use Rattle.std.proofs.Common.{◌≡◌, ◌⊎◌, inl, inr, ℕ, ◌+◌, ◌≤◌, List, [], ◌∷◌, ◌++◌, length, Option, None, Some, refl, sym, ap, subst, ◌∙◌, append_assoc, arith}
use Rattle.std.specs.Option.{option_to_list}
use Rattle.std.proofs.lemmas.List.{append-nil, length-append}
use Rattle.std.proofs.lemmas.List.Elements.{Contains-append_right}
use Rattle.nb_entry.specs.declared.entry.Entry.{Entry}
use Rattle.nb_turns.specs.declared.mark.Mark.{Mark}
use Rattle.nb_turns.specs.declared.mark.Mark.TheVariants.{At, Fault, Worn}
use Rattle.nb_turns.specs.Turns.{Request, House, State, Outcome, Decides, Fails, Refuses, Answered, Unsettled, Doubts, Turn, answer_over, answered, decided, recorded, with_entry, last_state}
use Rattle.nb_turns.specs.Laws.{TurnTells, DoubtsOne, TurnOfOne, OneIsTurn, RunTells, OnesAreRun, LastIsState, RunThen, OneMore, one_answer}

abbrev state_with : List Entry → List Entry → ℕ → State
state_with entries doubt faults = record { entries = entries; doubt = doubt; faults = faults }

-- ---- a list of one

abbrev mark_in : List Answered → Mark
mark_in [] = Worn
mark_in (a ∷ more) = a.mark

abbrev reply_in : List Answered → List ℕ
reply_in [] = []
reply_in (a ∷ more) = a.reply

-- what one request records
one_recorded : (house : House) (over : List Entry) (request : Request) → recorded house over (request ∷ []) ≡ option_to_list (house.rules over request).entry
one_recorded house over request = append-nil (option_to_list (house.rules over request).entry)

some_entry : (entry : Entry) → entry ∷ [] ≡ [] → ⊥
some_entry entry none = cc

entry_in : (entry : Option Entry) → (option_to_list entry ≡ [] → ⊥) → (e : Entry) × (entry ≡ Some e)
entry_in None some = absurd (some refl)
entry_in (Some e) some = (e, refl)

module _ (house : House) (old new : State) (request : Request) where
  doubts_list : DoubtsOne house old request new → Doubts house old (request ∷ []) new
  doubts_list d =
      let is : recorded house d.over (request ∷ []) ≡ d.entry ∷ [] = one_recorded house d.over request ∙ ap option_to_list d.verdict in
      record {
        over = d.over;
        settled = d.settled;
        some = λ none. some_entry d.entry (sym is ∙ none);
        left = d.left ∙ ap (λ (more : List Entry). state_with d.over more (old.faults + 1)) (sym is);
      }

  doubts_one : Doubts house old (request ∷ []) new → DoubtsOne house old request new
  doubts_one d =
      let found : (e : Entry) × ((house.rules d.over request).entry ≡ Some e) = entry_in (house.rules d.over request).entry (λ none. d.some (one_recorded house d.over request ∙ none)) in
      record {
        over = d.over;
        entry = found.0;
        settled = d.settled;
        verdict = found.1;
        left = d.left ∙ ap (λ (more : List Entry). state_with d.over more (old.faults + 1)) (one_recorded house d.over request ∙ ap option_to_list found.1);
      }

  failed_list : Unsettled old new ⊎ DoubtsOne house old request new → Unsettled old new ⊎ Doubts house old (request ∷ []) new
  failed_list (inl unsettled) = inl unsettled
  failed_list (inr d) = inr (doubts_list d)

  failed_one : Unsettled old new ⊎ Doubts house old (request ∷ []) new → Unsettled old new ⊎ DoubtsOne house old request new
  failed_one (inl unsettled) = inl unsettled
  failed_one (inr d) = inr (doubts_one d)

  one_tells : (mark : Mark) (reply : List ℕ) → TurnOfOne house old request mark reply new → TurnTells house old (request ∷ []) (one_answer request mark reply) new
  one_tells (At place) reply turn =
      let d = turn.1 in
      record {
        outcome = Decides d.over;
        turn = (turn.0, d.settled, d.left ∙ ap (λ (more : List Entry). state_with (d.over ++ more) [] old.faults) (sym (one_recorded house d.over request)));
        told = ap (λ (place : ℕ). one_answer request (At place) reply) d.at ∙ ap (λ (bytes : List ℕ). one_answer request (At (length d.over)) bytes) d.told;
      }
  one_tells (Fault before after) reply turn = record {
    outcome = Fails before after;
    turn = (turn.0, failed_list turn.2);
    told = ap (λ (bytes : List ℕ). one_answer request (Fault before after) bytes) turn.1;
  }
  one_tells Worn reply turn = record {
    outcome = Refuses;
    turn = (turn.0, turn.2);
    told = ap (λ (bytes : List ℕ). one_answer request Worn bytes) turn.1;
  }

  told_so : (mark other : Mark) (reply bytes : List ℕ) → one_answer request mark reply ≡ one_answer request other bytes → TurnOfOne house old request other bytes new → TurnOfOne house old request mark reply new
  told_so mark other reply bytes told turn =
      let mark_is : mark ≡ other = ap mark_in told in
      let reply_is : reply ≡ bytes = ap reply_in told in
      subst (λ (m : Mark). TurnOfOne house old request m reply new) (sym mark_is) (subst (λ (bs : List ℕ). TurnOfOne house old request other bs new) (sym reply_is) turn)

  tells_so : (mark : Mark) (reply : List ℕ) (outcome : Outcome) → Turn house old (request ∷ []) outcome new → one_answer request mark reply ≡ answered house (request ∷ []) outcome
      → TurnOfOne house old request mark reply new
  tells_so mark reply (Decides over) turn told = told_so mark (At (length over)) reply (house.rules over request).reply told (
    turn.0,
    record {
      over = over;
      settled = turn.1;
      at = refl;
      told = refl;
      left = turn.2 ∙ ap (λ (more : List Entry). state_with (over ++ more) [] old.faults) (one_recorded house over request);
    },
  )
  tells_so mark reply (Fails before after) turn told = told_so mark (Fault before after) reply (house.fault before after) told (turn.0, refl, failed_one turn.1)
  tells_so mark reply Refuses turn told = told_so mark Worn reply house.worn told (turn.0, refl, turn.1)

pub one_is_turn : OneIsTurn
one_is_turn house old new request mark reply =
    (one_tells house old new request mark reply, λ (t : TurnTells house old (request ∷ []) (one_answer request mark reply) new). tells_so house old new request mark reply t.outcome t.turn t.told)

pub ones_are_run : OnesAreRun
ones_are_run house first [] [] run = record { rounds = []; run = tt; told = refl }
ones_are_run house first (a ∷ more) (next ∷ states) run =
    let one : TurnTells house first (a.request ∷ []) (one_answer a.request a.mark a.reply) next = one_tells house first next a.request a.mark a.reply run.0 in
    let rest : RunTells house next more states = ones_are_run house next more states run.1 in
    record {
      rounds = record { requests = a.request ∷ []; outcome = one.outcome } ∷ rest.rounds;
      run = ((omega arith, omega arith), one.turn, rest.run);
      told = ap (λ (answers : List Answered). answers ++ more) one.told ∙ ap (λ (answers : List Answered). answered house (a.request ∷ []) one.outcome ++ answers) rest.told;
    }
ones_are_run house first [] (next ∷ states) run = absurd run
ones_are_run house first (a ∷ more) [] run = absurd run

-- ---- one more

-- the entries behind a first request and others
pub behind_more : (house : House) (over : List Entry) (request : Request) (more : List Request)
    → with_entry house over request ++ recorded house (with_entry house over request) more ≡ over ++ recorded house over (request ∷ more)
behind_more house over request more = append_assoc over (option_to_list (house.rules over request).entry) (recorded house (with_entry house over request) more)

decided_more : (house : House) (over : List Entry) (requests : List Request) (request : Request)
    → decided house over (requests ++ request ∷ []) ≡ decided house over requests ++ answer_over house (over ++ recorded house over requests) request ∷ []
decided_more house over [] request = ap (λ (es : List Entry). answer_over house es request ∷ []) (sym (append-nil over))
decided_more house over (r ∷ rs) request =
    ap (λ (answers : List Answered). answer_over house over r ∷ answers) (decided_more house (with_entry house over r) rs request
    ∙ ap (λ (es : List Entry). decided house (with_entry house over r) rs ++ answer_over house es request ∷ []) (behind_more house over r rs))

recorded_more : (house : House) (over : List Entry) (requests : List Request) (request : Request)
    → recorded house over (requests ++ request ∷ []) ≡ recorded house over requests ++ option_to_list (house.rules (over ++ recorded house over requests) request).entry
recorded_more house over [] request = append-nil (option_to_list (house.rules over request).entry) ∙ ap (λ (es : List Entry). option_to_list (house.rules es request).entry) (sym (append-nil over))
recorded_more house over (r ∷ rs) request =
    let first = option_to_list (house.rules over r).entry in
    ap (λ (es : List Entry). first ++ es) (recorded_more house (with_entry house over r) rs request
    ∙ ap (λ (es : List Entry). recorded house (with_entry house over r) rs ++ option_to_list (house.rules es request).entry) (behind_more house over r rs))
    ∙ sym (append_assoc first (recorded house (with_entry house over r) rs) (option_to_list (house.rules (over ++ recorded house over (r ∷ rs)) request).entry))

few_entries : (entry : Option Entry) → length (option_to_list entry) ≤ 1
few_entries None = omega arith
few_entries (Some e) = omega arith

pub recorded_few : (house : House) (over : List Entry) (requests : List Request) → length (recorded house over requests) ≤ length requests
recorded_few house over [] = omega arith
recorded_few house over (r ∷ rs) =
    omega (arith, few_entries (house.rules over r).entry, recorded_few house (with_entry house over r) rs, length-append (option_to_list (house.rules over r).entry) (recorded house (with_entry house over r) rs))

pub one_more : OneMore
one_more house over requests request = (decided_more house over requests request, recorded_more house over requests request, recorded_few house over requests)

-- ---- one run behind another

pub run_then : RunThen
run_then house first [] more [] others run then = then
run_then house first (round ∷ rounds) more (next ∷ states) others run then = (run.0, run.1, run_then house next rounds more states others run.2 then)
run_then house first [] more (next ∷ states) others run then = absurd run
run_then house first (round ∷ rounds) more [] others run then = absurd run

pub last_is_state : LastIsState
last_is_state first [] = (0, omega arith, refl)
last_is_state first (s ∷ states) = Contains-append_right (first ∷ []) (s ∷ states) (last_state s states) (last_is_state s states)

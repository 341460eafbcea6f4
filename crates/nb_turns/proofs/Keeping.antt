-- What a turn and a run keep, and what a stop leaves.
use Rattle.std.proofs.Common.{◌≡◌, ◌≢◌, ◌⊎◌, inl, inr, ℕ, ◌<◌, ◌≤◌, List, [], ◌∷◌, ◌++◌, length, Option, None, Some, refl, sym, ap, subst, ◌∙◌, arith}
use Rattle.std.specs.Option.{option_to_list}
use Rattle.std.proofs.lemmas.List.{append-nil, length-append, take_at}
use Rattle.nb_entry.specs.declared.entry.Entry.{Entry}
use Rattle.nb_book.specs.Legal.{LegalAfter, Legal}
use Rattle.nb_book.specs.Laws.{StaysLegal}
use Rattle.nb_book.proofs.Growing.{front_legal}
use Rattle.nb_book.proofs.Counting.{settled_once}
use Rattle.nb_book.proofs.Summing.{balances_make_total, none_overdrawn}
use Rattle.nb_turns.specs.declared.limits.TheConstants.{MAX_FAULTS}
use Rattle.nb_turns.specs.Turns.{Request, House, State, Outcome, Decides, Fails, Refuses, SettlesInto, Unsettled, Doubts, Turn, FitTurn, recorded, with_entry}
use Rattle.nb_turns.specs.Laws.{IsLawful, IsLegalState, IsBalanced, TurnKeepsLegal, RunKeepsLegal, RunKeepsMoney, WritesBehind, StandsWithin, StopLeaves, FailureLeavesDoubt}
use Rattle.nb_turns.proofs.Single.{behind_more, recorded_few}
use Rattle.nb_turns.proofs.Lists.{all_weaker}

-- ---- Legal

-- a list is Legal and within the cap
abbrev pub IsList : ℕ → List Entry → Type 0
IsList cap entries = Legal entries × (length entries ≤ cap)

-- a list over which these requests are decided stays so with what they record
abbrev pub Admits : House → ℕ → List Entry → List Request → Type 0
Admits house cap over requests = IsList cap over → IsList cap (over ++ recorded house over requests)

module _ (stays : StaysLegal) (house : House) (cap : ℕ) (lawful : IsLawful house cap) where
  grows : (over : List Entry) (entry : Option Entry) → ((e : Entry) → entry ≡ Some e → LegalAfter over e × (length over < cap)) → IsList cap over → IsList cap (over ++ option_to_list entry)
  grows over None may is = subst (IsList cap) (sym (append-nil over)) is
  grows over (Some e) may is =
      let next : LegalAfter over e × (length over < cap) = may e refl in
      (stays over e is.0 next.0, omega (arith, next.1, length-append over (e ∷ [])))

  -- so it is of every list where the house is lawful
  pub records_list : (over : List Entry) (requests : List Request) → Admits house cap over requests
  records_list over [] is = subst (IsList cap) (sym (append-nil over)) is
  records_list over (r ∷ rs) is =
      subst (IsList cap) (behind_more house over r rs)
      (records_list (with_entry house over r) rs (grows over (house.rules over r).entry (λ (e : Entry) (records : (house.rules over r).entry ≡ Some e). lawful over r e is.0 records) is))

  settled_list : (old : State) (over : List Entry) → IsLegalState cap old → SettlesInto old over → IsList cap over
  settled_list old over legal (inl same) =
      subst (IsList cap) (sym same) (
        subst Legal (take_at old.entries old.doubt (length old.entries) refl) (front_legal (old.entries ++ old.doubt) (length old.entries) legal.legal),
        omega (arith, legal.within, length-append old.entries old.doubt),
      )
  settled_list old over legal (inr same) = subst (IsList cap) (sym same) (legal.legal, legal.within)

  failed_keeps : (old new : State) (requests : List Request) → IsLegalState cap old → FitTurn requests → old.faults < MAX_FAULTS → Unsettled old new ⊎ Doubts house old requests new → IsLegalState cap new
  failed_keeps old new requests legal fits few (inl unsettled) =
      subst (IsLegalState cap) (sym unsettled.1) (record { legal = legal.legal; within = legal.within; most = legal.most; few = omega arith })
  failed_keeps old new requests legal fits few (inr d) =
      let more : IsList cap (d.over ++ recorded house d.over requests) = records_list d.over requests (settled_list old d.over legal d.settled) in
      subst (IsLegalState cap) (sym d.left) (record { legal = more.0; within = more.1; most = omega (arith, recorded_few house d.over requests, fits.1); few = omega arith })

  pub keeps : (old new : State) (requests : List Request) (outcome : Outcome) → IsLegalState cap old → FitTurn requests → Turn house old requests outcome new → IsLegalState cap new
  keeps old new requests (Decides over) legal fits turn =
      let more : IsList cap ((over ++ recorded house over requests) ++ []) =
      subst (IsList cap) (sym (append-nil (over ++ recorded house over requests))) (records_list over requests (settled_list old over legal turn.1)) in
      subst (IsLegalState cap) (sym turn.2) (record { legal = more.0; within = more.1; most = omega arith; few = legal.few })
  keeps old new requests (Fails before after) legal fits turn = failed_keeps old new requests legal fits turn.0 turn.1
  keeps old new requests Refuses legal fits turn = subst (IsLegalState cap) (sym turn.1) legal

pub turn_keeps_legal : StaysLegal → TurnKeepsLegal
turn_keeps_legal stays house cap old new requests outcome lawful legal fits turn = keeps stays house cap lawful old new requests outcome legal fits turn

pub run_keeps_legal : TurnKeepsLegal → RunKeepsLegal
run_keeps_legal one house cap first [] [] lawful legal run = tt
run_keeps_legal one house cap first (round ∷ more) (next ∷ states) lawful legal run =
    let here : IsLegalState cap next = one house cap first next round.requests round.outcome lawful legal run.0 run.1 in
    (here, run_keeps_legal one house cap next more states lawful here run.2)
run_keeps_legal one house cap first [] (next ∷ states) lawful legal run = absurd run
run_keeps_legal one house cap first (round ∷ more) [] lawful legal run = absurd run

-- ---- money

balanced : (entries : List Entry) → Legal entries → IsBalanced entries
balanced entries legal = record { once = settled_once entries legal; sums = balances_make_total entries legal; none_overdrawn = none_overdrawn entries legal }

both_balanced : (cap : ℕ) (state : State) → IsLegalState cap state → IsBalanced state.entries × IsBalanced (state.entries ++ state.doubt)
both_balanced cap state legal = (
  balanced state.entries (subst Legal (take_at state.entries state.doubt (length state.entries) refl) (front_legal (state.entries ++ state.doubt) (length state.entries) legal.legal)),
  balanced (state.entries ++ state.doubt) legal.legal,
)

pub run_keeps_money : RunKeepsLegal → RunKeepsMoney
run_keeps_money legal house cap first rounds states lawful is run =
    all_weaker (IsLegalState cap) (λ (state : State). IsBalanced state.entries × IsBalanced (state.entries ++ state.doubt)) states (both_balanced cap) (legal house cap first rounds states lawful is run)

-- ---- stops

abbrev IsOneOfFour : State → State → List Entry → Type 0
IsOneOfFour old new entries = SettlesInto old entries ⊎ SettlesInto new entries

module _ (house : House) (old new : State) (requests : List Request) (entries : List Entry) where
  while_decided : (over : List Entry) → SettlesInto old over → new ≡ record { entries = over ++ recorded house over requests; doubt = []; faults = old.faults }
      → SettlesInto old entries ⊎ WritesBehind house over requests entries → IsOneOfFour old new entries
  while_decided over settled left (inl before) = inl before
  while_decided over settled left (inr (inl none)) = inl (subst (SettlesInto old) (sym none) settled)
  while_decided over settled left (inr (inr all)) = inr (inl (all ∙ sym (ap (λ (s : State). s.entries) left)))

  while_failed : SettlesInto old entries ⊎ (Doubts house old requests new × WritesBehind house new.entries requests entries) → IsOneOfFour old new entries
  while_failed (inl before) = inl before
  while_failed (inr more) = written more.0 more.1
    where
      written : Doubts house old requests new → WritesBehind house new.entries requests entries → IsOneOfFour old new entries
      written d (inl none) = inr (inl none)
      written d (inr all) =
          let over_is : new.entries ≡ d.over = ap (λ (s : State). s.entries) d.left in
          let doubt_is : new.doubt ≡ recorded house d.over requests = ap (λ (s : State). s.doubt) d.left in
          inr (inr (all ∙ ap (λ (es : List Entry). new.entries ++ recorded house es requests) over_is ∙ ap (λ (es : List Entry). new.entries ++ es) (sym doubt_is)))

  within : (outcome : Outcome) → Turn house old requests outcome new → StandsWithin house old requests outcome new entries → IsOneOfFour old new entries
  within (Decides over) turn stands = while_decided over turn.1 turn.2 stands
  within (Fails before after) turn stands = while_failed stands
  within Refuses turn stands = inl stands

pub stop_leaves : StopLeaves
stop_leaves house old new requests outcome entries turn stands = within house old new requests entries outcome turn stands

-- ---- failures

module _ (house : House) (old new : State) (requests : List Request) where
  -- where nothing is in doubt a state settles into its entries
  settled_alone : (over : List Entry) → SettlesInto old over → old.doubt ≡ [] → over ≡ old.entries
  settled_alone over (inl same) none = same
  settled_alone over (inr same) none = same ∙ ap (λ (es : List Entry). old.entries ++ es) none ∙ append-nil old.entries

  leaves_doubt : Unsettled old new ⊎ Doubts house old requests new → (new.doubt ≢ []) × (old.doubt ≡ [] → recorded house old.entries requests ≢ [])
  leaves_doubt (inl unsettled) =
      (λ (none : new.doubt ≡ []). unsettled.0 (sym (ap (λ (s : State). s.doubt) unsettled.1) ∙ none), λ (none : old.doubt ≡ []). absurd (unsettled.0 none))
  leaves_doubt (inr d) = (
    λ (none : new.doubt ≡ []). d.some (sym (ap (λ (s : State). s.doubt) d.left) ∙ none),
    λ (none : old.doubt ≡ []) (nothing : recorded house old.entries requests ≡ []). d.some (ap (λ (es : List Entry). recorded house es requests) (settled_alone d.over d.settled none) ∙ nothing),
  )

pub failure_leaves_doubt : FailureLeavesDoubt
failure_leaves_doubt house old new requests before after turn = leaves_doubt house old new requests turn.1

-- What each entry has that a house records, each entry of its states has.
use Rattle.std.proofs.Common.{◌≡◌, ◌⊎◌, inl, inr, List, [], ◌∷◌, ◌++◌, Option, None, Some, refl, sym, subst}
use Rattle.std.specs.Option.{option_to_list}
use Rattle.std.specs.List.{AllByRecursion}
use Rattle.std.proofs.lemmas.List.{append-nil}
use Rattle.nb_entry.specs.declared.entry.Entry.{Entry}
use Rattle.nb_turns.specs.Turns.{Request, House, State, Outcome, Decides, Fails, Refuses, Round, SettlesInto, Unsettled, Doubts, Turn, Run, recorded, with_entry}
use Rattle.nb_turns.specs.Laws.{TurnKeepsRate, RunKeepsRate}
use Rattle.nb_book.specs.Legal.{IsOfRate}
use Rattle.nb_turns.proofs.Lists.{all_append, all_parts}

module _ (P : Entry → Type 0) (house : House) (each : (entries : List Entry) (request : Request) (entry : Entry) → (house.rules entries request).entry ≡ Some entry → P entry) where
  abbrev EachOf : State → Type 0
  EachOf state = AllByRecursion P (state.entries ++ state.doubt)

  of_one : (entry : Option Entry) → ((e : Entry) → entry ≡ Some e → P e) → AllByRecursion P (option_to_list entry)
  of_one None has = tt
  of_one (Some e) has = (has e refl, tt)

  -- what the verdicts of a turn record
  pub recorded_each : (over : List Entry) (requests : List Request) → AllByRecursion P (recorded house over requests)
  recorded_each over [] = tt
  recorded_each over (r ∷ rs) =
      all_append P (option_to_list (house.rules over r).entry) (recorded house (with_entry house over r) rs) (of_one (house.rules over r).entry (each over r)) (recorded_each (with_entry house over r) rs)

  settled_each : (old : State) (over : List Entry) → EachOf old → SettlesInto old over → AllByRecursion P over
  settled_each old over all (inl same) = subst (AllByRecursion P) (sym same) (all_parts P old.entries old.doubt all).0
  settled_each old over all (inr same) = subst (AllByRecursion P) (sym same) all

  behind_each : (old : State) (over : List Entry) (requests : List Request) → EachOf old → SettlesInto old over → AllByRecursion P (over ++ recorded house over requests)
  behind_each old over requests all settled = all_append P over (recorded house over requests) (settled_each old over all settled) (recorded_each over requests)

  failed_each : (old new : State) (requests : List Request) → EachOf old → Unsettled old new ⊎ Doubts house old requests new → EachOf new
  failed_each old new requests all (inl unsettled) = subst EachOf (sym unsettled.1) all
  failed_each old new requests all (inr d) = subst EachOf (sym d.left) (behind_each old d.over requests all d.settled)

  pub turn_keeps_each : (old new : State) (requests : List Request) (outcome : Outcome) → EachOf old → Turn house old requests outcome new → EachOf new
  turn_keeps_each old new requests (Decides over) all turn =
      subst EachOf (sym turn.2) (subst (AllByRecursion P) (sym (append-nil (over ++ recorded house over requests))) (behind_each old over requests all turn.1))
  turn_keeps_each old new requests (Fails before after) all turn = failed_each old new requests all turn.1
  turn_keeps_each old new requests Refuses all turn = subst EachOf (sym turn.1) all

  pub run_keeps_each : (first : State) (rounds : List Round) (states : List State) → EachOf first → Run house first rounds states → AllByRecursion EachOf states
  run_keeps_each first [] [] all run = tt
  run_keeps_each first (round ∷ more) (next ∷ states) all run =
      let here : EachOf next = turn_keeps_each first next round.requests round.outcome all run.1 in
      (here, run_keeps_each next more states here run.2)
  run_keeps_each first [] (next ∷ states) all run = absurd run
  run_keeps_each first (round ∷ more) [] all run = absurd run

pub turn_keeps_rate : TurnKeepsRate
turn_keeps_rate house version rate old new requests outcome of_rate all turn = turn_keeps_each (IsOfRate version rate) house of_rate old new requests outcome all turn

pub run_keeps_rate : RunKeepsRate
run_keeps_rate house version rate first rounds states of_rate all run = run_keeps_each (IsOfRate version rate) house of_rate first rounds states all run

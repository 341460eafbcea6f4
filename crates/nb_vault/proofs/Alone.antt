-- A turn of one request, and one whose replies are written behind it.
use Rattle.std.proofs.Common.{◌≡◌, ℕ, List, [], ◌∷◌, ◌++◌, sym, ap, subst, ◌∙◌}
use Rattle.std.specs.Prelude.{slice_index_or}
use Rattle.nb_port.specs.Tells.{DiskTells}
use Rattle.nb_turns.specs.Turns.{Request, Outcome, Decides, Fails, Refuses}
use Rattle.nb_vault.specs.declared.answer.AnswerAll.{AnswerAll}
use Rattle.nb_vault.specs.declared.answer.AnswerAll.TheVariants as all
use Rattle.nb_vault.specs.Parts.{handed_in, one_of}
use Rattle.nb_vault.specs.Vaults.{Chronicled, TurnOf, Went, all_of, place_in}

module _ {D : Type 0} (tells : DiskTells D) (old new : Chronicled D) (by : ℕ) (request : Request) (places out out' : List ℕ) where
  alone : (answer : AnswerAll) → TurnOf tells old new by (request ∷ []) (handed_in places answer) out out' answer
      → TurnOf tells old new by (request ∷ []) (place_in (one_of answer (slice_index_or places 0 0))) out out' (all_of (one_of answer (slice_index_or places 0 0)))
  alone all.Answered turn =
      let place : slice_index_or places 0 0 ∷ [] ≡ places = ap (λ (ps : List ℕ). slice_index_or ps 0 0 ∷ []) turn.1.found_is ∙ sym turn.1.found_is in
      subst (λ (ps : List ℕ). TurnOf tells old new by (request ∷ []) ps out out' all.Answered) (sym place) turn
  alone (all.DiskFault before after) turn = turn
  alone (all.Worn faults) turn = turn

  -- its answer has the place of the request, where it was decided
  pub answered_alone : (requests : List Request) (answer : AnswerAll) → requests ≡ request ∷ [] → TurnOf tells old new by requests (handed_in places answer) out out' answer
      → TurnOf tells old new by (request ∷ []) (place_in (one_of answer (slice_index_or places 0 0))) out out' (all_of (one_of answer (slice_index_or places 0 0)))
  answered_alone requests answer same turn =
      alone answer (subst (λ (rs : List Request). TurnOf tells old new by rs (handed_in places answer) out out' answer) same turn)

-- what was handed out as drafts stands behind what stood there
module _ {D : Type 0} (tells : DiskTells D) (old new : Chronicled D) (by : ℕ) (requests : List Request) (found out told out' : List ℕ) (is : out' ≡ out ++ told) where
  went : (outcome : Outcome) → Went tells old new by requests outcome found [] told → Went tells old new by requests outcome found out out'
  went outcome w = record {
    turn = w.turn;
    found_is = w.found_is;
    out_is = is ∙ ap (λ (xs : List ℕ). out ++ xs) w.out_is;
    added = w.added;
    behind = w.behind;
    lines = w.lines;
    disk = w.disk;
  }

  pub behind : (answer : AnswerAll) → TurnOf tells old new by requests found [] told answer → TurnOf tells old new by requests found out out' answer
  behind all.Answered turn = (turn.0, went (Decides turn.0) turn.1)
  behind (all.DiskFault before after) turn = went (Fails before after) turn
  behind (all.Worn faults) turn = (turn.0, went Refuses turn.1)

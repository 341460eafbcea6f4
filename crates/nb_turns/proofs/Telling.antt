-- What is told of each request of a turn.
use Rattle.std.proofs.Common.{◌≡◌, ℕ, List, [], ◌∷◌, length, refl, ap, arith}
use Rattle.std.specs.Prelude.{map}
use Rattle.nb_entry.specs.declared.entry.Entry.{Entry}
use Rattle.nb_turns.specs.declared.mark.Mark.{Mark}
use Rattle.nb_turns.specs.declared.mark.Mark.TheVariants.{Fault, Worn}
use Rattle.nb_turns.specs.Turns.{Request, House, Decides, Fails, Refuses, Answered, alike, decided, places, with_entry}
use Rattle.nb_turns.specs.Laws.{EachIsAnswered}

decided_requests : (house : House) (over : List Entry) (requests : List Request) → map (λ (a : Answered). a.request) (decided house over requests) ≡ requests
decided_requests house over [] = refl
decided_requests house over (r ∷ rs) = ap (λ (xs : List Request). r ∷ xs) (decided_requests house (with_entry house over r) rs)

decided_places : (house : House) (over : List Entry) (requests : List Request) → length (places (decided house over requests)) ≡ length requests
decided_places house over [] = refl
decided_places house over (r ∷ rs) = omega (arith, decided_places house (with_entry house over r) rs)

alike_requests : (mark : Mark) (reply : List ℕ) (requests : List Request) → map (λ (a : Answered). a.request) (alike mark reply requests) ≡ requests
alike_requests mark reply [] = refl
alike_requests mark reply (r ∷ rs) = ap (λ (xs : List Request). r ∷ xs) (alike_requests mark reply rs)

fault_places : (before after : ℕ) (reply : List ℕ) (requests : List Request) → places (alike (Fault before after) reply requests) ≡ []
fault_places before after reply [] = refl
fault_places before after reply (r ∷ rs) = fault_places before after reply rs

worn_places : (reply : List ℕ) (requests : List Request) → places (alike Worn reply requests) ≡ []
worn_places reply [] = refl
worn_places reply (r ∷ rs) = worn_places reply rs

pub each_is_answered : EachIsAnswered
each_is_answered house requests (Decides over) = (decided_requests house over requests, decided_places house over requests)
each_is_answered house requests (Fails before after) =
    (alike_requests (Fault before after) (house.fault before after) requests, fault_places before after (house.fault before after) requests)
each_is_answered house requests Refuses = (alike_requests Worn house.worn requests, worn_places house.worn requests)

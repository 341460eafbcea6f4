-- Marks and refusals of requests, one by one.
use Rattle.std.proofs.Common.{◌≡◌, ℕ, zero, suc, ◌+◌, ◌<◌, List, [], ◌∷◌, ◌++◌, length, take, refl, sym, ap, ◌∙◌, append_assoc, append-nil, add-one, arith}
use Rattle.std.specs.Prelude.{map}
use Rattle.std.specs.List.{flat_map}
use Rattle.nb_turns.specs.declared.mark.Mark.{Mark}
use Rattle.nb_vault.specs.declared.answer.AskAt.{AskAt}

map_suc : (mark : Mark) (asks : List AskAt) (i : ℕ) → i < length asks → map (λ (ask : AskAt). mark) (take i asks) ++ mark ∷ [] ≡ map (λ (ask : AskAt). mark) (take (suc i) asks)
map_suc mark [] i within = absurd (omega arith)
map_suc mark (a ∷ asks) zero within = refl
map_suc mark (a ∷ asks) (suc i) within = ap (λ (ms : List Mark). mark ∷ ms) (map_suc mark asks i (omega arith))

pub map_one_more : (mark : Mark) (before : List Mark) (asks : List AskAt) (i : ℕ) → i < length asks
    → (before ++ map (λ (ask : AskAt). mark) (take i asks)) ++ mark ∷ [] ≡ before ++ map (λ (ask : AskAt). mark) (take (i + 1) asks)
map_one_more mark before asks i within =
    append_assoc before (map (λ (ask : AskAt). mark) (take i asks)) (mark ∷ [])
    ∙ ap (λ (ms : List Mark). before ++ ms) (map_suc mark asks i within ∙ ap (λ (n : ℕ). map (λ (ask : AskAt). mark) (take n asks)) (sym (add-one i)))

joined_suc : (reply : List ℕ) (asks : List AskAt) (i : ℕ) → i < length asks → flat_map (λ (ask : AskAt). reply) (take i asks) ++ reply ≡ flat_map (λ (ask : AskAt). reply) (take (suc i) asks)
joined_suc reply [] i within = absurd (omega arith)
joined_suc reply (a ∷ asks) zero within = sym (append-nil reply)
joined_suc reply (a ∷ asks) (suc i) within = append_assoc reply (flat_map (λ (ask : AskAt). reply) (take i asks)) reply ∙ ap (λ (bs : List ℕ). reply ++ bs) (joined_suc reply asks i (omega arith))

pub joined_one_more : (reply before : List ℕ) (asks : List AskAt) (i : ℕ) → i < length asks
    → (before ++ flat_map (λ (ask : AskAt). reply) (take i asks)) ++ reply ≡ before ++ flat_map (λ (ask : AskAt). reply) (take (i + 1) asks)
joined_one_more reply before asks i within =
    append_assoc before (flat_map (λ (ask : AskAt). reply) (take i asks)) reply
    ∙ ap (λ (bs : List ℕ). before ++ bs) (joined_suc reply asks i within ∙ ap (λ (n : ℕ). flat_map (λ (ask : AskAt). reply) (take n asks)) (sym (add-one i)))

-- A text on the right of its places.
use Rattle.std.proofs.Common.{◌≡◌, ℕ, ◌-◌, ◌≤◌, List, ◌++◌, length, take, replicate, ap, ◌∙◌, arith, append_assoc}
use Rattle.std.proofs.lemmas.List.{take-replicate}

pub placed : (line blanks text number : List ℕ) (k width : ℕ) → blanks ≡ take k (replicate 20 32) → k ≡ width - length text → text ≡ number → width ≤ 20
    → (line ++ blanks) ++ text ≡ line ++ (replicate (width - length number) 32 ++ number)
placed line blanks text number k width cut is spelled narrow =
    let few : k ≤ 20 = omega (arith, is, narrow) in
    append_assoc line blanks text
    ∙ ap (λ (xs : List ℕ). line ++ (xs ++ text)) (cut ∙ take-replicate k 20 32 few ∙ ap (λ (n : ℕ). replicate n 32) is)
    ∙ ap (λ (xs : List ℕ). line ++ (replicate (width - length xs) 32 ++ xs)) spelled

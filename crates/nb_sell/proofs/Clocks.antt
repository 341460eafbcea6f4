-- What a clock gave: one part behind another.
use Rattle.std.proofs.Common.{ℕ, List, [], ◌∷◌, ◌++◌, Option, Some, None, sym, ap, ◌∙◌, append-nil, append_assoc}
use Rattle.nb_port.specs.Clock.{Gives}
use Rattle.nb_sell.specs.Sold.{Gave}

pub gave_none : (given : Option (List ℕ)) → Gave given given []
gave_none None = tt
gave_none (Some given) = sym (append-nil given)

pub gave_both : (a b c : Option (List ℕ)) (moments more : List ℕ) → Gave a b moments → Gave b c more → Gave a c (moments ++ more)
gave_both a b None moments more before then = tt
gave_both a None (Some c) moments more before then = absurd then
gave_both None (Some b) (Some c) moments more before then = absurd before
gave_both (Some a) (Some b) (Some c) moments more before then = then ∙ ap (λ (xs : List ℕ). xs ++ more) before ∙ append_assoc a moments more

pub gave_one : (a b : Option (List ℕ)) (moment : ℕ) → Gives a b moment → Gave a b (moment ∷ [])
gave_one a None moment gives = tt
gave_one None (Some b) moment gives = absurd gives
gave_one (Some a) (Some b) moment gives = gives

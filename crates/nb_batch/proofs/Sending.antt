-- A piece that is sent part by part.
use Rattle.std.proofs.Common.{◌≡◌, ℕ, ◌+◌, List, ◌++◌, take, drop, Option, sym, ap, ◌∙◌, subst}
use Rattle.std.specs.Io.KnownBytes.{Appends}
use Rattle.std.proofs.KnownBytes.{Appends-trans}
use Rattle.std.proofs.Math.Seq.{take-add}

pub sent_more : (s t u : Option (List ℕ)) (piece rest : List ℕ) (at n : ℕ) → Appends s t (take at piece) → rest ≡ drop at piece → Appends t u (take n rest) → Appends s u (take (at + n) piece)
sent_more s t u piece rest at n before is more =
    let P : List ℕ → Type 0 = λ bytes. Appends s u bytes in
    subst P (ap (λ (xs : List ℕ). take at piece ++ take n xs) is ∙ sym (take-add at n piece)) (Appends-trans s t u (take at piece) (take n rest) before more)

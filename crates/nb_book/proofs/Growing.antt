-- A Legal list is made by one legal entry after another.
use Rattle.std.proofs.Common.{◌≡◌, ℕ, zero, suc, ◌<◌, ◌≤◌, List, [], ◌∷◌, ◌++◌, length, take, get_or, sym, subst, arith, add-one, length-take}
use Rattle.std.proofs.lemmas.Grind.{common_steps}
use Rattle.std.proofs.lemmas.List.{take_more, take_all, take-take, get_or-take}
use Rattle.nb_entry.specs.declared.entry.Entry.{Entry}
use Rattle.nb_entry.specs.declared.entry.Entry.TheVariants.{Fund}
use Rattle.nb_book.specs.Legal.{LegalAfter, Legal}

-- the front of a Legal list is Legal
pub front_legal : (H : List Entry) (n : ℕ) → Legal H → Legal (take n H)
front_legal H n legal = record {
  each = λ k h d.
      let inside : k < length H = omega (arith, length-take n H) in
      let front : k < n = omega (arith, length-take n H) in
      let within : k ≤ n = omega arith in
      rw (take-take k n H within, get_or-take n H k d front) (legal.each k inside d);
}

-- a Legal list and an entry that may come next make one
pub legal_push : (H : List Entry) (e : Entry) → Legal H → LegalAfter H e → Legal (H ++ e ∷ [])
legal_push H e legal next = grind (arith, common_steps)

-- what holds of the empty list, and still holds when a legal entry comes after a Legal list, holds of each Legal list
pub along : (P : List Entry → Type 0) → P []
    → ((H : List Entry) (e : Entry) → Legal H → LegalAfter H e → P H → P (H ++ e ∷ []))
    → (H : List Entry) → Legal H → P H
along P none more H legal = subst P (take_all (length H) H (omega arith)) (upto (length H) (omega arith)) where
  upto : (n : ℕ) → n ≤ length H → P (take n H)
  upto zero h = none
  upto (suc n) h =
      let d : Entry = Fund (record { 0 = 0 }) 0 [] in
      let inside : n < length H = omega arith in
      let step : take (suc n) H ≡ take n H ++ get_or H n d ∷ [] = rw (← add-one) (take_more H n d inside) in
      subst P (sym step) (more (take n H) (get_or H n d) (front_legal H n legal) (legal.each n inside d) (upto n (omega arith)))

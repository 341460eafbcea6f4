-- A write that is done is a torn one.
use Rattle.std.proofs.Common.{◌≡◌, ◌⊎◌, inl, inr, ℕ, zero, suc, ◌+◌, ◌-◌, ◌<◌, ◌≤◌, max, List, ◌++◌, length, take, drop, Option, Some, None, IfSome, arith, sym, subst, ◌∙◌, length-append, length-drop}
use Rattle.std.proofs.lemmas.List.{length-take-le}
use Rattle.nb_port.specs.Disk.{Torn, MayTear, put_at, wrote_at}
use Rattle.nb_port.specs.DiskLaws.{torn_put, torn_same}
use Rattle.nb_port.proofs.Tears.{torn_from, torn_at}

-- one number is below the other, or not
pub order : (m n : ℕ) → (m < n) ⊎ (n ≤ m)
order m zero = inr (omega arith)
order zero (suc n) = inl (omega arith)
order (suc m) (suc n) = elim (order m n) [ inl below ↦ inl (omega arith) | inr above ↦ inr (omega arith) ]

-- bytes put at a place, as what is left of a write that is torn
pub put_tears : (old : List ℕ) (place : ℕ) (bytes : List ℕ) → place ≤ length old
    → Torn place (length bytes) old (put_at old place bytes) × (length (put_at old place bytes) ≤ max (length old) (place + length bytes))
unfolding put_at
put_tears old place bytes inside = (torn_put place bytes old, omega (arith, long))
  where
    long : length (take place old ++ bytes ++ drop (place + length bytes) old) ≡ (place + length bytes) + (length old - (place + length bytes))
    long = simp (length-append, length-drop) (omega (arith, length-take-le place old inside))

-- the same for a disk that tells or does not
pub wrote_tears : (old mid new : Option (List ℕ)) (place : ℕ) (bytes : List ℕ) → mid ≡ wrote_at old place bytes → new ≡ mid → IfSome old (λ d. place ≤ length d) → MayTear old new place (length bytes)
wrote_tears old mid new place bytes wrote same inside = subst (λ (o : Option (List ℕ)). MayTear old o place (length bytes)) (sym (same ∙ wrote)) (cases old inside)
  where
    cases : (old : Option (List ℕ)) → IfSome old (λ d. place ≤ length d) → MayTear old (wrote_at old place bytes) place (length bytes)
    cases None inside = tt
    cases (Some d) inside = put_tears d place bytes inside

-- one write that is torn, and then another, as one of a range that has both
pub torn_twice : (place n from m at l : ℕ) (old mid new : List ℕ) → at ≤ place → place + n ≤ at + l → at ≤ from → from + m ≤ at + l
    → Torn place n old mid → Torn from m mid new → Torn at l old new
torn_twice place n from m at l old mid new low high low' high' first second =
    torn_from at l old new (omega (arith, first.no_shorter, second.no_shorter)) (λ i h out.
    torn_at from m mid new second i (omega (arith, first.no_shorter)) (beyond from m low' high' out) ∙ torn_at place n old mid first i h (beyond place n low high out))
  where
    beyond : {i : ℕ} (p k : ℕ) → at ≤ p → p + k ≤ at + l → (i < at) ⊎ (at + l ≤ i) → (i < p) ⊎ (p + k ≤ i)
    beyond p k low high (inl before) = inl (omega arith)
    beyond p k low high (inr behind) = inr (omega arith)

-- the same for a disk that tells or does not
pub tears_twice : (place n from m at l : ℕ) (old mid new : Option (List ℕ)) → at ≤ place → place + n ≤ at + l → at ≤ from → from + m ≤ at + l
    → MayTear old mid place n → MayTear mid new from m → MayTear old new at l
tears_twice place n from m at l None None None low high low' high' first second = tt
tears_twice place n from m at l None None (Some new) low high low' high' first second = second
tears_twice place n from m at l None (Some mid) new low high low' high' first second = absurd first
tears_twice place n from m at l (Some old) None new low high low' high' first second = absurd first
tears_twice place n from m at l (Some old) (Some mid) None low high low' high' first second = second
tears_twice place n from m at l (Some old) (Some mid) (Some new) low high low' high' first second =
    (torn_twice place n from m at l old mid new low high low' high' first.0 second.0, omega (arith, first.1, second.1))

-- a write that is torn, as one of a wider range
pub tears_wider : (place n at l : ℕ) (old new : Option (List ℕ)) → at ≤ place → place + n ≤ at + l → MayTear old new place n → MayTear old new at l
tears_wider place n at l None None low high torn = tt
tears_wider place n at l None (Some new) low high torn = torn
tears_wider place n at l (Some old) None low high torn = torn
tears_wider place n at l (Some old) (Some new) low high torn =
    (torn_twice place n at 0 at l old new new low high (omega arith) (omega arith) torn.0 (torn_same at 0 new), omega (arith, torn.1))

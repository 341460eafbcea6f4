-- What a torn write changes: bytes in its range and past the old end, and no others.
use Rattle.std.proofs.Common.{◌≡◌, ◌⊎◌, inl, inr, ℕ, ◌+◌, ◌-◌, ◌<◌, ◌≤◌, List, ◌++◌, length, take, drop, get_or, min, replicate, ap, subst, arith, rules}
use Rattle.std.proofs.lemmas.List.{places, ext_get_or}
use Rattle.nb_port.specs.Disk.{Torn, put_at}
use Rattle.nb_port.specs.Images.{filled}
use Rattle.nb_port.specs.DiskLaws.{torn_same, torn_put}
use Rattle.nb_port.specs.declared.memory.fill.Fill.{Fill}
use Rattle.nb_port.specs.declared.memory.fill.Fill.TheVariants.{Old, New, Byte}

-- where bytes are no shorter and the same outside the range, they are torn
pub torn_from : (place n : ℕ) (old new : List ℕ) → length old ≤ length new
    → ((i : ℕ) → i < length old → (i < place) ⊎ (place + n ≤ i) → get_or new i 0 ≡ get_or old i 0) → Torn place n old new
torn_from place n old new longer same = record {
  no_shorter = longer;
  before = ext_get_or 0 _ _ (search (rules, places)) (λ i h.
      let low : i < place = grind (arith, places) in
      let in_old : i < length old = grind (arith, places) in
      let e = same i in_old (inl low) in
      grind (arith, places));
  after = ext_get_or 0 _ _ (search (rules, places)) (λ i h.
      let in_old : place + n + i < length old = grind (arith, places) in
      let e = same (place + n + i) in_old (inr (omega arith)) in
      grind (arith, places));
}

-- and where they are torn, they are the same outside the range
pub torn_at : (place n : ℕ) (old new : List ℕ) → Torn place n old new
    → (i : ℕ) → i < length old → (i < place) ⊎ (place + n ≤ i) → get_or new i 0 ≡ get_or old i 0
torn_at place n old new torn i h (inl low) =
    let e = ap (λ (xs : List ℕ). get_or xs i 0) torn.before in
    grind (arith, places)
torn_at place n old new torn i h (inr high) =
    let e = ap (λ (xs : List ℕ). get_or xs (i - (place + n)) 0) torn.after in
    grind (arith, places)

-- as many bytes as the range has, put at its place, are torn
pub torn_put_as : (place n : ℕ) (old bytes : List ℕ) → length bytes ≡ n → Torn place n old (put_at old place bytes)
torn_put_as place n old bytes e = subst (λ (n : ℕ). Torn place n old (put_at old place bytes)) e (torn_put place bytes old)

-- so are those that a fill puts
pub torn_filled : (fill : Fill) (place : ℕ) (old bytes : List ℕ) → Torn place (length bytes) old (filled fill old place bytes)
torn_filled Old place old bytes = torn_same place (length bytes) old
torn_filled New place old bytes = torn_put place bytes old
torn_filled (Byte b) place old bytes = torn_put_as place (length bytes) old (replicate (length bytes) b) (search (rules, places))

-- bytes that are put in two parts, those past the end first
pub put_in_parts : (old : List ℕ) (place at n : ℕ) (bytes : List ℕ) → at ≡ min place (length old) → n ≡ min (length bytes) (length old - at)
    → put_at (old ++ drop n bytes) at (take n bytes) ≡ put_at old place bytes
unfolding put_at
put_in_parts old place at n bytes e f = ext_get_or 0 _ _ (search (rules, places)) (λ i h. grind (arith, places))

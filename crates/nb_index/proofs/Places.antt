-- The last place of a number in a list, and chains under one push and one pop.
use Rattle.std.proofs.Common.{◌≡◌, ℕ, suc, ◌+◌, ◌-◌, ◌<◌, ◌≤◌, Bool, true, false, cond, ltb, ◌||◌, List, [], ◌∷◌, ◌++◌, length, take, set, get_or, arith, refl, sym, ap, subst, ◌∙◌, length-take}
use Rattle.std.proofs.lemmas.Bool.{eqb-true, eqb-false, ltb-true, ltb-false}
use Rattle.std.proofs.lemmas.Bool.Decides.{nat_tests}
use Rattle.std.proofs.lemmas.List.{take_more, take_all, take-take, get_or-take, get_or-set_same, get_or-set_other, get_or_push, get_or_append_left, take-append-le, take_at, length-set, length_push}
use Rattle.std.specs.Prelude.{◌==◌}
use Rattle.nb_index.specs.Slots.{last_in, Chains}

-- the last place of a list that begins with a number: the place behind the last one of the rest, where there is one or it is here
abbrev place : Bool → ℕ → ℕ
place here n = cond (ltb 0 n || here) (n + 1) 0

-- the last place in a list that is one longer
pub last_push : (h : ℕ) (xs : List ℕ) (y : ℕ) → last_in h (xs ++ y ∷ []) ≡ cond (y == h) (length xs + 1) (last_in h xs)
last_push h [] y = part (y == h) where
  part : (b : Bool) → place b 0 ≡ cond b (0 + 1) 0
  part true = refl
  part false = refl
last_push h (x ∷ xs) y = rw (last_push h xs y) (part (y == h) (x == h)) where
  part : (b c : Bool) → place c (cond b (length xs + 1) (last_in h xs)) ≡ cond b (suc (length xs) + 1) (place c (last_in h xs))
  part true c = grind (arith, nat_tests)
  part false c = refl

pub last_le : (h : ℕ) (xs : List ℕ) → last_in h xs ≤ length xs
last_le h [] = omega arith
last_le h (x ∷ xs) = part (ltb 0 (last_in h xs) || x == h) (last_le h xs) where
  part : (b : Bool) → last_in h xs ≤ length xs → cond b (last_in h xs + 1) 0 ≤ suc (length xs)
  part true rest = omega (arith, rest)
  part false rest = omega arith

-- at the last place of a number stands that number
pub last_is : (h : ℕ) (xs : List ℕ) → 0 < last_in h xs → get_or xs (last_in h xs - 1) 0 ≡ h
last_is h [] some = absurd (omega arith)
last_is h (x ∷ xs) some = part (last_in h xs) (ltb 0 (last_in h xs)) refl (x == h) refl (last_is h xs) some where
  part : (n : ℕ) (more : Bool) → ltb 0 n ≡ more → (here : Bool) → (x == h) ≡ here → (0 < n → get_or xs (n - 1) 0 ≡ h)
      → 0 < cond (more || here) (n + 1) 0 → get_or (x ∷ xs) (cond (more || here) (n + 1) 0 - 1) 0 ≡ h
  part n true later here is rest some =
      let behind : n + 1 - 1 ≡ suc (n - 1) = omega (arith, ltb-true 0 n later) in
      rw behind (rest (ltb-true 0 n later))
  part n false none true is rest some =
      let first : n + 1 - 1 ≡ 0 = omega (arith, ltb-false 0 n none) in
      rw first (eqb-true x h is)
  part n false none false is rest some = absurd (omega arith)

-- chains once the slot of one more put is written down
pub pushed : (lasts before hs : List ℕ) (h : ℕ) → Chains lasts before hs → h < length lasts
    → Chains (set lasts h (length hs + 1)) (before ++ get_or lasts h 0 ∷ []) (hs ++ h ∷ [])
pushed lasts before hs h chains within = record {
  last = λ g inside. rw (last_push g hs h) (slot g (omega (arith, length-set lasts h (length hs + 1))) (h == g) refl);
  earlier = λ i inside. place_of i (omega (arith, length_push hs h)) (ltb i (length hs)) refl;
  as_many = omega (arith, length_push hs h, length_push before (get_or lasts h 0), chains.as_many);
} where
  slot : (g : ℕ) → g < length lasts → (b : Bool) → (h == g) ≡ b
      → get_or (set lasts h (length hs + 1)) g 0 ≡ cond b (length hs + 1) (last_in g hs)
  slot g inside true same =
      subst (λ (n : ℕ). get_or (set lasts h (length hs + 1)) n 0 ≡ length hs + 1) (eqb-true h g same) (get_or-set_same lasts h (length hs + 1) 0 within)
  slot g inside false other =
      get_or-set_other lasts h g (length hs + 1) 0 (λ same. eqb-false h g other (sym same)) ∙ chains.last g inside

  place_of : (i : ℕ) → i < length hs + 1 → (b : Bool) → ltb i (length hs) ≡ b
      → get_or (before ++ get_or lasts h 0 ∷ []) i 0 ≡ last_in (get_or (hs ++ h ∷ []) i 0) (take i (hs ++ h ∷ []))
  place_of i inside true old =
      let front : i < length hs = ltb-true i (length hs) old in
      let upto : i ≤ length hs = omega arith in
      rw (get_or_append_left before (get_or lasts h 0 ∷ []) 0 i (omega (arith, chains.as_many)), get_or_append_left hs (h ∷ []) 0 i front, take-append-le i hs (h ∷ []) upto)
      (chains.earlier i front)
  place_of i inside false new =
      let here : length hs ≡ i = omega (arith, ltb-false i (length hs) new) in
      let here_before : length before ≡ i = omega (arith, chains.as_many) in
      rw (get_or_push before (get_or lasts h 0) 0 i here_before, get_or_push hs h 0 i here, take_at hs (h ∷ []) i here) (chains.last h within)

-- chains once the slot of the last put is given the put before it there
pub popped : (lasts before hs : List ℕ) (h n : ℕ) → Chains lasts before hs → length hs ≡ n + 1 → get_or hs n 0 ≡ h → h < length lasts
    → Chains (set lasts h (get_or before n 0)) (take n before) (take n hs)
popped lasts before hs h n chains long here within = record {
  last = λ g inside. slot g (omega (arith, length-set lasts h (get_or before n 0))) (h == g) refl;
  earlier = λ i inside.
      let front : i < n = omega (arith, length-take n hs) in
      let upto : i ≤ n = omega arith in
      rw (get_or-take n before i 0 front, get_or-take n hs i 0 front, take-take i n hs upto) (chains.earlier i (omega arith));
  as_many = omega (arith, length-take n hs, length-take n before, chains.as_many);
} where
  -- the list is its front and the slot of the last put
  whole : hs ≡ take n hs ++ h ∷ []
  whole =
      let inside : n < length hs = omega arith in
      let all : length hs ≤ n + 1 = omega arith in
      sym (take_all (n + 1) hs all) ∙ take_more hs n 0 inside ∙ ap (λ (x : ℕ). take n hs ++ x ∷ []) here

  slot : (g : ℕ) → g < length lasts → (b : Bool) → (h == g) ≡ b → get_or (set lasts h (get_or before n 0)) g 0 ≡ last_in g (take n hs)
  slot g inside true same =
      subst (λ (m : ℕ). get_or (set lasts h (get_or before n 0)) m 0 ≡ last_in m (take n hs)) (eqb-true h g same)
      (get_or-set_same lasts h (get_or before n 0) 0 within ∙ chains.earlier n (omega arith) ∙ ap (λ (m : ℕ). last_in m (take n hs)) here)
  slot g inside false other =
      get_or-set_other lasts h g (get_or before n 0) 0 (λ same. eqb-false h g other (sym same))
      ∙ chains.last g inside
      ∙ ap (last_in g) whole
      ∙ last_push g (take n hs) h
      ∙ ap (λ (b : Bool). cond b (length (take n hs) + 1) (last_in g (take n hs))) other

-- A map has the places of numbers, and of one more.
use Rattle.std.proofs.Common.{◌≡◌, ℕ, ◌+◌, ◌<◌, ◌≤◌, Bool, true, false, cond, List, [], ◌∷◌, ◌++◌, length, Option, Some, None, refl, sym, ap, subst, ◌∙◌, arith, length-append, eqb, lt-ltb, le-ltb, ltb-true, eqb-true, eq-eqb}
use Rattle.std.specs.Prelude.{nat_eq, nat_lt, not, position, IfSome}
use Rattle.std.specs.List.{position_or_len, AllZip}
use Rattle.std.specs.Ordering.{nat_cmp}
use Rattle.std.specs.Cmp.{unsigned_tied, nat_eq_equiv}
use Rattle.std.specs.BTreeMap.{is_at}
use Rattle.std.specs.Map.{lookup}
use Rattle.std.proofs.lemmas.List.Folds.{position_or_len_push}
use Rattle.std.proofs.lemmas.List.Sums.{prefix_len-le-length}
use Rattle.nb_numbers.specs.Places.{AreFound}
use Rattle.nb_numbers.proofs.Beside.{or_at, or_none}

-- ---- places in a list

pub place_within : (p : ℕ → Bool) (xs : List ℕ) → IfSome (position p xs) (λ i. i < length xs)
place_within p xs = by (nat_lt (position_or_len p xs) (length xs)) refl
  where
    by : (b : Bool) → nat_lt (position_or_len p xs) (length xs) ≡ b → IfSome (cond b (Some (position_or_len p xs)) None) (λ i. i < length xs)
    by true e = ltb-true (position_or_len p xs) (length xs) e
    by false e = tt

below : (l n : ℕ) → l ≤ n → eqb l n ≡ false → l < n
below l n within e = grind arith

step : (l n m len : ℕ) (b : Bool) → l ≤ n → m ≡ cond (eqb l n) (n + cond b 0 1) l → len ≡ n + 1
    → cond (nat_lt m len) (Some m) None ≡ or_at (cond (nat_lt l n) (Some l) None) (cond b (Some n) None)
step l n m len b within is one = by (eqb l n) refl b is
  where
    by : (e : Bool) → eqb l n ≡ e → (c : Bool) → m ≡ cond (eqb l n) (n + cond c 0 1) l → cond (nat_lt m len) (Some m) None ≡ or_at (cond (nat_lt l n) (Some l) None) (cond c (Some n) None)
    by true e true f =
        let same : l ≡ n = eqb-true l n e in
        let none_more : n + 0 ≡ n = omega arith in
        let at : m ≡ n = f ∙ ap (λ (t : Bool). cond t (n + 0) l) e ∙ none_more in
        rw (lt-ltb m len (omega (arith, at, one)), le-ltb l n (omega (arith, same))) (ap Some at)
    by true e false f =
        let same : l ≡ n = eqb-true l n e in
        let at : m ≡ n + 1 = f ∙ ap (λ (t : Bool). cond t (n + 1) l) e in
        rw (le-ltb m len (omega (arith, at, one)), le-ltb l n (omega (arith, same))) refl
    by false e c f =
        let at : m ≡ l = f ∙ ap (λ (t : Bool). cond t (n + cond c 0 1) l) e in
        let less : l < n = below l n within e in
        rw (lt-ltb m len (omega (arith, at, one, less)), lt-ltb l n less) (ap Some at)

-- a number is found among numbers with one more where it was found, or else behind them if it is that one
pushed : (q k : ℕ) (xs : List ℕ) → position (nat_eq q) (xs ++ k ∷ []) ≡ or_at (position (nat_eq q) xs) (cond (nat_eq q k) (Some (length xs)) None)
pushed q k xs =
    step (position_or_len (nat_eq q) xs) (length xs) (position_or_len (nat_eq q) (xs ++ k ∷ [])) (length (xs ++ k ∷ [])) (nat_eq q k) (prefix_len-le-length (λ x. not (nat_eq q x)) xs)
    (position_or_len_push (nat_eq q) xs k) (length-append xs (k ∷ []))

-- ---- places that a map has

pub none_found : (entries : List (ℕ × ℕ)) (xs : List ℕ) → entries ≡ [] → xs ≡ [] → AreFound entries xs
none_found entries xs a b = subst (λ (l : List (ℕ × ℕ)). AreFound l xs) (sym a) (subst (AreFound []) (sym b) (record { each = λ n. refl }))

pub same_found : (entries later : List (ℕ × ℕ)) (xs new : List ℕ) → AreFound entries xs → later ≡ entries → new ≡ xs → AreFound later new
same_found entries later xs new found a b = subst (λ (l : List (ℕ × ℕ)). AreFound l new) (sym a) (subst (AreFound entries) (sym b) found)

pub more_found : (entries later : List (ℕ × ℕ)) (xs new : List ℕ) (k at : ℕ) → AreFound entries xs → position (nat_eq k) xs ≡ None → at ≡ length xs
    → ((q : ℕ) → lookup (is_at (nat_cmp q)) later ≡ cond (is_at (nat_cmp k) q) (Some at) (lookup (is_at (nat_cmp q)) entries)) → new ≡ xs ++ k ∷ [] → AreFound later new
more_found entries later xs new k at found none at_is updates new_is = record { each = λ q. updates q ∙ one q (nat_eq k q) refl ∙ sym (ap (position (nat_eq q)) new_is) }
  where
    one : (q : ℕ) (b : Bool) → nat_eq k q ≡ b → cond (is_at (nat_cmp k) q) (Some at) (lookup (is_at (nat_cmp q)) entries) ≡ position (nat_eq q) (xs ++ k ∷ [])
    one q true e =
        let same : k ≡ q = eqb-true k q e in
        let none_q : position (nat_eq q) xs ≡ None = subst (λ (n : ℕ). position (nat_eq n) xs ≡ None) same none in
        ap (λ (b : Bool). cond b (Some at) (lookup (is_at (nat_cmp q)) entries)) (unsigned_tied k q ∙ e)
        ∙ ap Some at_is
        ∙ sym (ap (λ (b : Bool). cond b (Some (length xs)) None) (eq-eqb q k (sym same)))
        ∙ sym (ap (λ (o : Option ℕ). or_at o (cond (nat_eq q k) (Some (length xs)) None)) none_q)
        ∙ sym (pushed q k xs)
    one q false e =
        ap (λ (b : Bool). cond b (Some at) (lookup (is_at (nat_cmp q)) entries)) (unsigned_tied k q ∙ e)
        ∙ found.each q
        ∙ sym (or_none (position (nat_eq q) xs))
        ∙ sym (ap (λ (b : Bool). or_at (position (nat_eq q) xs) (cond b (Some (length xs)) None)) (nat_eq_equiv.symm q k ∙ e))
        ∙ sym (pushed q k xs)

-- ---- copies

pub one_list : {A : Type 0} (R : A → A → Type 0) → ((x y : A) → R x y → y ≡ x) → (xs ys : List A) → AllZip R xs ys → ys ≡ xs
one_list R same [] [] h = refl
one_list R same [] (y ∷ ys) h = absurd h
one_list R same (x ∷ xs) [] h = absurd h
one_list R same (x ∷ xs) (y ∷ ys) h = rw (same x y h.0, one_list R same xs ys h.1) refl

pub one_pair : (x y : ℕ × ℕ) → (y.0 ≡ x.0) × (y.1 ≡ x.1) → y ≡ x
one_pair (a, b) (c, d) h = rw (h.0, h.1) refl

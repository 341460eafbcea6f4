-- Who is listed once, and enrolled as listed.
use Rattle.std.proofs.Common.{◌≡◌, ℕ, suc, ◌+◌, Bool, true, false, cond, List, [], ◌∷◌, ◌++◌, map, length, Some, None, refl, sym, ap, subst, ◌∙◌, arith, append_assoc, append-nil}
use Rattle.std.specs.Prelude.{is_none, ◌==◌, ◌&&◌, nat_lt, not}
use Rattle.std.specs.List.{position, prefix_len, AllByRecursion}
use Rattle.std.proofs.lemmas.Bool.{false≢true}
use Rattle.nb_entry.specs.declared.entry.Entry.{Entry}

-- each is as `ok` says, and its number is that of none before it
abbrev pub may : {A N : Type 0} → (A → N) → (N → ℕ) → (A → ℕ) → (List Entry → A → Bool) → List Entry → List N → List A → Bool
may listed num id ok H before [] = true
may listed num id ok H before (x ∷ xs) = ok H x && is_none (position (λ n. num n == id x) before) && may listed num id ok H (before ++ listed x ∷ []) xs

pub all_three : (a b c : Bool) → (a && b && c) ≡ true → (a ≡ true) × (b ≡ true) × (c ≡ true)
all_three true true true e = (refl, refl, refl)
all_three true true false e = absurd (false≢true e)
all_three true false c e = absurd (false≢true e)
all_three false b c e = absurd (false≢true e)

pub three : (a b c : Bool) → a ≡ true → b ≡ true → c ≡ true → (a && b && c) ≡ true
three a b c e f g = rw (e, f, g) refl

-- with more entries, where these keep what `ok` says
pub kept : {A N : Type 0} (listed : A → N) (num : N → ℕ) (id : A → ℕ) (ok : List Entry → A → Bool) (H J : List Entry) (before : List N) (xs : List A) → ((x : A) → ok H x ≡ true → ok J x ≡ true)
    → may listed num id ok H before xs ≡ true → may listed num id ok J before xs ≡ true
kept listed num id ok H J before [] keeps e = refl
kept listed num id ok H J before (x ∷ xs) keeps e =
    let parts = all_three (ok H x) (is_none (position (λ n. num n == id x) before)) (may listed num id ok H (before ++ listed x ∷ []) xs) e in
    three _ _ _ (keeps x parts.0) parts.1 (kept listed num id ok H J (before ++ listed x ∷ []) xs keeps parts.2)

-- one more, with a new number
pub one_more : {A N : Type 0} (listed : A → N) (num : N → ℕ) (id : A → ℕ) (ok : List Entry → A → Bool) (H : List Entry) (before : List N) (xs : List A) (x : A) → may listed num id ok H before xs ≡ true
    → ok H x ≡ true → position (λ n. num n == id x) (before ++ map listed xs) ≡ None → may listed num id ok H before (xs ++ x ∷ []) ≡ true
one_more listed num id ok H before [] x e is none =
    three _ _ _ is (ap is_none (ap (position (λ n. num n == id x)) (sym (append-nil before)) ∙ none)) refl
one_more listed num id ok H before (y ∷ xs) x e is none =
    let parts = all_three (ok H y) (is_none (position (λ n. num n == id y) before)) (may listed num id ok H (before ++ listed y ∷ []) xs) e in
    three _ _ _ parts.0 parts.1
    (one_more listed num id ok H (before ++ listed y ∷ []) xs x parts.2 is (ap (position (λ n. num n == id x)) (append_assoc before (listed y ∷ []) (map listed xs)) ∙ none))

-- a number that none has
pub none_has : {A N : Type 0} (listed : A → N) (num : N → ℕ) (id : A → ℕ) (ok : List Entry → A → Bool) (H : List Entry) (before : List N) (xs : List A) (k : ℕ) → ((x : A) → num (listed x) ≡ id x)
    → ((x : A) → ok H x ≡ true → (id x == k) ≡ false) → AllByRecursion (λ n. (num n == k) ≡ false) before → may listed num id ok H before xs ≡ true
    → AllByRecursion (λ n. (num n == k) ≡ false) (before ++ map listed xs)
none_has listed num id ok H before [] k same other all e = subst (AllByRecursion (λ n. (num n == k) ≡ false)) (sym (append-nil before)) all
none_has listed num id ok H before (x ∷ xs) k same other all e =
    let parts = all_three (ok H x) (is_none (position (λ n. num n == id x) before)) (may listed num id ok H (before ++ listed x ∷ []) xs) e in
    let one : (num (listed x) == k) ≡ false = ap (λ (n : ℕ). n == k) (same x) ∙ other x parts.0 in
    subst (AllByRecursion (λ n. (num n == k) ≡ false)) (append_assoc before (listed x ∷ []) (map listed xs))
    (none_has listed num id ok H (before ++ listed x ∷ []) xs k same other (more (λ n. (num n == k) ≡ false) before (listed x) all one) parts.2)
  where
    more : {N : Type 0} (P : N → Type 0) (ns : List N) (n : N) → AllByRecursion P ns → P n → AllByRecursion P (ns ++ n ∷ [])
    more P [] n all one = (one, tt)
    more P (m ∷ ns) n all one = (all.0, more P ns n all.1 one)

all_pass : {N : Type 0} (p : N → Bool) (ns : List N) → AllByRecursion (λ n. p n ≡ false) ns → prefix_len (λ n. not (p n)) ns ≡ length ns
all_pass p [] all = refl
all_pass p (n ∷ ns) all = ap (λ (b : Bool). cond (not b) (1 + prefix_len (λ n. not (p n)) ns) 0) all.0 ∙ ap (λ (k : ℕ). 1 + k) (all_pass p ns all.1) ∙ one_and (length ns)
  where
    one_and : (n : ℕ) → 1 + n ≡ suc n
    one_and n = omega arith

not_below : (n : ℕ) → nat_lt n n ≡ false
not_below n = by (nat_lt n n) refl
  where
    by : (b : Bool) → nat_lt n n ≡ b → b ≡ false
    by false e = refl
    by true e = absurd (omega (arith, Rattle.std.proofs.lemmas.Bool.ltb-true n n e))

-- no place has it
pub no_place : {N : Type 0} (p : N → Bool) (ns : List N) → AllByRecursion (λ n. p n ≡ false) ns → position p ns ≡ None
no_place p ns all = ap (λ (k : ℕ). cond (nat_lt k (length ns)) (Some k) None) (all_pass p ns all) ∙ ap (λ (b : Bool). cond b (Some (length ns)) None) (not_below (length ns))

-- a place among what is made of others
pub same_place : {N M : Type 0} (f : M → N) (p : N → Bool) (ms : List M) → position p (map f ms) ≡ position (λ m. p (f m)) ms
same_place f p ms = ap (λ (n : ℕ). cond (nat_lt n (length (map f ms))) (Some n) None) (prefix f p ms)
    ∙ ap (λ (n : ℕ). cond (nat_lt (prefix_len (λ m. not (p (f m))) ms) n) (Some (prefix_len (λ m. not (p (f m))) ms)) None) (long f ms)
  where
    prefix : {N M : Type 0} (f : M → N) (p : N → Bool) (ms : List M) → prefix_len (λ n. not (p n)) (map f ms) ≡ prefix_len (λ m. not (p (f m))) ms
    prefix f p [] = refl
    prefix f p (m ∷ ms) = ap (λ (n : ℕ). cond (not (p (f m))) (1 + n) 0) (prefix f p ms)

    long : {N M : Type 0} (f : M → N) (ms : List M) → length (map f ms) ≡ length ms
    long f [] = refl
    long f (m ∷ ms) = ap suc (long f ms)

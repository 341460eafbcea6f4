-- Fronts of lists, the lines of one number, and facts about each element.
use Rattle.std.proofs.Common.{◌≡◌, ◌≢◌, ℕ, zero, suc, ◌≤◌, max, Bool, true, false, cond, eqb, ltb, ltb-true, ltb-false, ne_eqb, List, [], ◌∷◌, ◌++◌, length, take, drop, set, sym, refl, ap, ◌∙◌, subst, ⊎_elim, arith, append_assoc, append-nil, take-append-drop}
use Rattle.std.proofs.Math.Seq.{take-append_seam}
use Rattle.std.proofs.lemmas.List.{take-append-le, append_cancel_left}
use Rattle.std.proofs.lemmas.List.Elements.{filter-append}
use Rattle.std.specs.List.{AllByRecursion}
use mathlib.Core.Option.{some, some-injective, some-ne-none}
use lib.ListN.{get_elem?}
use Rattle.atomic_table.proofs.Lists.{at_set}
use Rattle.nb_turn.specs.Lines.{StartsWith, longer, lines_by, Lone, LonePart, OwnAre}
use Rattle.nb_turn.specs.Views.{first_sees}

module _ {A : Type 0} where
  -- a fact about each element, by its place
  pub all_at : (P : A → Type 0) (xs : List A) → ((k : ℕ) (x : A) → get_elem? xs k ≡ some x → P x) → AllByRecursion P xs
  all_at P [] each = tt
  all_at P (x ∷ xs) each = (each zero x refl, all_at P xs (λ k y e. each (suc k) y e))

  -- a fact about each element of a list with one of them replaced
  pub each_set : (P : ℕ → A → Type 0) (xs : List A) (at : ℕ) (new : A) → P at new → ((k : ℕ) (x : A) → k ≢ at → get_elem? xs k ≡ some x → P k x)
      → (k : ℕ) (x : A) → get_elem? (set xs at new) k ≡ some x → P k x
  each_set P xs at new here others k x e =
      ⊎_elim (λ (t : (k ≡ at) × (new ≡ x)). subst (λ (z : ℕ × A). P z.0 z.1) (λ i. (sym t.0 i, t.1 i)) here)
      (λ (t : (k ≢ at) × (get_elem? xs k ≡ some x)). others k x t.0 t.1) (at_set xs at k new x e)

  pub both_empty : (xs ys : List A) → xs ++ ys ≡ [] → (xs ≡ []) × (ys ≡ [])
  both_empty [] ys e = (refl, e)
  both_empty (x ∷ xs) ys e = let n : suc (length (xs ++ ys)) ≡ 0 = ap length e in absurd (omega arith)

  -- a list of no length is empty
  pub no_length : (xs : List A) → length xs ≡ 0 → xs ≡ []
  no_length [] e = refl
  no_length (x ∷ xs) e = absurd (omega arith)

  pub drop_front : (xs ys : List A) → drop (length xs) (xs ++ ys) ≡ ys
  drop_front [] ys = refl
  drop_front (x ∷ xs) ys = drop_front xs ys

  -- where a list is a front and a rest, the front is as many of its elements
  pub front_is : (all front rest : List A) → all ≡ front ++ rest → take (length front) all ≡ front
  front_is all front rest e = ap (take (length front)) e ∙ take-append_seam front rest

  pub rest_is : (all front rest : List A) → all ≡ front ++ rest → drop (length front) all ≡ rest
  rest_is all front rest e = ap (drop (length front)) e ∙ drop_front front rest

module _ {L : Type 0} where
  pub starts-refl : (a : List L) → StartsWith a a
  starts-refl a = ([], sym (append-nil a))

  pub starts-trans : (a b c : List L) → StartsWith a b → StartsWith b c → StartsWith a c
  starts-trans a b c (m, e) (n, f) = (n ++ m, e ∙ ap (λ (x : List L). x ++ m) f ∙ append_assoc c n m)

  -- a longer list begins with all that the list begins with
  pub starts-more : (a more front : List L) → StartsWith a front → StartsWith (a ++ more) front
  starts-more a more front s = starts-trans (a ++ more) a front (more, refl) s

  -- of two fronts of one list the longer begins with the other
  pub both_fronts : (all a b : List L) → StartsWith all a → StartsWith all b → length a ≤ length b → StartsWith b a
  both_fronts all a b (m, e) (n, f) shorter =
      let front : take (length a) b ≡ a = sym (take-append-le (length a) b n shorter) ∙ ap (take (length a)) (sym f) ∙ front_is all a m e in
      (drop (length a) b, sym (take-append-drop (length a) b) ∙ ap (λ (x : List L). x ++ drop (length a) b) front)

  -- the longer of two fronts is a front, and begins with both
  pub longer_fronts : (all a b : List L) → StartsWith all a → StartsWith all b → StartsWith all (longer a b) × StartsWith (longer a b) a × StartsWith (longer a b) b
  longer_fronts all a b s t = part (ltb (length a) (length b)) refl where
    part : (c : Bool) → ltb (length a) (length b) ≡ c → StartsWith all (cond c b a) × StartsWith (cond c b a) a × StartsWith (cond c b a) b
    part true e = let less = ltb-true (length a) (length b) e in (t, both_fronts all a b s t (omega arith), starts-refl b)
    part false e = let most = ltb-false (length a) (length b) e in (s, starts-refl a, both_fronts all b a t s most)

  pub longer-same : (a : List L) → longer a a ≡ a
  longer-same a = part (ltb (length a) (length a)) where
    part : (c : Bool) → cond c a a ≡ a
    part true = refl
    part false = refl

  pub longer-length : (a b : List L) → length (longer a b) ≡ max (length a) (length b)
  longer-length a b = part (ltb (length a) (length b)) refl where
    part : (c : Bool) → ltb (length a) (length b) ≡ c → length (cond c b a) ≡ max (length a) (length b)
    part true e = let less = ltb-true (length a) (length b) e in omega arith
    part false e = let most = ltb-false (length a) (length b) e in omega arith

  -- a fact about the parts of a pass that has now seen s, from one about its number and one about the others
  pub at_firsts : (P : ℕ → ℕ × List L → Type 0) (s : List L) (ps : List (ℕ × List L)) → ((p : ℕ × List L) → get_elem? ps 0 ≡ some p → P 0 (p.0, s))
      → ((k : ℕ) (p : ℕ × List L) → get_elem? ps (suc k) ≡ some p → P (suc k) p) → (k : ℕ) (p : ℕ × List L) → get_elem? (first_sees s ps) k ≡ some p → P k p
  at_firsts P s [] first others k p e = absurd (some-ne-none p (sym e))
  at_firsts P s (q ∷ qs) first others zero p e = subst (P 0) (some-injective (q.0, s) p e) (first q refl)
  at_firsts P s (q ∷ qs) first others (suc k) p e = others k p e

  pub first_again : (a b : List L) (ps : List (ℕ × List L)) → first_sees a (first_sees b ps) ≡ first_sees a ps
  first_again a b [] = refl
  first_again a b (p ∷ ps) = refl

  pub length-first_sees : (s : List L) (ps : List (ℕ × List L)) → length (first_sees s ps) ≡ length ps
  length-first_sees s [] = refl
  length-first_sees s (p ∷ ps) = refl

module _ {L : Type 0} (maker : L → ℕ) where
  pub by-append : (n : ℕ) (a b : List L) → lines_by maker n (a ++ b) ≡ lines_by maker n a ++ lines_by maker n b
  by-append n a b = filter-append (λ (l : L). eqb (maker l) n) a b

  -- a line of another number
  pub by-other : (n : ℕ) (l : L) → maker l ≢ n → lines_by maker n (l ∷ []) ≡ []
  by-other n l other = ap (λ (b : Bool). cond b (l ∷ []) []) (ne_eqb (maker l) n other)

  -- where each line is of another number there is none of it
  pub by-none : (n : ℕ) (lines : List L) → ((k : ℕ) (l : L) → get_elem? lines k ≡ some l → maker l ≢ n) → lines_by maker n lines ≡ []
  by-none n [] other = refl
  by-none n (l ∷ ls) other = by-append n (l ∷ []) ls ∙ ap (λ (x : List L). x ++ lines_by maker n ls) (by-other n l (other 0 l refl)) ∙ by-none n ls (λ k x e. other (suc k) x e)

  pub lone-refl : (n : ℕ) (a : List L) → Lone maker n a a
  lone-refl n a = ([], sym (append-nil a), refl)

  -- a line of another number behind
  pub lone-more : (n : ℕ) (all front : List L) (l : L) → maker l ≢ n → Lone maker n all front → Lone maker n (all ++ l ∷ []) front
  lone-more n all front l other (more, e, none) =
      (more ++ l ∷ [], ap (λ (x : List L). x ++ l ∷ []) e ∙ append_assoc front more (l ∷ []), by-append n more (l ∷ []) ∙ ap (λ (x : List L). x ++ lines_by maker n (l ∷ [])) none ∙ by-other n l other)

  pub lone_starts : (n : ℕ) (all front : List L) → Lone maker n all front → StartsWith all front
  lone_starts n all front (more, e, none) = (more, e)

  -- between a front and a rest that follows it there is none, and in that rest there is none
  pub lone_between : (n : ℕ) (all seen front : List L) → Lone maker n all front → StartsWith seen front → (others : List L) → all ≡ seen ++ others
      → Lone maker n seen front × (lines_by maker n others ≡ [])
  lone_between n all seen front (more, e, none) (between, f) others g =
      let same : more ≡ between ++ others = append_cancel_left front more (between ++ others) (sym e ∙ g ∙ ap (λ (x : List L). x ++ others) f ∙ append_assoc front between others) in
      let parts = both_empty (lines_by maker n between) (lines_by maker n others) (sym (by-append n between others) ∙ ap (lines_by maker n) (sym same) ∙ none) in
      ((between, f, parts.0), parts.1)

  -- its own lines are exactly those of its number
  pub lone_own : (all : List L) (p : ℕ × List L) → LonePart maker all p → OwnAre maker all p
  lone_own all p (more, e, none) = ap (lines_by maker p.0) e ∙ by-append p.0 p.1 more ∙ ap (λ (x : List L). lines_by maker p.0 p.1 ++ x) none ∙ append-nil (lines_by maker p.0 p.1)

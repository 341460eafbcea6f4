-- A map has the first value of each key of some pairs, and of one more.
use Rattle.std.proofs.Common.{◌≡◌, Bool, true, false, cond, List, [], ◌∷◌, ◌++◌, Option, Some, None, refl, sym, ap, subst, ◌∙◌}
use Rattle.std.specs.Prelude.{is_some}
use Rattle.std.specs.declared.cmp.Ordering.{Ordering}
use Rattle.std.specs.Ordering.{is_eq}
use Rattle.std.specs.BTreeMap.{is_at}
use Rattle.std.specs.Map.{lookup}
use Rattle.std.proofs.lemmas.Bool.{false≢true}
use Rattle.nb_numbers.specs.Beside.{AreFirsts}

-- the first of two, where it is there
abbrev pub or_at : {X : Type 0} → Option X → Option X → Option X
or_at (Some n) other = Some n
or_at None other = other

pub or_none : {X : Type 0} (o : Option X) → or_at o None ≡ o
or_none (Some n) = refl
or_none None = refl

-- what pairs with one more have for a key is what they had, or else the one more's
pushed : {K X : Type 0} (test : K → Bool) (k : K) (x : X) (pairs : List (K × X)) → lookup test (pairs ++ (k, x) ∷ []) ≡ or_at (lookup test pairs) (cond (test k) (Some x) None)
pushed test k x [] = refl
pushed test k x (p ∷ pairs) = by (test p.0) (pushed test k x pairs)
  where
    by : (b : Bool) → lookup test (pairs ++ (k, x) ∷ []) ≡ or_at (lookup test pairs) (cond (test k) (Some x) None)
        → cond b (Some p.1) (lookup test (pairs ++ (k, x) ∷ [])) ≡ or_at (cond b (Some p.1) (lookup test pairs)) (cond (test k) (Some x) None)
    by true rest = refl
    by false rest = rest

pub none_where_false : {X : Type 0} (o : Option X) (b : Bool) → b ≡ is_some o → b ≡ false → o ≡ None
none_where_false None b is e = refl
none_where_false (Some n) b is e = absurd (false≢true (sym e ∙ is))

at_once : {K : Type 0} (cmp : K → K → Ordering) (eq : K → K → Bool) → ((x y : K) → eq x y ≡ is_eq (cmp x y)) → (k q : K) (b : Bool) → eq k q ≡ b → is_at (cmp k) q ≡ b
at_once cmp eq ties k q b e = sym (ties k q) ∙ e

module _ {K X : Type 0} (cmp : K → K → Ordering) (eq : K → K → Bool) where
  pub same_firsts : (entries later pairs new : List (K × X)) → AreFirsts cmp eq entries pairs → later ≡ entries → new ≡ pairs → AreFirsts cmp eq later new
  same_firsts entries later pairs new firsts a b = subst (λ (l : List (K × X)). AreFirsts cmp eq l new) (sym a) (subst (λ (l : List (K × X)). AreFirsts cmp eq entries l) (sym b) firsts)

  -- what a map has with a value set or taken out at a key
  abbrev pub Puts : List (K × X) → List (K × X) → K → Option X → Type 0
  Puts entries later k w = (q : K) → lookup (is_at (cmp q)) later ≡ cond (is_at (cmp k) q) w (lookup (is_at (cmp q)) entries)

  module _ (ties : (x y : K) → eq x y ≡ is_eq (cmp x y)) (one_key : (x y : K) → eq x y ≡ true → x ≡ y) (symm : (x y : K) → eq x y ≡ eq y x) where
    none_at : (pairs : List (K × X)) (k q : K) → eq k q ≡ true → lookup (eq k) pairs ≡ None → lookup (eq q) pairs ≡ None
    none_at pairs k q e none = subst (λ (x : K). lookup (eq x) pairs ≡ None) (one_key k q e) none

    pub more_firsts : (entries later pairs new : List (K × X)) (k : K) (x : X) → AreFirsts cmp eq entries pairs → lookup (eq k) pairs ≡ None → Puts entries later k (Some x)
        → new ≡ pairs ++ (k, x) ∷ [] → AreFirsts cmp eq later new
    more_firsts entries later pairs new k x firsts none puts new_is = record { each = λ q. puts q ∙ one q (eq k q) refl ∙ sym (ap (λ (l : List (K × X)). lookup (eq q) l) new_is) }
      where
        one : (q : K) (b : Bool) → eq k q ≡ b → cond (is_at (cmp k) q) (Some x) (lookup (is_at (cmp q)) entries) ≡ lookup (eq q) (pairs ++ (k, x) ∷ [])
        one q true e =
            ap (λ (b : Bool). cond b (Some x) (lookup (is_at (cmp q)) entries)) (at_once cmp eq ties k q true e)
            ∙ sym (ap (λ (b : Bool). cond b (Some x) None) (symm q k ∙ e))
            ∙ sym (ap (λ (o : Option X). or_at o (cond (eq q k) (Some x) None)) (none_at pairs k q e none))
            ∙ sym (pushed (eq q) k x pairs)
        one q false e =
            ap (λ (b : Bool). cond b (Some x) (lookup (is_at (cmp q)) entries)) (at_once cmp eq ties k q false e)
            ∙ firsts.each q
            ∙ sym (or_none (lookup (eq q) pairs))
            ∙ sym (ap (λ (b : Bool). or_at (lookup (eq q) pairs) (cond b (Some x) None)) (symm q k ∙ e))
            ∙ sym (pushed (eq q) k x pairs)

    -- a key that was new is taken out again
    pub back_firsts : (entries later last pairs new : List (K × X)) (k : K) (x : X) → AreFirsts cmp eq entries pairs → lookup (eq k) pairs ≡ None → Puts entries later k (Some x)
        → Puts later last k None → new ≡ pairs → AreFirsts cmp eq last new
    back_firsts entries later last pairs new k x firsts none puts takes new_is = record { each = λ q. takes q ∙ one q (eq k q) refl ∙ sym (ap (λ (l : List (K × X)). lookup (eq q) l) new_is) }
      where
        one : (q : K) (b : Bool) → eq k q ≡ b → cond (is_at (cmp k) q) None (lookup (is_at (cmp q)) later) ≡ lookup (eq q) pairs
        one q true e = ap (λ (b : Bool). cond b None (lookup (is_at (cmp q)) later)) (at_once cmp eq ties k q true e) ∙ sym (none_at pairs k q e none)
        one q false e =
            ap (λ (b : Bool). cond b None (lookup (is_at (cmp q)) later)) (at_once cmp eq ties k q false e)
            ∙ puts q
            ∙ ap (λ (b : Bool). cond b (Some x) (lookup (is_at (cmp q)) entries)) (at_once cmp eq ties k q false e)
            ∙ firsts.each q

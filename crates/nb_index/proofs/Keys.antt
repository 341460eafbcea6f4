-- What is found among puts.
use Rattle.std.proofs.Common.{◌≡◌, ℕ, suc, ◌+◌, ◌<◌, ◌≤◌, Bool, true, false, cond, ltb, List, [], ◌∷◌, ◌++◌, Option, Some, None, length, take, drop, get_or, arith, refl, sym, ap, subst, ◌∙◌, take-append-drop, length-take}
use Rattle.std.proofs.lemmas.Bool.{ltb-true, ltb-false}
use Rattle.std.proofs.lemmas.List.{take_more, take-take, get_or-take, get_or_push, get_or_append_left, take-append-le, take_at, length_push}
use Rattle.std.proofs.lemmas.Option.{same_Some}
use Rattle.std.proofs.lemmas.Slice.Eq.{bytes_eq-Decides}
use Rattle.std.specs.List.{Contains}
use Rattle.std.specs.Option.{option_or, IsNone}
use Rattle.std.specs.Str.{bytes_eq}
use Rattle.nb_index.specs.declared.put.Put.{Put}
use Rattle.nb_index.specs.Puts.{value_in, AreNew}

-- the answer of one put
abbrev pub answer : Put → List ℕ → Option ℕ
answer p k = cond (bytes_eq p.key k) (Some p.value) None

-- the first of two lists of puts answers, and where it does not, the second
pub value_append : (k : List ℕ) (ps qs : List Put) → value_in (ps ++ qs) k ≡ option_or (value_in ps k) (value_in qs k)
value_append k [] qs = refl
value_append k (p ∷ ps) qs = part (bytes_eq p.key k) (value_append k ps qs) where
  part : (b : Bool) → value_in (ps ++ qs) k ≡ option_or (value_in ps k) (value_in qs k)
      → cond b (Some p.value) (value_in (ps ++ qs) k) ≡ option_or (cond b (Some p.value) (value_in ps k)) (value_in qs k)
  part true rest = refl
  part false rest = rest

-- one put more answers where those before it do not
pub value_more : (k : List ℕ) (ps : List Put) (n : ℕ) (d : Put) → n < length ps
    → value_in (take (n + 1) ps) k ≡ option_or (value_in (take n ps) k) (answer (get_or ps n d) k)
value_more k ps n d within = rw (take_more ps n d within) (value_append k (take n ps) (get_or ps n d ∷ []))

-- a put of another key answers nothing
pub answer-other : (p : Put) (k : List ℕ) → (p.key ≡ k → ⊥) → answer p k ≡ None
answer-other p k other = part (bytes_eq p.key k) refl where
  part : (b : Bool) → bytes_eq p.key k ≡ b → cond b (Some p.value) None ≡ None
  part true same = absurd (other ((bytes_eq-Decides p.key k).0 same))
  part false differs = refl

-- a put of this key answers its number
pub answer-same : (p : Put) (k : List ℕ) → p.key ≡ k → answer p k ≡ Some p.value
answer-same p k same = rw ((bytes_eq-Decides p.key k).1 same) refl

-- a put of another key can be left out at the end
pub passed : (k : List ℕ) (ps : List Put) (n : ℕ) (d : Put) → n < length ps → ((get_or ps n d).key ≡ k → ⊥)
    → value_in (take (n + 1) ps) k ≡ value_in (take n ps) k
passed k ps n d within other = value_more k ps n d within ∙ rw (answer-other (get_or ps n d) k other) (same (value_in (take n ps) k)) where
  same : (x : Option ℕ) → option_or x None ≡ x
  same None = refl
  same (Some v) = refl

-- a put of this key is the first of it, since the key was absent
pub hit : (k : List ℕ) (ps : List Put) (n : ℕ) (d : Put) → AreNew ps → n < length ps → (get_or ps n d).key ≡ k
    → value_in (take (n + 1) ps) k ≡ Some (get_or ps n d).value
hit k ps n d new within same =
    value_more k ps n d within
    ∙ rw (answer-same (get_or ps n d) k same) (first (value_in (take n ps) k) (subst (λ (q : List ℕ). IsNone (value_in (take n ps) q)) same (new n d within)))
  where
    first : (x : Option ℕ) → IsNone x → option_or x (Some (get_or ps n d).value) ≡ Some (get_or ps n d).value
    first None none = refl
    first (Some v) none = absurd cc

-- what a front answers the whole answers
pub value_front : (k : List ℕ) (ps : List Put) (n v : ℕ) → value_in (take n ps) k ≡ Some v → value_in ps k ≡ Some v
value_front k ps n v found =
    ap (λ (qs : List Put). value_in qs k) (sym (take-append-drop n ps)) ∙ value_append k (take n ps) (drop n ps) ∙ rw found refl

-- keys that were new are new behind a put of a key that was absent
pub new_push : (ps : List Put) (p : Put) → AreNew ps → IsNone (value_in ps p.key) → AreNew (ps ++ p ∷ [])
new_push ps p new absent i d inside = part (omega (arith, length_push ps p)) (ltb i (length ps)) refl where
  part : i < length ps + 1 → (b : Bool) → ltb i (length ps) ≡ b → IsNone (value_in (take i (ps ++ p ∷ [])) (get_or (ps ++ p ∷ []) i d).key)
  part inside true old =
      let front : i < length ps = ltb-true i (length ps) old in
      let upto : i ≤ length ps = omega arith in
      rw (take-append-le i ps (p ∷ []) upto, get_or_append_left ps (p ∷ []) d i front) (new i d front)
  part inside false last =
      let here : length ps ≡ i = omega (arith, ltb-false i (length ps) last) in
      rw (take_at ps (p ∷ []) i here, get_or_push ps p d i here) absent

-- keys that were new are new without the last puts
pub new_take : (ps : List Put) (n : ℕ) → AreNew ps → AreNew (take n ps)
new_take ps n new i d inside =
    let front : i < n = omega (arith, length-take n ps) in
    let upto : i ≤ n = omega arith in
    rw (take-take i n ps upto, get_or-take n ps i d front) (new i d (omega (arith, length-take n ps)))

-- what is found was put
pub found-put : (k : List ℕ) (v : ℕ) (ps : List Put) → value_in ps k ≡ Some v → Contains ps (record { key = k; value = v })
found-put k v [] found = absurd cc
found-put k v (p ∷ ps) found = part (bytes_eq p.key k) refl (found-put k v ps) found where
  part : (b : Bool) → bytes_eq p.key k ≡ b → (value_in ps k ≡ Some v → Contains ps (record { key = k; value = v }))
      → cond b (Some p.value) (value_in ps k) ≡ Some v → Contains (p ∷ ps) (record { key = k; value = v })
  part true same rest found =
      let key : p.key ≡ k = (bytes_eq-Decides p.key k).0 same in
      let value : p.value ≡ v = same_Some p.value v found in
      (0, omega arith, ap (λ (q : List ℕ). put_of q p.value) key ∙ ap (put_of k) value)
    where
      put_of : List ℕ → ℕ → Put
      put_of q n = record { key = q; value = n }
  part false other rest found =
      let behind : Contains ps (record { key = k; value = v }) = rest found in
      (suc behind.0, omega (arith, behind.1), behind.2)

-- what was put is found
pub put-found : (k : List ℕ) (v : ℕ) (ps : List Put) → AreNew ps → Contains ps (record { key = k; value = v }) → value_in ps k ≡ Some v
put-found k v ps new put =
    let p : Put = record { key = k; value = v } in
    let is : get_or ps put.0 p ≡ p = put.2 in
    value_front k ps (put.0 + 1) v
    (hit k ps put.0 p new put.1 (ap (λ (q : Put). q.key) is) ∙ ap (λ (q : Put). Some q.value) is)

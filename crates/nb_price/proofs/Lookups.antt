-- Products by their numbers, in a list and in pairs.
use Rattle.std.proofs.Common.{◌≡◌, ℕ, zero, suc, ◌+◌, ◌<◌, ◌≤◌, Bool, true, false, List, [], ◌∷◌, ◌++◌, map, length, get_or, slice_get, position, option_map, option_copied, Option, None, Some, refl, sym, ap, ◌∙◌, arith, ltb-true, ltb-false}
use Rattle.std.specs.Prelude.{nat_eq, nat_lt, not, cond, is_some}
use Rattle.std.specs.Borrow.{Bor}
use Rattle.std.specs.List.{AllZip, position_or_len}
use Rattle.std.specs.Map.{lookup, keys_of}
use Rattle.std.proofs.lemmas.List.{length-map, map-append}
use Rattle.std.proofs.lemmas.Option.{slice_get-get_or}
use Rattle.std.proofs.lemmas.Bool.{false≢true}
use Rattle.nb_price.specs.declared.catalogue.Goods.{Goods}
use Rattle.nb_price.specs.Products.{Product, product_at, product_in}

-- ---- by places

by_place : (p : ℕ → Bool) (entries : List (ℕ × Goods)) → lookup p entries ≡ option_map (λ e. e.1) (slice_get entries (position_or_len p (keys_of entries)))
by_place p [] = refl
by_place p (e ∷ entries) = by (p e.0) (by_place p entries)
  where
    onward : (n : ℕ) → slice_get (e ∷ entries) (1 + n) ≡ slice_get entries n
    onward n = let next : 1 + n ≡ suc n = omega arith in ap (slice_get (e ∷ entries)) next

    by : (b : Bool) → lookup p entries ≡ option_map (λ e. e.1) (slice_get entries (position_or_len p (keys_of entries)))
        → cond b (Some e.1) (lookup p entries) ≡ option_map (λ e. e.1) (slice_get (e ∷ entries) (cond (not b) (1 + position_or_len p (keys_of entries)) 0))
    by true rest = refl
    by false rest = rest ∙ sym (ap (option_map (λ e. e.1)) (onward (position_or_len p (keys_of entries))))

past_end : (entries : List (ℕ × Goods)) (n : ℕ) → length (keys_of entries) ≤ n → slice_get entries n ≡ None
past_end [] n h = refl
past_end (e ∷ entries) zero h = absurd (omega (arith, h))
past_end (e ∷ entries) (suc n) h = past_end entries n (omega (arith, h))

some_place : (x y : ℕ) → ◌≡◌ {A = Option ℕ} (Some x) (Some y) → x ≡ y
some_place x y e = cc

-- the goods at the place of a number are what its look-up gives
pub held_at : (entries : List (ℕ × Goods)) (numbers : List ℕ) (id at : ℕ) (e : ℕ × Goods) → numbers ≡ keys_of entries → Some at ≡ position (nat_eq id) numbers → slice_get entries at ≡ Some e
    → Some e.1 ≡ lookup (nat_eq id) entries
held_at entries numbers id at e keys is there =
    let n : ℕ = position_or_len (nat_eq id) (keys_of entries) in
    let same : at ≡ n = by (nat_lt n (length (keys_of entries))) (is ∙ ap (position (nat_eq id)) keys) in
    sym (by_place (nat_eq id) entries ∙ ap (λ (i : ℕ). option_map (λ (p : ℕ × Goods). p.1) (slice_get entries i)) (sym same) ∙ ap (option_map (λ (p : ℕ × Goods). p.1)) there)
  where
    by : (b : Bool) → Some at ≡ cond b (Some (position_or_len (nat_eq id) (keys_of entries))) None → at ≡ position_or_len (nat_eq id) (keys_of entries)
    by true e = some_place at (position_or_len (nat_eq id) (keys_of entries)) e
    by false e = absurd (no_such at e)
      where
        no_such : (x : ℕ) → ◌≡◌ {A = Option ℕ} (Some x) None → ⊥
        no_such x e = cc

pub held_here : (entries : List (ℕ × Goods)) (numbers : List ℕ) (id at : ℕ) (e d : ℕ × Goods) → numbers ≡ keys_of entries → Some at ≡ position (nat_eq id) numbers → at < length numbers
    → e ≡ get_or entries at d → Some e.1 ≡ lookup (nat_eq id) entries
held_here entries numbers id at e d keys is within here =
    let inside : at < length entries = omega (arith, within, ap length keys, length-map entries (λ (p : ℕ × Goods). p.0)) in
    held_at entries numbers id at e keys is (slice_get-get_or entries at d inside ∙ ap Some (sym here))

-- a number that has no place is not looked up
pub none_held : (entries : List (ℕ × Goods)) (numbers : List ℕ) (id : ℕ) → numbers ≡ keys_of entries → position (nat_eq id) numbers ≡ None → lookup (nat_eq id) entries ≡ None
none_held entries numbers id keys is =
    let n : ℕ = position_or_len (nat_eq id) (keys_of entries) in
    let past : length (keys_of entries) ≤ n = ltb-false n (length (keys_of entries)) (by (nat_lt n (length (keys_of entries))) (sym (ap (position (nat_eq id)) keys) ∙ is)) in
    by_place (nat_eq id) entries ∙ ap (option_map (λ (p : ℕ × Goods). p.1)) (past_end entries n past)
  where
    by : (b : Bool) → cond b (Some (position_or_len (nat_eq id) (keys_of entries))) None ≡ None → b ≡ false
    by true e = absurd (no_such (position_or_len (nat_eq id) (keys_of entries)) e)
      where
        no_such : (x : ℕ) → ◌≡◌ {A = Option ℕ} (Some x) None → ⊥
        no_such x e = cc
    by false e = refl

-- a number that is not looked up has no place
pub no_place : (entries : List (ℕ × Goods)) (numbers : List ℕ) (id : ℕ) → numbers ≡ keys_of entries → lookup (nat_eq id) entries ≡ None → position (nat_eq id) numbers ≡ None
no_place entries numbers id keys none = ap (position (nat_eq id)) keys ∙ by (nat_lt n (length (keys_of entries))) refl
  where
    n : ℕ
    n = position_or_len (nat_eq id) (keys_of entries)

    stands : (es : List (ℕ × Goods)) (i : ℕ) → i < length (keys_of es) → (e : ℕ × Goods) × (slice_get es i ≡ Some e)
    stands [] i h = absurd (omega (arith, h))
    stands (e ∷ es) zero h = (e, refl)
    stands (e ∷ es) (suc i) h = stands es i (omega (arith, h))

    no_such : (x : Goods) → ◌≡◌ {A = Option Goods} (Some x) None → ⊥
    no_such x e = cc

    by : (b : Bool) → nat_lt n (length (keys_of entries)) ≡ b → cond b (Some n) None ≡ None
    by true e =
        let there = stands entries n (ltb-true n (length (keys_of entries)) e) in
        absurd (no_such there.0.1 (sym (by_place (nat_eq id) entries ∙ ap (option_map (λ (p : ℕ × Goods). p.1)) there.1) ∙ none))
    by false e = refl

-- ---- in a list

-- a product that is looked up, the list has
pub held : (entries : List (ℕ × Goods)) (id : ℕ) (g : Goods) → lookup (nat_eq id) entries ≡ Some g
    → (p : Product) × (product_in (map product_at entries) id ≡ Some p) × (g.price ≡ p.price) × (g.bytes.items ≡ p.goods)
held [] id g e = absurd (no_none g e)
  where
    no_none : (x : Goods) → ◌≡◌ {A = Option Goods} None (Some x) → ⊥
    no_none x e = cc
held (e ∷ entries) id g found = by (held entries id g) (nat_eq id e.0) refl
  where
    some_is : (x y : Goods) → ◌≡◌ {A = Option Goods} (Some x) (Some y) → x ≡ y
    some_is x y e = cc

    by : (lookup (nat_eq id) entries ≡ Some g → (p : Product) × (product_in (map product_at entries) id ≡ Some p) × (g.price ≡ p.price) × (g.bytes.items ≡ p.goods))
        → (b : Bool) → nat_eq id e.0 ≡ b → (p : Product) × (product_in (map product_at (e ∷ entries)) id ≡ Some p) × (g.price ≡ p.price) × (g.bytes.items ≡ p.goods)
    by rest true is =
        let same : e.1 ≡ g = some_is e.1 g (sym (ap (λ (b : Bool). cond b (Some e.1) (lookup (nat_eq id) entries)) is) ∙ found) in
        (product_at e, ap (λ (b : Bool). cond b (Some (product_at e)) (product_in (map product_at entries) id)) is, ap (λ (x : Goods). x.price) (sym same), ap (λ (x : Goods). x.bytes.items) (sym same))
    by rest false is =
        let inner = rest (sym (ap (λ (b : Bool). cond b (Some e.1) (lookup (nat_eq id) entries)) is) ∙ found) in
        (inner.0, ap (λ (b : Bool). cond b (Some (product_at e)) (product_in (map product_at entries) id)) is ∙ inner.1, inner.2, inner.3)

-- one that is not looked up, the list does not have
pub not_held : (entries : List (ℕ × Goods)) (id : ℕ) → lookup (nat_eq id) entries ≡ None → product_in (map product_at entries) id ≡ None
not_held [] id e = refl
not_held (e ∷ entries) id none = by (not_held entries id) (nat_eq id e.0) refl
  where
    no_some : (x : Goods) → ◌≡◌ {A = Option Goods} (Some x) None → ⊥
    no_some x e = cc

    by : (lookup (nat_eq id) entries ≡ None → product_in (map product_at entries) id ≡ None) → (b : Bool) → nat_eq id e.0 ≡ b → product_in (map product_at (e ∷ entries)) id ≡ None
    by rest true is = absurd (no_some e.1 (sym (ap (λ (b : Bool). cond b (Some e.1) (lookup (nat_eq id) entries)) is) ∙ none))
    by rest false is =
        ap (λ (b : Bool). cond b (Some (product_at e)) (product_in (map product_at entries) id)) is
        ∙ rest (sym (ap (λ (b : Bool). cond b (Some e.1) (lookup (nat_eq id) entries)) is) ∙ none)

-- one that the list does not have, is not looked up
pub not_in_map : (entries : List (ℕ × Goods)) (id : ℕ) → product_in (map product_at entries) id ≡ None → lookup (nat_eq id) entries ≡ None
not_in_map [] id e = refl
not_in_map (e ∷ entries) id none = by (not_in_map entries id) (nat_eq id e.0) refl
  where
    no_some : (x : Product) → ◌≡◌ {A = Option Product} (Some x) None → ⊥
    no_some x e = cc

    by : (product_in (map product_at entries) id ≡ None → lookup (nat_eq id) entries ≡ None) → (b : Bool) → nat_eq id e.0 ≡ b → lookup (nat_eq id) (e ∷ entries) ≡ None
    by rest true is = absurd (no_some (product_at e) (sym (ap (λ (b : Bool). cond b (Some (product_at e)) (product_in (map product_at entries) id)) is) ∙ none))
    by rest false is =
        ap (λ (b : Bool). cond b (Some e.1) (lookup (nat_eq id) entries)) is
        ∙ rest (sym (ap (λ (b : Bool). cond b (Some (product_at e)) (product_in (map product_at entries) id)) is) ∙ none)

-- a product that the list has is there
pub there_is : (products : List Product) (id : ℕ) (p : Product) → product_in products id ≡ Some p → product_in products id ≡ None → ⊥
there_is products id p found none = no_none p (sym none ∙ found)
  where
    no_none : (x : Product) → ◌≡◌ {A = Option Product} None (Some x) → ⊥
    no_none x e = cc

-- the products of entries with one more
pub pushed : (entries new : List (ℕ × Goods)) (id price : ℕ) (bytes : List ℕ) (g : Goods) → new ≡ entries ++ (id, g) ∷ [] → g.price ≡ price → g.bytes.items ≡ bytes
    → map product_at new ≡ map product_at entries ++ record { id = id; price = price; goods = bytes } ∷ []
pushed entries new id price bytes g e a b =
    ap (map product_at) e ∙ map-append product_at entries ((id, g) ∷ []) ∙ rw (a, b) refl

-- entries that were copied have the same products
pub copied : (entries copies : List (ℕ × Goods)) → AllZip (λ p q. (q.0 ≡ p.0) × ((q.1.price ≡ p.1.price) × (q.1.bytes.items ≡ p.1.bytes.items))) entries copies
    → map product_at copies ≡ map product_at entries
copied [] [] h = refl
copied [] (q ∷ copies) h = absurd h
copied (p ∷ entries) [] h = absurd h
copied (p ∷ entries) (q ∷ copies) h =
    let inner = copied entries copies h.1 in
    rw (h.0.0, h.0.1.0, h.0.1.1, inner) refl

-- an answer that is something is not nothing
pub some_is_not_none : (o : Option Goods) → is_some o ≡ true → o ≡ None → ⊥
some_is_not_none None is e = absurd (false≢true is)
some_is_not_none (Some g) is e = no_some g e
  where
    no_some : (x : Goods) → ◌≡◌ {A = Option Goods} (Some x) None → ⊥
    no_some x e = cc

pub none_where_not_some : (o : Option Goods) → is_some o ≡ false → o ≡ None
none_where_not_some None is = refl
none_where_not_some (Some g) is = absurd (false≢true (sym is))

-- what was found and what it points to are both there, or neither
pub copied_some : (o : Option (Bor Goods)) → is_some (option_copied o) ≡ is_some o
copied_some None = refl
copied_some (Some g) = refl

-- pairs that were copied have the same numbers
pub copied_keys : (entries copies : List (ℕ × Goods)) → AllZip (λ p q. (q.0 ≡ p.0) × ((q.1.price ≡ p.1.price) × (q.1.bytes.items ≡ p.1.bytes.items))) entries copies
    → keys_of copies ≡ keys_of entries
copied_keys [] [] h = refl
copied_keys [] (q ∷ copies) h = absurd h
copied_keys (p ∷ entries) [] h = absurd h
copied_keys (p ∷ entries) (q ∷ copies) h = rw (h.0.0, copied_keys entries copies h.1) refl

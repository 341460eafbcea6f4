-- What is chosen among the offers for groups is the least price, and the smallest group that has it.
use Rattle.std.proofs.Common.{◌≡◌, ℕ, zero, suc, ◌<◌, ◌≤◌, min, Bool, true, false, cond, nat_lt, List, [], ◌∷◌, length, map, Option, None, Some, ◌⊎◌, inl, inr, refl, sym, ap, subst, ◌∙◌, arith, eq-eqb}
use Rattle.std.specs.Prelude.{◌≢◌, ◌==◌, ◌&&◌, Contains, nat_le, ⊤}
use Rattle.std.specs.List.{AllByRecursion, IsDistinct, cons_option}
use Rattle.std.proofs.lemmas.Bool.{eqb-true, ltb-true, ltb-false, true≢false, false≢true}
use Rattle.nb_groups.specs.declared.found.Offer.{Offer}
use Rattle.nb_groups.specs.Groups.{rise, are_groups}
use Rattle.nb_groups.specs.Offers.{key_of, same_key, AreApart, price_for, offer_for, offers_for}
use Rattle.nb_groups.specs.Quote.{least, group_at, chosen}
use Rattle.nb_groups.specs.Laws.{IsFor, IsLeast}
use Rattle.nb_groups.proofs.Reading.{same_keys}

-- one of a list, step by step
abbrev pub In : {A : Type 0} → List A → A → Type 0
In [] a = ⊥
In (x ∷ xs) a = (x ≡ a) ⊎ In xs a

pub in_of : {A : Type 0} (xs : List A) (a : A) → Contains xs a → In xs a
in_of [] a c = absurd (omega (arith, c.1))
in_of (x ∷ xs) a (zero, below, is) = inl is
in_of (x ∷ xs) a (suc k, below, is) = inr (in_of xs a (k, omega (arith, below), is))

of_in : {A : Type 0} (xs : List A) (a : A) → In xs a → Contains xs a
of_in [] a i = absurd i
of_in (x ∷ xs) a (inl is) = (0, omega arith, is)
of_in (x ∷ xs) a (inr i) = let c = of_in xs a i in (suc c.0, omega (arith, c.1), c.2)

pub all_in : {A : Type 0} (P : A → Type 0) (xs : List A) (a : A) → AllByRecursion P xs → In xs a → P a
all_in P [] a all i = absurd i
all_in P (x ∷ xs) a all (inl is) = subst P is all.0
all_in P (x ∷ xs) a all (inr i) = all_in P xs a all.1 i

pub in_map : {A B : Type 0} (f : A → B) (xs : List A) (a : A) → In xs a → In (map f xs) (f a)
in_map f [] a i = absurd i
in_map f (x ∷ xs) a (inl is) = inl (ap f is)
in_map f (x ∷ xs) a (inr i) = inr (in_map f xs a i)

some_is : (m n : ℕ) → ◌≡◌ {A = Option ℕ} (Some m) (Some n) → m ≡ n
some_is m n e = cc

no_some : (n : ℕ) → ◌≡◌ {A = Option ℕ} None (Some n) → ⊥
no_some n e = cc

-- ---- prices

-- a price that is found is that of an offer
found : (offers : List Offer) (product group price : ℕ) → price_for offers (product, group) ≡ Some price → In offers (record { product = product; group = group; price = price })
found [] product group price e = absurd (no_some price e)
found (o ∷ offers) product group price e = by (found offers product group price) (same_key (product, group) (key_of o)) refl
  where
    by : (price_for offers (product, group) ≡ Some price → In offers (record { product = product; group = group; price = price })) → (b : Bool) → same_key (product, group) (key_of o) ≡ b
        → In (o ∷ offers) (record { product = product; group = group; price = price })
    by rest true is =
        let key = same_keys (product, group) (key_of o) is in
        let first : product ≡ o.product = ap (λ (k : ℕ × ℕ). k.0) key in
        let second : group ≡ o.group = ap (λ (k : ℕ × ℕ). k.1) key in
        let third : o.price ≡ price = some_is o.price price (sym (ap (λ (b : Bool). cond b (Some o.price) (price_for offers (product, group))) is) ∙ e) in
        inl (rw (first, second, sym third) refl)
    by rest false is = inr (rest (sym (ap (λ (b : Bool). cond b (Some o.price) (price_for offers (product, group))) is) ∙ e))

-- each offer's price is found: no two are for one product and one group
pub key_is : (k : ℕ × ℕ) → same_key k k ≡ true
key_is k = rw (eq-eqb k.0 k.0 refl, eq-eqb k.1 k.1 refl) refl

other_key : (a b : ℕ × ℕ) → same_key a b ≡ false → same_key b a ≡ false
other_key a b apart = by (same_key b a) refl
  where
    by : (x : Bool) → same_key b a ≡ x → x ≡ false
    by true is = absurd (true≢false (sym (key_is a) ∙ ap (same_key a) (sym (same_keys b a is)) ∙ apart))
    by false is = refl

held : (offers : List Offer) (o : Offer) → IsDistinct same_key (map key_of offers) → In offers o → price_for offers (key_of o) ≡ Some o.price
unfolding IsDistinct
held [] o apart i = absurd i
held (x ∷ offers) o apart (inl is) = rw (sym is, key_is (key_of x)) refl
held (x ∷ offers) o apart (inr i) =
    let other : same_key (key_of o) (key_of x) ≡ false = other_key (key_of x) (key_of o) (all_in (λ k. same_key (key_of x) k ≡ false) (map key_of offers) (key_of o) apart.0 (in_map key_of offers o i)) in
    ap (λ (b : Bool). cond b (Some x.price) (price_for offers (key_of o))) other ∙ held offers o apart.1 i

-- ---- the offers for groups

-- each is for one of the groups, at its price
of_groups : (offers : List Offer) (product : ℕ) (groups : List ℕ) (f : Offer) → In (offers_for offers product groups) f
    → In groups f.group × (f.product ≡ product) × (price_for offers (product, f.group) ≡ Some f.price)
of_groups offers product [] f i = absurd i
of_groups offers product (g ∷ groups) f i = by (of_groups offers product groups f) (price_for offers (product, g)) refl i
  where
    by : (In (offers_for offers product groups) f → In groups f.group × (f.product ≡ product) × (price_for offers (product, f.group) ≡ Some f.price)) → (p : Option ℕ) → price_for offers (product, g) ≡ p → In (cons_option (offer_for product g p) (offers_for offers product groups)) f
        → In (g ∷ groups) f.group × (f.product ≡ product) × (price_for offers (product, f.group) ≡ Some f.price)
    by behind None none i = let rest = behind i in (inr rest.0, rest.1, rest.2)
    by behind (Some price) some (inl is) = subst (λ (o : Offer). In (g ∷ groups) o.group × (o.product ≡ product) × (price_for offers (product, o.group) ≡ Some o.price)) is (inl refl, refl, some)
    by behind (Some price) some (inr i) = let rest = behind i in (inr rest.0, rest.1, rest.2)

-- each offer for one of the groups is there
for_groups : (offers : List Offer) (product price group : ℕ) (groups : List ℕ) → In groups group → price_for offers (product, group) ≡ Some price
    → In (offers_for offers product groups) (record { product = product; group = group; price = price })
for_groups offers product price group [] i some = absurd i
for_groups offers product price group (g ∷ groups) (inl is) some = by (price_for offers (product, g)) (ap (λ (h : ℕ). price_for offers (product, h)) is ∙ some)
  where
    by : (p : Option ℕ) → p ≡ Some price → In (cons_option (offer_for product g p) (offers_for offers product groups)) (record { product = product; group = group; price = price })
    by None e = absurd (no_some price e)
    by (Some q) e = inl (rw (is, some_is q price e) refl)
for_groups offers product price group (g ∷ groups) (inr i) some = by (for_groups offers product price group groups i some) (price_for offers (product, g))
  where
    by : In (offers_for offers product groups) (record { product = product; group = group; price = price }) → (p : Option ℕ) → In (cons_option (offer_for product g p) (offers_for offers product groups)) (record { product = product; group = group; price = price })
    by behind None = behind
    by behind (Some q) = inr behind

-- their groups ascend
abbrev Rising : List Offer → Type 0
Rising [] = ⊤
Rising (o ∷ offers) = ((q : Offer) → In offers q → o.group < q.group) × Rising offers

above : (g : ℕ) (groups : List ℕ) → rise (g ∷ groups) ≡ true → (rise groups ≡ true) × ((h : ℕ) → In groups h → g < h)
above g [] is = (refl, λ h i. absurd i)
above g (n ∷ groups) is =
    let parts = both (nat_lt g n) (rise (n ∷ groups)) is in
    let next = above n groups parts.1 in
    let less : g < n = ltb-true g n parts.0 in
    (parts.1, λ h. each h next.1 less)
  where
    both : (x y : Bool) → (x && y) ≡ true → (x ≡ true) × (y ≡ true)
    both true y e = (refl, e)
    both false y e = absurd (false≢true e)

    each : (h : ℕ) → ((k : ℕ) → In groups k → n < k) → g < n → In (n ∷ groups) h → g < h
    each h behind less (inl is) = omega (arith, less, is)
    each h behind less (inr i) = omega (arith, less, behind h i)

rising : (offers : List Offer) (product : ℕ) (groups : List ℕ) → rise groups ≡ true → Rising (offers_for offers product groups)
rising offers product [] is = tt
rising offers product (g ∷ groups) is = by (rising offers product groups (above g groups is).0) (price_for offers (product, g))
  where
    by : Rising (offers_for offers product groups) → (p : Option ℕ) → Rising (cons_option (offer_for product g p) (offers_for offers product groups))
    by behind None = behind
    by behind (Some q) = (λ f i. (above g groups is).1 f.group (of_groups offers product groups f i).0, behind)

-- ---- the least

under_shelf : (shelf : ℕ) (offers : List Offer) → least shelf offers ≤ shelf
under_shelf shelf [] = omega arith
under_shelf shelf (o ∷ offers) = let rest : least shelf offers ≤ shelf = under_shelf shelf offers in omega (arith, rest)

under_each : (shelf : ℕ) (offers : List Offer) (o : Offer) → In offers o → least shelf offers ≤ o.price
under_each shelf [] o i = absurd i
under_each shelf (x ∷ offers) o (inl is) = omega (arith, ap (λ (q : Offer). q.price) is)
under_each shelf (x ∷ offers) o (inr i) = let rest : least shelf offers ≤ o.price = under_each shelf offers o i in omega (arith, rest)

-- where it is not the shelf's it is that of an offer
one_has : (shelf : ℕ) (offers : List Offer) → least shelf offers < shelf → (o : Offer) × In offers o × (o.price ≡ least shelf offers)
one_has shelf [] less = absurd (omega (arith, less))
one_has shelf (x ∷ offers) less = by (one_has shelf offers) (nat_lt (least shelf offers) x.price) refl
  where
    by : (least shelf offers < shelf → (o : Offer) × In offers o × (o.price ≡ least shelf offers)) → (b : Bool) → nat_lt (least shelf offers) x.price ≡ b → (o : Offer) × In (x ∷ offers) o × (o.price ≡ min x.price (least shelf offers))
    by behind true is =
        let below : least shelf offers < x.price = ltb-true (least shelf offers) x.price is in
        let rest = behind (omega (arith, less, below)) in
        (rest.0, inr rest.1, omega (arith, rest.2, below))
    by behind false is =
        let not_below : x.price ≤ least shelf offers = ltb-false (least shelf offers) x.price is in
        (x, inl refl, omega (arith, not_below))

-- the group that is told is that of an offer of the price, and the smallest
some_has : (price : ℕ) (offers : List Offer) (o : Offer) → In offers o → o.price ≡ price → group_at price offers ≢ None
some_has price [] o i is none = absurd i
some_has price (x ∷ offers) o (inl same) is none = no_some x.group (sym none ∙ ap (λ (b : Bool). cond b (Some x.group) (group_at price offers)) (eq-eqb x.price price (ap (λ (q : Offer). q.price) same ∙ is)))
some_has price (x ∷ offers) o (inr i) is none = by (some_has price offers o i is) (x.price == price) refl
  where
    by : (group_at price offers ≢ None) → (b : Bool) → (x.price == price) ≡ b → ⊥
    by behind true e = no_some x.group (sym none ∙ ap (λ (b : Bool). cond b (Some x.group) (group_at price offers)) e)
    by behind false e = behind (sym (ap (λ (b : Bool). cond b (Some x.group) (group_at price offers)) e) ∙ none)

told : (price g : ℕ) (offers : List Offer) → Rising offers → group_at price offers ≡ Some g
    → ((o : Offer) × In offers o × (o.group ≡ g) × (o.price ≡ price)) × ((q : Offer) → In offers q → q.price ≡ price → g ≤ q.group)
told price g [] rises e = absurd (no_some g e)
told price g (x ∷ offers) rises e = by (told price g offers rises.1) (x.price == price) refl
  where
    first : x.group ≡ g → (q : Offer) → In (x ∷ offers) q → q.price ≡ price → g ≤ q.group
    first is q (inl same) has = omega (arith, is, ap (λ (o : Offer). o.group) same)
    first is q (inr i) has = omega (arith, is, rises.0 q i)

    later : x.price ≢ price → ((q : Offer) → In offers q → q.price ≡ price → g ≤ q.group) → (q : Offer) → In (x ∷ offers) q → q.price ≡ price → g ≤ q.group
    later other rest q (inl same) has = absurd (other (ap (λ (o : Offer). o.price) same ∙ has))
    later other rest q (inr i) has = rest q i has

    by : (group_at price offers ≡ Some g → ((o : Offer) × In offers o × (o.group ≡ g) × (o.price ≡ price)) × ((q : Offer) → In offers q → q.price ≡ price → g ≤ q.group)) → (b : Bool) → (x.price == price) ≡ b
        → ((o : Offer) × In (x ∷ offers) o × (o.group ≡ g) × (o.price ≡ price)) × ((q : Offer) → In (x ∷ offers) q → q.price ≡ price → g ≤ q.group)
    by behind true is =
        let group : x.group ≡ g = some_is x.group g (sym (ap (λ (b : Bool). cond b (Some x.group) (group_at price offers)) is) ∙ e) in
        ((x, inl refl, group, eqb-true x.price price is), first group)
    by behind false is =
        let rest = behind (sym (ap (λ (b : Bool). cond b (Some x.group) (group_at price offers)) is) ∙ e) in
        let other : x.price ≢ price = λ same. true≢false (sym (eq-eqb x.price price same) ∙ is) in
        ((rest.0.0, inr rest.0.1, rest.0.2, rest.0.3), later other rest.1)

rising_of : (groups : List ℕ) → are_groups groups ≡ true → rise groups ≡ true
rising_of groups is = last (nat_lt 0 (length groups) && nat_le (length groups) 4) (rise groups) is
  where
    last : (x y : Bool) → (x && y) ≡ true → y ≡ true
    last true y e = e
    last false y e = absurd (false≢true e)

-- an offer for one of the groups is among those that were found, and the other way round
pub among : (offers : List Offer) (product : ℕ) (groups : List ℕ) → AreApart offers → (o : Offer) → IsFor offers product groups o → In (offers_for offers product groups) o
among offers product groups apart o for =
    let priced : price_for offers (product, o.group) ≡ Some o.price = subst (λ (p : ℕ). price_for offers (p, o.group) ≡ Some o.price) for.1 (held offers o apart (in_of offers o for.0)) in
    subst (λ (p : ℕ). In (offers_for offers product groups) (record { product = p; group = o.group; price = o.price })) (sym for.1) (for_groups offers product o.price o.group groups (in_of groups o.group for.2) priced)

pub among_is_for : (offers : List Offer) (product : ℕ) (groups : List ℕ) (o : Offer) → In (offers_for offers product groups) o → IsFor offers product groups o
among_is_for offers product groups o i =
    let of = of_groups offers product groups o i in
    (of_in offers o (subst (λ (p : ℕ). In offers (record { product = p; group = o.group; price = o.price })) (sym of.1) (found offers product o.group o.price of.2)), of.1, of_in groups o.group of.0)

-- what is chosen among the offers for the groups of a credential is the least
pub chosen_is_least : (shelf : ℕ) (offers : List Offer) (product : ℕ) (groups : List ℕ) → AreApart offers → are_groups groups ≡ true
    → IsLeast shelf offers product groups (chosen shelf (offers_for offers product groups))
chosen_is_least shelf offers product groups apart is =
    by (least shelf os == shelf) refl
  where
    os : List Offer
    os = offers_for offers product groups

    price : ℕ
    price = least shelf os

    ascend : rise groups ≡ true
    ascend = rising_of groups is

    is_for : (o : Offer) (g : ℕ) → In os o → o.group ≡ g → o.price ≡ price → IsFor offers product groups (record { product = product; group = g; price = price })
    is_for o g i group same =
        let of = of_groups offers product groups o i in
        let priced : price_for offers (product, g) ≡ Some price = subst (λ (h : ℕ). price_for offers (product, h) ≡ Some price) group (of.2 ∙ ap (λ (n : ℕ). let x : Option ℕ = Some n in x) same) in
        (of_in offers _ (found offers product g price priced), refl, of_in groups g (subst (In groups) group of.0))

    below : (o : Offer) → IsFor offers product groups o → price ≤ o.price
    below o for = under_each shelf os o (among offers product groups apart o for)

    never : (g : ℕ) → ◌≡◌ {A = Option ℕ} None (Some g) → ⊥
    never g e = no_some g e

    by : (b : Bool) → (price == shelf) ≡ b → IsLeast shelf offers product groups (chosen shelf os)
    by true same =
        let none : (chosen shelf os).group ≡ None = ap (λ (b : Bool). cond b None (group_at price os)) same in
        record {
          below = under_shelf shelf os;
          least = below;
          shelf_first = λ e. eqb-true price shelf same;
          group = λ g e. absurd (never g (sym none ∙ e));
          smallest = λ g o e. absurd (never g (sym none ∙ e));
        }
    by false other =
        let at : (chosen shelf os).group ≡ group_at price os = ap (λ (b : Bool). cond b None (group_at price os)) other in
        let less : price < shelf = less_than in
        let one = one_has shelf os less in
        record {
          below = under_shelf shelf os;
          least = below;
          shelf_first = λ e. absurd (some_has price os one.0 one.1 one.2 (sym at ∙ e));
          group = λ g e. let t = told price g os (rising offers product groups ascend) (sym at ∙ e) in (less, is_for t.0.0 g t.0.1 t.0.2 t.0.3);
          smallest = λ g o e for same. (told price g os (rising offers product groups ascend) (sym at ∙ e)).1 o (among offers product groups apart o for) same;
        }
      where
        differ : price ≢ shelf
        differ same = true≢false (sym (eq-eqb price shelf same) ∙ other)

        less_than : price < shelf
        less_than = omega (arith, under_shelf shelf os, differ)

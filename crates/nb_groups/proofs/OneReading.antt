-- Bytes are read as one list of offers, or to one first fault.
use Rattle.std.proofs.Common.{◌≡◌, ◌≢◌, ◌⊎◌, ℕ, ◌<◌, List, [], ◌∷◌, ◌++◌, length, map, take, drop, Result, Ok, Err, false, inl, inr, refl, sym, ap, subst, ◌∙◌, arith, append_assoc, append-nil, length-append, true≢false}
use Rattle.std.specs.Prelude.{Contains, slice_index}
use Rattle.std.specs.Borrow.{Bor}
use Rattle.std.specs.Fmt.{decimal}
use Rattle.std.specs.List.{AllByRecursion, IsDistinct}
use Rattle.std.proofs.lemmas.List.{take_at, drop_at}
use Rattle.std.proofs.lemmas.Fmt.{decimal_nonempty}
use Rattle.hex.specs.Hex.{decode_sized}
use Rattle.hex.specs.declared.error.FromHexError.{FromHexError}
use Rattle.nb_price.proofs.Numerals.{free_decimal}
use Rattle.nb_groups.specs.declared.limits.TheConstants.{KEEPER}
use Rattle.nb_groups.specs.declared.found.Offer.{Offer}
use Rattle.nb_groups.specs.declared.fault.OffersFault.{OffersFault}
use Rattle.nb_groups.specs.declared.fault.OffersFault.TheVariants.{BadLine, Twice, NoMemory}
use Rattle.nb_groups.specs.Offers.{Tariff, IsOffer, AreApart, key_of, same_key, offer_bytes, offers_bytes, BeginsWithKeeper, BeginsWith, BeginsWithNone}
use Rattle.nb_groups.specs.Reads.{Front, next_line, FailsAt, HasNoKeeper, RepeatsAt, FaultIs, IsAll, IsEmptyLine, ReadsOffers, ReadsFront, front_shown}
use Rattle.nb_groups.specs.Laws.{OneReading, OneFront}
use Rattle.nb_groups.proofs.Lines.{offer_line}
use Rattle.nb_groups.proofs.Reading.{smaller}
use Rattle.nb_groups.proofs.Least.{In, in_of, in_map, all_in, key_is}
use Rattle.nb_groups.proofs.Once.{one_offer}

-- one keeper's line stands at the front
one_keeper : (bytes a b r s : List ℕ) → BeginsWithKeeper bytes a r → BeginsWithKeeper bytes b s → (a ≡ b) × (r ≡ s)
one_keeper bytes a b r s f g =
    let inside : f.digits ++ 10 ∷ r ≡ g.digits ++ 10 ∷ s =
    ap (drop 7) (sym (f.spelled ∙ append_assoc KEEPER f.digits (10 ∷ r)) ∙ g.spelled ∙ append_assoc KEEPER g.digits (10 ∷ s)) in
    let digits : f.digits ≡ g.digits = sym (take_at f.digits (10 ∷ r) 64 f.long) ∙ ap (take 64) inside ∙ take_at g.digits (10 ∷ s) 64 g.long in
    let behind : 10 ∷ r ≡ 10 ∷ s = sym (drop_at f.digits (10 ∷ r) 64 f.long) ∙ ap (drop 64) inside ∙ drop_at g.digits (10 ∷ s) 64 g.long in
    (same a b (sym f.key ∙ ap (λ (l : List ℕ). decode_sized l 32) digits ∙ g.key), ap (drop 1) behind)
  where
    same : (x y : List ℕ) → ◌≡◌ {A = Result (List ℕ) FromHexError} (Ok x) (Ok y) → x ≡ y
    same x y e = cc

-- one list of offers goes on behind the other
abbrev Ahead : List Offer → List ℕ → List Offer → List ℕ → Type 0
Ahead xs r ys s = (more : List Offer) × AllByRecursion IsOffer more × (ys ≡ xs ++ more) × (r ≡ offers_bytes more ++ s)

ahead : (xs ys : List Offer) (r s : List ℕ) → AllByRecursion IsOffer xs → AllByRecursion IsOffer ys → offers_bytes xs ++ r ≡ offers_bytes ys ++ s → Ahead xs r ys s ⊎ Ahead ys s xs r
ahead [] ys r s all each e = inl (ys, each, refl, e)
ahead (x ∷ xs) [] r s all each e = inr (x ∷ xs, all, refl, sym e)
ahead (x ∷ xs) (y ∷ ys) r s all each e =
    let one = one_offer (offers_bytes (x ∷ xs) ++ r) x y (offers_bytes xs ++ r) (offers_bytes ys ++ s) (all.0, append_assoc (offer_bytes x) (offers_bytes xs) r) (each.0, e ∙ append_assoc (offer_bytes y) (offers_bytes ys) s) in
    by one.0 (ahead xs ys r s all.1 each.1 one.1)
  where
    by : x ≡ y → Ahead xs r ys s ⊎ Ahead ys s xs r → Ahead (x ∷ xs) r (y ∷ ys) s ⊎ Ahead (y ∷ ys) s (x ∷ xs) r
    by is (inl (more, are, e, f)) = inl (more, are, ap (λ (o : Offer). o ∷ ys) (sym is) ∙ ap (λ (l : List Offer). x ∷ l) e, f)
    by is (inr (more, are, e, f)) = inr (more, are, ap (λ (o : Offer). o ∷ xs) is ∙ ap (λ (l : List Offer). y ∷ l) e, f)

-- no offer of a list is for the product and the group of one before it
in_middle : (xs : List Offer) (o : Offer) (ys : List Offer) → In (xs ++ o ∷ ys) o
in_middle [] o ys = inl refl
in_middle (x ∷ xs) o ys = inr (in_middle xs o ys)

not_apart : (xs : List Offer) (o : Offer) (ys : List Offer) → In (map key_of xs) (key_of o) → AreApart (xs ++ o ∷ ys) → ⊥
unfolding IsDistinct
not_apart [] o ys i apart = i
not_apart (x ∷ xs) o ys (inl is) apart =
    let other : same_key (key_of x) (key_of o) ≡ false =
    all_in (λ k. same_key (key_of x) k ≡ false) (map key_of (xs ++ o ∷ ys)) (key_of o) apart.0 (in_map key_of (xs ++ o ∷ ys) o (in_middle xs o ys)) in
    true≢false (sym (key_is (key_of x)) ∙ ap (same_key (key_of x)) is ∙ other)
not_apart (x ∷ xs) o ys (inr i) apart = not_apart xs o ys i apart.1

-- behind offers no more is read: no line of one is next, or one for a product and a group that they have
abbrev Stops : List Offer → List ℕ → Type 0
Stops xs r = BeginsWithNone r ⊎ ((o : Offer) × (more : List ℕ) × BeginsWith r o more × Contains (map key_of xs) (key_of o))

halts : (xs ys : List Offer) (r s : List ℕ) → Stops xs r → AreApart ys → Ahead xs r ys s → (xs ≡ ys) × (r ≡ s)
halts xs ys r s stops apart ([], all, is, e) = (sym (is ∙ append-nil xs), e)
halts xs ys r s (inl none) apart (o ∷ more, all, is, e) = absurd (none o (offers_bytes more ++ s) (all.0, e ∙ append_assoc (offer_bytes o) (offers_bytes more) s))
halts xs ys r s (inr (again, rest, begins, held)) apart (o ∷ more, all, is, e) =
    let one = one_offer r again o rest (offers_bytes more ++ s) begins (all.0, e ∙ append_assoc (offer_bytes o) (offers_bytes more) s) in
    absurd (not_apart xs again more (in_of (map key_of xs) (key_of again) held) (subst AreApart (is ∙ ap (λ (x : Offer). xs ++ x ∷ more) (sym one.0)) apart))

-- two readings that go on no more are one
alike : (bytes : List ℕ) (a b : Tariff) (r s : List ℕ) → Front bytes a r → Stops a.offers r → Front bytes b s → Stops b.offers s → (a ≡ b) × (r ≡ s)
alike bytes a b r s f p g q = by (ahead a.offers b.offers r s f.offers.all g.offers.all (sym f.spelled ∙ keeper.1 ∙ g.spelled))
  where
    keeper : (a.keeper ≡ b.keeper) × (f.behind ≡ g.behind)
    keeper = one_keeper bytes a.keeper b.keeper f.behind g.behind f.keeper g.keeper

    made : a.offers ≡ b.offers → a ≡ b
    made offers i = record { keeper = keeper.0 i; offers = offers i }

    by : Ahead a.offers r b.offers s ⊎ Ahead b.offers s a.offers r → (a ≡ b) × (r ≡ s)
    by (inl h) = let same = halts a.offers b.offers r s p g.offers.apart h in (made same.0, same.1)
    by (inr h) = let same = halts b.offers a.offers s r q f.offers.apart h in (made (sym same.0), sym same.1)

-- ---- answers

module _ (IsEnd : List ℕ → Type 0) (ends : (r : List ℕ) → IsEnd r → BeginsWithNone r) (bytes : List ℕ) where
  abbrev Told : Result (Tariff × List ℕ) OffersFault → Type 0
  Told (Ok p) = Front bytes p.0 p.1 × IsEnd p.1
  Told (Err fault) = FaultIs IsEnd bytes fault

  again_stops : (n : ℕ) (at : RepeatsAt bytes n) → Stops at.tariff.offers at.rest
  again_stops n at = inr (at.again, at.more, at.begins, at.held)

  ok_bad : (t : Tariff) (r : List ℕ) (n : ℕ) → Front bytes t r → IsEnd r → HasNoKeeper bytes n ⊎ FailsAt IsEnd bytes n → ⊥
  ok_bad t r n f end (inl missing) = missing.1 t.keeper f.behind f.keeper
  ok_bad t r n f end (inr at) = let same = alike bytes t at.tariff r at.rest f (inl (ends r end)) at.front (inl at.none) in at.no_end (subst IsEnd same.1 end)

  none_twice : (t : Tariff) (r : List ℕ) (n : ℕ) → Front bytes t r → BeginsWithNone r → RepeatsAt bytes n → ⊥
  none_twice t r n f none at =
      let same = alike bytes t at.tariff r at.rest f (inl none) at.front (again_stops n at) in
      none at.again at.more (subst (λ (l : List ℕ). BeginsWith l at.again at.more) (sym same.1) at.begins)

  bad_twice : (m n : ℕ) → HasNoKeeper bytes m ⊎ FailsAt IsEnd bytes m → RepeatsAt bytes n → ⊥
  bad_twice m n (inl missing) at = missing.1 at.tariff.keeper at.front.behind at.front.keeper
  bad_twice m n (inr by) at = none_twice by.tariff by.rest n by.front by.none at

  bad_bad : (m n : ℕ) → HasNoKeeper bytes m ⊎ FailsAt IsEnd bytes m → HasNoKeeper bytes n ⊎ FailsAt IsEnd bytes n → m ≡ n
  bad_bad m n (inl missing) (inl none) = missing.0 ∙ sym none.0
  bad_bad m n (inl missing) (inr at) = absurd (missing.1 at.tariff.keeper at.front.behind at.front.keeper)
  bad_bad m n (inr at) (inl missing) = absurd (missing.1 at.tariff.keeper at.front.behind at.front.keeper)
  bad_bad m n (inr by) (inr at) = by.number ∙ ap next_line (alike bytes by.tariff at.tariff by.rest at.rest by.front (inl by.none) at.front (inl at.none)).0 ∙ sym at.number

  twice_twice : (m n : ℕ) → RepeatsAt bytes m → RepeatsAt bytes n → m ≡ n
  twice_twice m n by at = by.number ∙ ap next_line (alike bytes by.tariff at.tariff by.rest at.rest by.front (again_stops m by) at.front (again_stops n at)).0 ∙ sym at.number

  one : (a b : Result (Tariff × List ℕ) OffersFault) → a ≢ Err NoMemory → b ≢ Err NoMemory → Told a → Told b → a ≡ b
  one (Ok p) (Ok q) x y f g = let same = alike bytes p.0 q.0 p.1 q.1 f.0 (inl (ends p.1 f.1)) g.0 (inl (ends q.1 g.1)) in λ i. Ok (same.0 i, same.1 i)
  one (Ok p) (Err (BadLine n)) x y f g = absurd (ok_bad p.0 p.1 n f.0 f.1 g)
  one (Ok p) (Err (Twice n)) x y f g = absurd (none_twice p.0 p.1 n f.0 (ends p.1 f.1) g)
  one (Ok p) (Err NoMemory) x y f g = absurd (y refl)
  one (Err (BadLine m)) (Ok q) x y f g = absurd (ok_bad q.0 q.1 m g.0 g.1 f)
  one (Err (BadLine m)) (Err (BadLine n)) x y f g = ap (λ (k : ℕ). Err (BadLine k)) (bad_bad m n f g)
  one (Err (BadLine m)) (Err (Twice n)) x y f g = absurd (bad_twice m n f g)
  one (Err (BadLine m)) (Err NoMemory) x y f g = absurd (y refl)
  one (Err (Twice m)) (Ok q) x y f g = absurd (none_twice q.0 q.1 m g.0 (ends q.1 g.1) f)
  one (Err (Twice m)) (Err (BadLine n)) x y f g = absurd (bad_twice n m g f)
  one (Err (Twice m)) (Err (Twice n)) x y f g = ap (λ (k : ℕ). Err (Twice k)) (twice_twice m n f g)
  one (Err (Twice m)) (Err NoMemory) x y f g = absurd (y refl)
  one (Err NoMemory) b x y f g = absurd (x refl)

-- where bytes end, and where an empty line is next, no line of an offer is
all_ends : (r : List ℕ) → IsAll r → BeginsWithNone r
all_ends r end o rest begins = omega (arith, ap length end, smaller r rest o begins)

empty_ends : (r : List ℕ) → IsEmptyLine r → BeginsWithNone r
empty_ends r end o rest begins =
    let word : 0 < length (decimal o.product) = decimal_nonempty o.product (omega (arith, begins.0.product)) in
    let is : 10 ∷ end.0 ≡ decimal o.product ++ _ = sym end.1 ∙ begins.1 ∙ offer_line o rest in
    free_decimal o.product 10 begins.0.product (inl (omega arith)) 0 word (sym (ap (λ (l : List ℕ). slice_index l 0) is ∙ first (decimal o.product) _ word))
  where
    first : (xs ys : List ℕ) → 0 < length xs → slice_index (xs ++ ys) 0 ≡ slice_index xs 0
    first [] ys some = absurd (omega (arith, some))
    first (x ∷ xs) ys some = refl

-- where an empty line is next the offers and what stands behind it are these alone
pub one_offered : (bytes : List ℕ) (a b : Tariff) (r s : List ℕ) → Front bytes a (10 ∷ r) → Front bytes b (10 ∷ s) → (a ≡ b) × (r ≡ s)
one_offered bytes a b r s f g =
    let same = alike bytes a b (10 ∷ r) (10 ∷ s) f (inl (empty_ends (10 ∷ r) (r, refl))) g (inl (empty_ends (10 ∷ s) (s, refl))) in
    (same.0, ap (drop 1) same.1)

-- and no line of them is bad
pub none_bad : (bytes : List ℕ) (t : Tariff) (r : List ℕ) (n : ℕ) → Front bytes t (10 ∷ r) → FaultIs IsEmptyLine bytes (BadLine n) ⊎ FaultIs IsEmptyLine bytes (Twice n) → ⊥
none_bad bytes t r n f (inl bad) = ok_bad IsEmptyLine empty_ends bytes t (10 ∷ r) n f (r, refl) bad
none_bad bytes t r n f (inr twice) = none_twice IsEmptyLine empty_ends bytes t (10 ∷ r) n f (empty_ends (10 ∷ r) (r, refl)) twice

-- what stands behind offers is shorter than the whole
pub behind_shorter : (bytes : List ℕ) (t : Tariff) (r : List ℕ) → Front bytes t (10 ∷ r) → length r < length bytes
behind_shorter bytes t r f =
    omega (arith, ap length f.keeper.spelled, length-append (KEEPER ++ f.keeper.digits) (10 ∷ f.behind), ap length f.spelled, length-append (offers_bytes t.offers) (10 ∷ r))

-- ---- the two laws

abbrev all_of : Result Tariff OffersFault → Result (Tariff × List ℕ) OffersFault
all_of (Ok t) = Ok (t, [])
all_of (Err fault) = Err fault

pub one_reading : OneReading
one_reading bytes a b x y f g = back a b (one IsAll all_ends bytes (all_of a) (all_of b) (kept a x) (kept b y) (told a f) (told b g))
  where
    told : (r : Result Tariff OffersFault) → ReadsOffers bytes r → Told IsAll all_ends bytes (all_of r)
    told (Ok t) reads = (reads, refl)
    told (Err fault) reads = reads

    kept : (r : Result Tariff OffersFault) → r ≢ Err NoMemory → all_of r ≢ Err NoMemory
    kept (Ok t) is e = clash e
      where
        clash : ◌≡◌ {A = Result (Tariff × List ℕ) OffersFault} (Ok (t, [])) (Err NoMemory) → ⊥
        clash e = cc
    kept (Err fault) is e = is (ap (λ (k : OffersFault). let z : Result Tariff OffersFault = Err k in z) (same fault NoMemory e))
      where
        same : (k l : OffersFault) → ◌≡◌ {A = Result (Tariff × List ℕ) OffersFault} (Err k) (Err l) → k ≡ l
        same k l e = cc

    first_of : Result (Tariff × List ℕ) OffersFault → Result Tariff OffersFault
    first_of (Ok p) = Ok p.0
    first_of (Err fault) = Err fault

    again : (r : Result Tariff OffersFault) → first_of (all_of r) ≡ r
    again (Ok t) = refl
    again (Err fault) = refl

    back : (r s : Result Tariff OffersFault) → all_of r ≡ all_of s → r ≡ s
    back r s e = sym (again r) ∙ ap first_of e ∙ again s

-- with the empty line before what is left
abbrev with_line : Result (Tariff × List ℕ) OffersFault → Result (Tariff × List ℕ) OffersFault
with_line (Ok p) = Ok (p.0, 10 ∷ p.1)
with_line (Err fault) = Err fault

pub one_front : OneFront
one_front bytes a b x y f g = back (front_shown a) (front_shown b) (one IsEmptyLine empty_ends bytes (with_line (front_shown a)) (with_line (front_shown b)) (kept a x) (kept b y) (told a f) (told b g))
  where
    told : (r : Result (Tariff × Bor (List ℕ)) OffersFault) → ReadsFront bytes r → Told IsEmptyLine empty_ends bytes (with_line (front_shown r))
    told (Ok p) reads = (reads, (p.1.now, refl))
    told (Err fault) reads = reads

    kept : (r : Result (Tariff × Bor (List ℕ)) OffersFault) → front_shown r ≢ Err NoMemory → with_line (front_shown r) ≢ Err NoMemory
    kept (Ok p) is e = clash e
      where
        clash : ◌≡◌ {A = Result (Tariff × List ℕ) OffersFault} (Ok (p.0, 10 ∷ p.1.now)) (Err NoMemory) → ⊥
        clash e = cc
    kept (Err fault) is e = is e

    behind : Result (Tariff × List ℕ) OffersFault → Result (Tariff × List ℕ) OffersFault
    behind (Ok p) = Ok (p.0, drop 1 p.1)
    behind (Err fault) = Err fault

    again : (r : Result (Tariff × List ℕ) OffersFault) → behind (with_line r) ≡ r
    again (Ok p) = refl
    again (Err fault) = refl

    back : (r s : Result (Tariff × List ℕ) OffersFault) → with_line r ≡ with_line s → r ≡ s
    back r s e = sym (again r) ∙ ap behind e ∙ again s

-- A list of offers, read line by line.
use Rattle.std.proofs.Common.{◌≡◌, ℕ, ◌+◌, ◌<◌, ◌≤◌, Bool, true, false, List, [], ◌∷◌, ◌++◌, length, map, Option, None, Some, refl, sym, ap, subst, ◌∙◌, arith, append_assoc, append-nil, length-append}
use Rattle.std.specs.Prelude.{◌≢◌, nat_eq, ◌&&◌, cond, Err}
use Rattle.std.specs.List.{AllByRecursion, IsDistinct, list_any}
use Rattle.std.specs.Cmp.{IsEquivalence, nat_eq_equiv, on_equiv, and_equiv}
use Rattle.std.proofs.lemmas.Bool.{eqb-true, false≢true}
use Rattle.std.proofs.lemmas.Grind.{flat_map-append}
use Rattle.std.proofs.lemmas.List.{map-append}
use Rattle.std.proofs.lemmas.Map.Keys.{IsDistinct-push}
use Rattle.std.proofs.lemmas.Map.Views.{Contains-from_any}
use Rattle.std.specs.Fmt.{decimal}
use Rattle.nb_groups.specs.declared.found.Offer.{Offer}
use Rattle.nb_groups.specs.declared.fault.OffersFault.{OffersFault}
use Rattle.nb_groups.specs.declared.fault.OffersFault.TheVariants.{BadLine, Twice, NoMemory}
use Rattle.nb_groups.specs.Offers.{Tariff, IsOffer, offer_bytes, offers_bytes, key_of, same_key, price_for, BeginsWithKeeper, BeginsWith, BeginsWithNone}
use Rattle.nb_groups.specs.Reads.{Front, FailsAt, ReadsLines, Adds}

-- the keys of offers are told apart
pub keys_equiv : IsEquivalence same_key
keys_equiv = and_equiv (on_equiv (λ t. t.0) nat_eq_equiv) (on_equiv (λ t. t.1) nat_eq_equiv)

pub same_keys : (a b : ℕ × ℕ) → same_key a b ≡ true → a ≡ b
same_keys a b same =
    let parts = both (nat_eq a.0 b.0) (nat_eq a.1 b.1) same in
    let first : a.0 ≡ b.0 = eqb-true a.0 b.0 parts.0 in
    let second : a.1 ≡ b.1 = eqb-true a.1 b.1 parts.1 in
    λ i. (first i, second i)
  where
    both : (x y : Bool) → (x && y) ≡ true → (x ≡ true) × (y ≡ true)
    both true y e = (refl, e)
    both false y e = absurd (false≢true e)

-- so many lines of the bytes were read
pub record SoFar (bytes : List ℕ) (tariff : Tariff) (rest : List ℕ) (lines : ℕ) : Type 0 where
  pub front : Front bytes tariff rest
  pub number : lines ≡ length tariff.offers + 1
  pub few : length tariff.offers + length rest ≤ length bytes

-- the keeper's line was read
pub first_line : (bytes keeper rest : List ℕ) → BeginsWithKeeper bytes keeper rest → SoFar bytes (record { keeper = keeper; offers = [] }) rest 1
unfolding IsDistinct
first_line bytes keeper rest begins = record {
  front = record { behind = rest; keeper = begins; offers = record { all = tt; apart = tt }; spelled = refl };
  number = refl;
  few = omega (arith, ap length begins.spelled, length-append (codes_of ++ begins.digits) (10 ∷ rest));
}
  where
    codes_of : List ℕ
    codes_of = 107 ∷ 101 ∷ 101 ∷ 112 ∷ 101 ∷ 114 ∷ 32 ∷ []

-- all are offers, and one more
all_more : (offers : List Offer) (o : Offer) → AllByRecursion IsOffer offers → IsOffer o → AllByRecursion IsOffer (offers ++ o ∷ [])
all_more [] o all is = (is, tt)
all_more (p ∷ offers) o all is = (all.0, all_more offers o all.1 is)

-- where no price is found, there is no such offer; where one is, there is one
pub absent : (offers : List Offer) (key : ℕ × ℕ) → price_for offers key ≡ None → list_any (same_key key) (map key_of offers) ≡ false
absent [] key e = refl
absent (o ∷ offers) key none = by (absent offers key) (same_key key (key_of o)) refl
  where
    no_some : (p : ℕ) → ◌≡◌ {A = Option ℕ} (Some p) None → ⊥
    no_some p e = cc

    by : (price_for offers key ≡ None → list_any (same_key key) (map key_of offers) ≡ false) → (b : Bool) → same_key key (key_of o) ≡ b → list_any (same_key key) (map key_of (o ∷ offers)) ≡ false
    by rest true is = absurd (no_some o.price (sym (ap (λ (b : Bool). cond b (Some o.price) (price_for offers key)) is) ∙ none))
    by rest false is =
        let inner = rest (sym (ap (λ (b : Bool). cond b (Some o.price) (price_for offers key)) is) ∙ none) in
        rw (is, inner) refl

present : (offers : List Offer) (key : ℕ × ℕ) → price_for offers key ≢ None → list_any (same_key key) (map key_of offers) ≡ true
present [] key some = absurd (some refl)
present (o ∷ offers) key some = by (present offers key) (same_key key (key_of o)) refl
  where
    by : (price_for offers key ≢ None → list_any (same_key key) (map key_of offers) ≡ true) → (b : Bool) → same_key key (key_of o) ≡ b → list_any (same_key key) (map key_of (o ∷ offers)) ≡ true
    by rest true is = rw is refl
    by rest false is =
        let inner = rest (λ none. some (ap (λ (b : Bool). cond b (Some o.price) (price_for offers key)) is ∙ none)) in
        rw (is, inner) refl

-- an offer's line has a byte
some_byte : (o : Offer) → 1 ≤ length (offer_bytes o)
unfolding offer_bytes
some_byte o =
    let behind : List ℕ = decimal o.group ++ 59 ∷ (decimal o.price ++ 10 ∷ []) in
    omega (arith, length-append (decimal o.product) (59 ∷ behind))

-- what follows an offer's line is shorter
pub smaller : (rest next : List ℕ) (o : Offer) → BeginsWith rest o next → length next < length rest
smaller rest next o begins = omega (arith, ap length begins.1 ∙ length-append (offer_bytes o) next, some_byte o)

-- one line more
pub one_more : (bytes rest next : List ℕ) (old new : Tariff) (number : ℕ) (o : Offer) → SoFar bytes old rest number → BeginsWith rest o next → price_for old.offers (key_of o) ≡ None
    → new.keeper ≡ old.keeper → new.offers ≡ old.offers ++ o ∷ [] → SoFar bytes new next (number + 1)
one_more bytes rest next old new number o so begins none keeper offers =
    let apart : IsDistinct same_key (map key_of (old.offers ++ o ∷ [])) =
    subst (IsDistinct same_key) (sym (map-append key_of old.offers (o ∷ []))) (IsDistinct-push keys_equiv (map key_of old.offers) (key_of o) so.front.offers.apart (absent old.offers (key_of o) none)) in
    let spelled : so.front.behind ≡ offers_bytes (old.offers ++ o ∷ []) ++ next =
    so.front.spelled ∙ ap (λ (l : List ℕ). offers_bytes old.offers ++ l) begins.1
    ∙ sym (append_assoc (offers_bytes old.offers) (offer_bytes o) next)
    ∙ ap (λ (l : List ℕ). l ++ next) (
    ap (λ (l : List ℕ). offers_bytes old.offers ++ l) (sym (append-nil (offer_bytes o)))
    ∙ sym (flat_map-append offer_bytes old.offers (o ∷ []))
    ) in
    let long : length (old.offers ++ o ∷ []) ≡ length old.offers + 1 = length-append old.offers (o ∷ []) in
    let made : Tariff = record { keeper = old.keeper; offers = old.offers ++ o ∷ [] } in
    let so_made : SoFar bytes made next (number + 1) = record {
      front = record { behind = so.front.behind; keeper = so.front.keeper; offers = record { all = all_more old.offers o so.front.offers.all begins.0; apart = apart }; spelled = spelled };
      number = omega (arith, so.number, long);
      few = omega (arith, long, so.few, smaller rest next o begins);
    } in
    subst (λ (t : Tariff). SoFar bytes t next (number + 1)) (sym same) so_made
  where
    same : new ≡ record { keeper = old.keeper; offers = old.offers ++ o ∷ [] }
    same = rw (keeper, offers) refl

-- where an offer was not added, the reading has that fault
pub not_added : (bytes rest next : List ℕ) (old new : Tariff) (number : ℕ) (o : Offer) (fault : OffersFault) → SoFar bytes old rest number → BeginsWith rest o next
    → Adds old new (number + 1) o (Err fault) → ReadsLines bytes (Err fault)
not_added bytes rest next old new number o (BadLine n) so begins adds = absurd adds
not_added bytes rest next old new number o (Twice n) so begins adds = record {
  tariff = old;
  rest = rest;
  again = o;
  more = next;
  front = so.front;
  number = omega (arith, adds.0, so.number);
  begins = begins;
  held = Contains-from_any {eq = same_key} same_keys (key_of o) (map key_of old.offers) (present old.offers (key_of o) adds.1);
}
not_added bytes rest next old new number o NoMemory so begins adds = record {
  tariff = old;
  rest = rest;
  next = o;
  more = next;
  front = so.front;
  begins = begins;
  fresh = adds;
}

-- no line of an offer stands behind those that were read
pub all_read : (bytes rest : List ℕ) (tariff : Tariff) (number : ℕ) → SoFar bytes tariff rest number → BeginsWithNone rest
    → Front bytes tariff rest × (number ≡ length tariff.offers + 1) × (number ≤ length bytes + 1) × BeginsWithNone rest
all_read bytes rest tariff number so none = (so.front, so.number, omega (arith, so.number, so.few), none)

-- bytes that should end where no line of an offer stands, and do not
pub no_end : (IsEnd : List ℕ → Type 0) (bytes rest : List ℕ) (tariff : Tariff) (number : ℕ) → Front bytes tariff rest → number ≡ length tariff.offers + 1 → BeginsWithNone rest → ¬ IsEnd rest
    → FailsAt IsEnd bytes (number + 1)
no_end IsEnd bytes rest tariff number front is none not_so = record {
  tariff = tariff;
  rest = rest;
  front = front;
  number = omega (arith, is);
  none = none;
  no_end = not_so;
}

-- A look-up of goods by their serial number.
use Rattle.std.proofs.Common.{◌≡◌, ℕ, suc, ◌+◌, ◌-◌, ◌<◌, ◌≤◌, Bool, true, false, cond, ◌==◌, ◌&&◌, List, [], ◌∷◌, Some, None, refl, sym, ap, ◌∙◌, arith}
use Rattle.std.specs.Prelude.{slice_get}
use Rattle.std.proofs.lemmas.Bool.{eqb-true, eqb-false, false≢true}
use Rattle.nb_units.specs.declared.epoid.Epoid.{Epoid}
use Rattle.nb_stall.specs.declared.delivery.Delivery.{Delivery}
use Rattle.nb_units.specs.Epoid.{is_same_epoid}
use Rattle.nb_stall.specs.Sales.{sold_as}
use Rattle.nb_stall.specs.Ledger.{serials_from, given_as}

pub both_true : (a b : Bool) → (a && b) ≡ true → (a ≡ true) × (b ≡ true)
both_true true b e = (refl, e)
both_true false b e = absurd (false≢true e)

not_same : (a b : Epoid) → is_same_epoid a b ≡ true → a.serial ≡ b.serial
not_same a b is = eqb-true a.serial b.serial (both_true (a.merchant.0 == b.merchant.0 && a.moment == b.moment) (a.serial == b.serial) is).1

differ : (a b : Epoid) → (a.serial ≡ b.serial → ⊥) → is_same_epoid a b ≡ false
differ a b apart = by (is_same_epoid a b) refl
  where
    by : (same : Bool) → is_same_epoid a b ≡ same → same ≡ false
    by true is = absurd (apart (not_same a b is))
    by false is = refl

-- a number before the first is none's
pub before_first : (n : ℕ) (ds : List Delivery) (e : Epoid) → serials_from n ds → e.serial < n → sold_as ds e ≡ None
before_first n [] e s less = refl
before_first n (d ∷ ds) e s less =
    ap (λ (b : Bool). cond b (Some d.purchase) (sold_as ds e)) (differ d.epoid e (λ same. omega (arith, same, s.0, less)))
    ∙ before_first (n + 1) ds e s.1 (omega (arith, less))

pub by_serial : (n : ℕ) (ds : List Delivery) (e : Epoid) → serials_from n ds → n ≤ e.serial → sold_as ds e ≡ given_as (slice_get ds (e.serial - n)) e
by_serial n [] e s most = refl
by_serial n (d ∷ ds) e s most = by (by_serial (n + 1) ds e s.1) (e.serial == n) refl
  where
    by : (n + 1 ≤ e.serial → sold_as ds e ≡ given_as (slice_get ds (e.serial - (n + 1))) e) → (first : Bool) → (e.serial == n) ≡ first → sold_as (d ∷ ds) e ≡ given_as (slice_get (d ∷ ds) (e.serial - n)) e
    by rest true is =
        let here : e.serial - n ≡ 0 = omega (arith, eqb-true e.serial n is) in
        let behind : sold_as ds e ≡ None = before_first (n + 1) ds e s.1 (omega (arith, eqb-true e.serial n is)) in
        rw (here, behind) refl
    by rest false is =
        let more : n + 1 ≤ e.serial = omega (arith, most, eqb-false e.serial n is) in
        let place : e.serial - n ≡ suc (e.serial - (n + 1)) = omega (arith, more) in
        ap (λ (b : Bool). cond b (Some d.purchase) (sold_as ds e)) (differ d.epoid e (λ same. eqb-false e.serial n is (sym same ∙ s.0)))
        ∙ rest more ∙ sym (ap (λ (i : ℕ). given_as (slice_get (d ∷ ds) i) e) place)

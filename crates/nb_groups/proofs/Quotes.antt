-- What a quote is, by whether it is denied.
use Rattle.std.proofs.Common.{◌≡◌, ◌↔◌, ℕ, ◌≤◌, Bool, true, false, cond, nat_lt, List, [], ◌∷◌, Option, None, Some, Result, Ok, Err, inl, refl, sym, ap, subst, ◌∙◌}
use Rattle.std.specs.Prelude.{◌==◌}
use Rattle.std.proofs.lemmas.Bool.{eqb-true, ltb-false}
use Rattle.nb_units.specs.Fields.{◌>>=◌}
use Rattle.nb_units.specs.declared.ids.PartyId.{PartyId}
use Rattle.nb_price.specs.declared.fault.NoProduct.{NoProduct}
use Rattle.nb_price.specs.Products.{Product, product_in}
use Rattle.nb_groups.specs.declared.found.Offer.{Offer}
use Rattle.nb_groups.specs.declared.membership.Membership.{Membership}
use Rattle.nb_groups.specs.declared.quoting.Denial.{Denial}
use Rattle.nb_groups.specs.declared.quoting.Denial.TheVariants as denial
use Rattle.nb_groups.specs.declared.quoting.Quoted.{Quoted}
use Rattle.nb_groups.specs.Offers.{offers_for}
use Rattle.nb_groups.specs.Reading.{membership_in}
use Rattle.nb_groups.specs.Quote.{admitted, some_offer, offers_shown, chosen, quoted_with, quoted_of}
use Rattle.nb_groups.specs.Laws.{IsLeast, QuoteIsLeast, DeniedIsShelf, NoOfferExactly}
use Rattle.nb_groups.proofs.Exactly.{opened_exactly}
use Rattle.nb_groups.proofs.Least.{In, among, among_is_for, chosen_is_least}

no_denial : (d : Denial) → ◌≡◌ {A = Option Denial} (Some d) None → ⊥
no_denial d e = cc

none_denied : (d : Denial) → ◌≡◌ {A = Option Denial} None (Some d) → ⊥
none_denied d e = cc

same_quote : (a b : Quoted) → ◌≡◌ {A = Result Quoted NoProduct} (Ok a) (Ok b) → a ≡ b
same_quote a b e = cc

no_quote : (n : NoProduct) (q : Quoted) → ◌≡◌ {A = Result Quoted NoProduct} (Err n) (Ok q) → ⊥
no_quote n q e = cc

same_offers : (a b : List Offer) → ◌≡◌ {A = Result (List Offer) Denial} (Ok a) (Ok b) → a ≡ b
same_offers a b e = cc

no_offers : (d : Denial) (os : List Offer) → ◌≡◌ {A = Result (List Offer) Denial} (Err d) (Ok os) → ⊥
no_offers d os e = cc

none_admitted : (d : Denial) (h : Membership) → ◌≡◌ {A = Result Membership Denial} (Err d) (Ok h) → ⊥
none_admitted d h e = cc

-- a quote is of a product, with what is shown
of_product : (product : ℕ) (found : Option Product) (shown : Result (List Offer) Denial) (q : Quoted) → quoted_of product found shown ≡ Ok q
    → (p : Product) × (found ≡ Some p) × (q ≡ quoted_with p.price shown)
of_product product None shown q e = absurd (no_quote _ q e)
of_product product (Some p) shown q e = (p, refl, sym (same_quote (quoted_with p.price shown) q e))

-- without a denial offers are shown
shown_offers : (shelf : ℕ) (shown : Result (List Offer) Denial) → (quoted_with shelf shown).denied ≡ None → (os : List Offer) × (shown ≡ Ok os)
shown_offers shelf (Ok os) e = (os, refl)
shown_offers shelf (Err d) e = absurd (no_denial d e)

-- who is admitted asks for itself, and in time
admits : (m h : Membership) (asked : PartyId) (now : ℕ) → admitted m asked now ≡ Ok h → (m.consumer.0 ≡ asked.0) × (now ≤ m.until)
admits m h asked now e = by (m.consumer.0 == asked.0) refl (nat_lt m.until now) refl e
  where
    holds : (b c : Bool) → Result Membership Denial
    holds b c = cond b (cond c (Err (denial.Expired m.until now)) (Ok m)) (Err (denial.WrongConsumer m.consumer asked))

    by : (b : Bool) → (m.consumer.0 == asked.0) ≡ b → (c : Bool) → nat_lt m.until now ≡ c → holds b c ≡ Ok h → (m.consumer.0 ≡ asked.0) × (now ≤ m.until)
    by true same true over e = absurd (none_admitted _ h e)
    by true same false over e = (eqb-true m.consumer.0 asked.0 same, ltb-false m.until now over)
    by false other c over e = absurd (none_admitted _ h e)

some_offers : (product : ℕ) (offers os : List Offer) → some_offer product offers ≡ Ok os → os ≡ offers
some_offers product [] os e = absurd (no_offers _ os e)
some_offers product (o ∷ offers) os e = sym (same_offers (o ∷ offers) os e)

-- offers are shown to who is admitted with what a credential says
shown_to : (offers : List Offer) (product : ℕ) (asked : PartyId) (now : ℕ) (r : Result Membership Denial) (os : List Offer)
    → (r >>= λ m. (admitted m asked now >>= λ h. some_offer product (offers_for offers product m.groups))) ≡ Ok os
    → (m : Membership) × (r ≡ Ok m) × ((m.consumer.0 ≡ asked.0) × (now ≤ m.until)) × (os ≡ offers_for offers product m.groups)
shown_to offers product asked now (Err d) os e = absurd (no_offers d os e)
shown_to offers product asked now (Ok m) os e = by (admitted m asked now) refl e
  where
    by : (a : Result Membership Denial) → admitted m asked now ≡ a → (a >>= λ h. some_offer product (offers_for offers product m.groups)) ≡ Ok os
        → (n : Membership) × (◌≡◌ {A = Result Membership Denial} (Ok m) (Ok n)) × ((n.consumer.0 ≡ asked.0) × (now ≤ n.until)) × (os ≡ offers_for offers product n.groups)
    by (Err d) is e = absurd (no_offers d os e)
    by (Ok h) is e = (m, refl, admits m h asked now is, some_offers product (offers_for offers product m.groups) os e)

pub quote_is_least : QuoteIsLeast
quote_is_least products tariff product asked request now q are apart e none =
    let of = of_product product (product_in products product) (offers_shown tariff product asked request now) q e in
    let os = shown_offers of.0.price (offers_shown tariff product asked request now) (sym (ap (λ (x : Quoted). x.denied) of.2) ∙ none) in
    let to = shown_to tariff.offers product asked now (membership_in tariff.keeper request) os.0 os.1 in
    let says = (opened_exactly tariff.keeper request to.0 are).0 to.1 in
    let is : q ≡ chosen of.0.price (offers_for tariff.offers product to.0.groups) = of.2 ∙ ap (quoted_with of.0.price) os.1 ∙ ap (chosen of.0.price) to.3 in
    record {
      shelf = of.0;
      found = of.1;
      carries = record { says = to.0; fits = says.0; sealed = says.1; own = to.2.0; holds = to.2.1 };
      least = subst (IsLeast of.0.price tariff.offers product to.0.groups) (sym is) (chosen_is_least of.0.price tariff.offers product to.0.groups apart says.0.groups);
    }

-- with a denial the price is the shelf's
denied_with : (shelf : ℕ) (shown : Result (List Offer) Denial) (d : Denial) → (quoted_with shelf shown).denied ≡ Some d
    → ((quoted_with shelf shown).price.0 ≡ shelf) × ((quoted_with shelf shown).group ≡ None)
denied_with shelf (Ok os) d e = absurd (none_denied d e)
denied_with shelf (Err other) d e = (refl, refl)

pub denied_is_shelf : DeniedIsShelf
denied_is_shelf products tariff product asked request now q d e denied =
    let of = of_product product (product_in products product) (offers_shown tariff product asked request now) q e in
    let is = denied_with of.0.price (offers_shown tariff product asked request now) d (sym (ap (λ (x : Quoted). x.denied) of.2) ∙ denied) in
    (of.0, of.1, ap (λ (x : Quoted). x.price.0) of.2 ∙ is.0, ap (λ (x : Quoted). x.group) of.2 ∙ is.1)

-- that there is no offer is told where none was found
none_found : (shelf product : ℕ) (os : List Offer) → ((quoted_with shelf (some_offer product os)).denied ≡ Some (denial.NoOffer product)) ↔ ((o : Offer) → ¬ In os o)
none_found shelf product [] = (λ e o i. i, λ none. refl)
none_found shelf product (o ∷ os) = (λ e. absurd (none_denied _ e), λ none. absurd (none o (inl refl)))

pub no_offer_exactly : NoOfferExactly
no_offer_exactly products tariff product asked request now q m apart says holds e =
    let of = of_product product (product_in products product) (offers_shown tariff product asked request now) q e in
    let shown : offers_shown tariff product asked request now ≡ some_offer product (offers_for tariff.offers product m.groups) = rw (says, holds) refl in
    let denied : q.denied ≡ (quoted_with of.0.price (some_offer product (offers_for tariff.offers product m.groups))).denied =
    ap (λ (x : Quoted). x.denied) (of.2 ∙ ap (quoted_with of.0.price) shown) in
    let found = none_found of.0.price product (offers_for tariff.offers product m.groups) in (
      λ none o for. found.0 (sym denied ∙ none) o (among tariff.offers product m.groups apart o for),
      λ none. denied ∙ found.1 (λ o i. none o (among_is_for tariff.offers product m.groups o i)),
    )

-- What a product costs the consumer who asks.
use Rattle.std.specs.Prelude.{◌≡◌, ◌≤◌, ℕ, ◌==◌, nat_lt, min, List, [], ◌∷◌, Option, None, Some, Result, Ok, Err, if◌then◌else◌}
use Rattle.nb_units.specs.Fields.{◌>>=◌}
use Rattle.nb_units.specs.declared.ids.PartyId.{PartyId}
use Rattle.nb_price.specs.declared.fault.NoProduct.{NoProduct}
use Rattle.nb_price.specs.Products.{Product, product_in}
use Rattle.nb_groups.specs.declared.found.Offer.{Offer}
use Rattle.nb_groups.specs.declared.membership.Membership.{Membership}
use Rattle.nb_groups.specs.declared.quoting.Denial.{Denial}
use Rattle.nb_groups.specs.declared.quoting.Denial.TheVariants.{WrongConsumer, Expired, NoOffer}
use Rattle.nb_groups.specs.declared.quoting.Quoted.{Quoted}
use Rattle.nb_groups.specs.Offers.{Tariff, offers_for}
use Rattle.nb_groups.specs.Spelling.{IsMembership, credential_of}
use Rattle.nb_groups.specs.Reading.{membership_in}

-- a credential of the one who asks, which holds at this moment; or that it is another's, or that its last second is over
abbrev pub admitted : Membership → PartyId → ℕ → Result Membership Denial
admitted m asked now =
    if m.consumer.0 == asked.0 then (if nat_lt m.until now then Err (Expired m.until now) else Ok m) else Err (WrongConsumer m.consumer asked)

-- a request is a credential of the one who asks, sealed under the keeper's key, which holds at this moment
pub record Carries (keeper : List ℕ) (asked : PartyId) (request : List ℕ) (now : ℕ) : Type 0 where
  pub says : Membership
  pub fits : IsMembership says
  pub sealed : request ≡ credential_of keeper says
  pub own : says.consumer.0 ≡ asked.0
  pub holds : now ≤ says.until

-- offers of a product, or that there is none
abbrev pub some_offer : ℕ → List Offer → Result (List Offer) Denial
some_offer product [] = Err (NoOffer product)
some_offer product (o ∷ offers) = Ok (o ∷ offers)

-- the offers of a product for the groups of the one who asks with a request at a moment; or the first reason why there are none
abbrev pub offers_shown : Tariff → ℕ → PartyId → List ℕ → ℕ → Result (List Offer) Denial
offers_shown tariff product asked request now = do
  m ← membership_in tariff.keeper request
  holds ← admitted m asked now
  some_offer product (offers_for tariff.offers product m.groups)

-- the least of a price and those of offers
abbrev pub least : ℕ → List Offer → ℕ
least price [] = price
least price (o ∷ offers) = min o.price (least price offers)

-- the group of the first offer of a price
abbrev pub group_at : ℕ → List Offer → Option ℕ
group_at price [] = None
group_at price (o ∷ offers) = if o.price == price then Some o.group else group_at price offers

-- the least of the shelf's price and those of offers, and its group, which there is none of where it is the shelf's
abbrev pub chosen : ℕ → List Offer → Quoted
chosen shelf offers = record {
  price = record { 0 = least shelf offers };
  group = if least shelf offers == shelf then None else group_at (least shelf offers) offers;
  denied = None;
}

-- the choice among the offers, or the shelf's price and why there are none
abbrev pub quoted_with : ℕ → Result (List Offer) Denial → Quoted
quoted_with shelf (Ok offers) = chosen shelf offers
quoted_with shelf (Err denial) = record { price = record { 0 = shelf }; group = None; denied = Some denial }

-- what is quoted of a product, or that there is none of this number
abbrev pub quoted_of : ℕ → Option Product → Result (List Offer) Denial → Result Quoted NoProduct
quoted_of product None shown = Err (record { id = product })
quoted_of product (Some p) shown = Ok (quoted_with p.price shown)

-- what a product costs who asks with a request at a moment
abbrev pub quote_of : List Product → Tariff → ℕ → PartyId → List ℕ → ℕ → Result Quoted NoProduct
quote_of products tariff product asked request now = quoted_of product (product_in products product) (offers_shown tariff product asked request now)

-- A list of offers: the line of the keeper, and then a line for each offer.
use Rattle.std.specs.Prelude.{◌≡◌, ℕ, ◌<◌, ◌^◌, List, [], ◌∷◌, ◌++◌, length, map, nat_eq, Bool, ◌&&◌, Option, None, Some, Ok, if◌then◌else◌}
use Rattle.std.specs.List.{flat_map, filter_map, AllByRecursion, IsDistinct}
use Rattle.std.specs.Fmt.{decimal}
use Rattle.std.specs.Borrow.{Bor}
use Rattle.hex.specs.Hex.{decode_sized}
use Rattle.nb_price.specs.declared.limits.TheConstants.{SEMICOLON, LINE_FEED}
use Rattle.nb_price.specs.Shelf.{IsPrice}
use Rattle.nb_groups.specs.declared.limits.TheConstants.{KEEPER}
use Rattle.nb_groups.specs.declared.found.Offer.{Offer}

-- what offers are seen as: the keeper's key, and for products and groups a price
pub record Tariff : Type 0 where
  pub keeper : List ℕ
  pub offers : List Offer

-- for which product and which group it is
abbrev pub key_of : Offer → ℕ × ℕ
key_of o = (o.product, o.group)

-- it is the same product and the same group
abbrev pub same_key : ℕ × ℕ → ℕ × ℕ → Bool
same_key a b = nat_eq a.0 b.0 && nat_eq a.1 b.1

-- that of a product and a group, and a price
abbrev pub offer_at : (ℕ × ℕ) × ℕ → Offer
offer_at e = record { product = e.0.0; group = e.0.1; price = e.1 }

-- the price of a product for a group, if one is offered
abbrev pub price_for : List Offer → ℕ × ℕ → Option ℕ
price_for [] key = None
price_for (o ∷ offers) key = if same_key key (key_of o) then Some o.price else price_for offers key

-- the offer of a product for a group, if there is one
abbrev pub offer_for : ℕ → ℕ → Option ℕ → Option Offer
offer_for product group None = None
offer_for product group (Some price) = Some (record { product = product; group = group; price = price })

-- those of a product for some groups, in the order of the groups
abbrev pub offers_for : List Offer → ℕ → List ℕ → List Offer
offers_for offers product groups = filter_map (λ group. offer_for product group (price_for offers (product, group))) groups

-- each part of an offer is within its limits
pub record IsOffer (o : Offer) : Type 0 where
  pub product : o.product < 2 ^ 32
  pub group : o.group < 2 ^ 32
  pub price : IsPrice o.price

-- the line of an offer: product;group;price. Numbers are decimal, without sign or leading zero
unfoldable pub offer_bytes : Offer → List ℕ
offer_bytes o = decimal o.product ++ SEMICOLON ∷ (decimal o.group ++ SEMICOLON ∷ (decimal o.price ++ LINE_FEED ∷ []))

-- the lines of offers
abbrev pub offers_bytes : List Offer → List ℕ
offers_bytes offers = flat_map offer_bytes offers

-- no two offers are for one product and one group
abbrev pub AreApart : List Offer → Type 0
AreApart offers = IsDistinct same_key (map key_of offers)

-- each is an offer, and no two are for one product and one group
pub record AreOffers (offers : List Offer) : Type 0 where
  pub all : AllByRecursion IsOffer offers
  pub apart : AreApart offers

-- a line of the keeper stands at the front of the bytes: "keeper ", and the 64 digits of the key, of either case
pub record BeginsWithKeeper (bytes keeper rest : List ℕ) : Type 0 where
  pub digits : List ℕ
  pub long : length digits ≡ 64
  pub key : decode_sized digits 32 ≡ Ok keeper
  pub spelled : bytes ≡ KEEPER ++ digits ++ LINE_FEED ∷ rest

-- the line of an offer stands at the front of the bytes
abbrev pub BeginsWith : List ℕ → Offer → List ℕ → Type 0
BeginsWith bytes o rest = IsOffer o × (bytes ≡ offer_bytes o ++ rest)

-- no line of an offer does
abbrev pub BeginsWithNone : List ℕ → Type 0
BeginsWithNone bytes = (o : Offer) (rest : List ℕ) → ¬ BeginsWith bytes o rest

-- for the contract of a private function alone: the line of this offer was read
abbrev pub IsFound : Option (Offer × Bor (List ℕ)) → Offer → List ℕ → Type 0
IsFound (Some p) o rest = (p.0 ≡ o) × (p.1.now ≡ rest)
IsFound None o rest = ⊥

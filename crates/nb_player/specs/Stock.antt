-- What merchants sell, by the lines of shelves.
use Rattle.std.specs.Prelude.{◌≡◌, ℕ, zero, suc, ◌==◌, ◌%◌, Bool, List, [], ◌∷◌, ◌++◌, map, None}
use Rattle.std.specs.List.{filter}
use Rattle.nb_units.specs.declared.ids.PartyId.{PartyId}
use Rattle.nb_price.specs.Products.{Product, product_in}
use Rattle.nb_stall.specs.declared.stall.Stall.{Stall}
use Rattle.nb_script.specs.declared.line.Shelf.{Shelf}
use Rattle.nb_script.specs.declared.line.Merchant.{Merchant}
use Rattle.nb_script.specs.Settings.{IsShelf}

-- goods of so many bytes: the one at place i is i modulo 251
unfoldable pub goods_of : ℕ → List ℕ
goods_of zero = []
goods_of (suc n) = goods_of n ++ n % 251 ∷ []

-- the product of a shelf
abbrev pub product_of : Shelf → Product
product_of x = record { id = x.product; price = x.price.0; goods = goods_of x.length }

-- it is the merchant's
abbrev pub is_sellers : PartyId → Shelf → Bool
is_sellers merchant x = x.merchant.0 == merchant.0

-- the merchant's products, in the order of the lines
abbrev pub catalogue_of : PartyId → List Shelf → List Product
catalogue_of merchant shelves = map product_of (filter (is_sellers merchant) shelves)

-- who sells
abbrev pub stall_of : Merchant → Stall
stall_of m = record { id = m.id; acct = m.acct; key = m.key; master = m.master }

-- the merchants with these
abbrev pub merchants_of : List Merchant → List Shelf → List (Stall × List Product)
merchants_of merchants shelves = map (λ (m : Merchant). (stall_of m, catalogue_of m.id shelves)) merchants

-- ---- for the contracts of private functions alone

-- the product of a shelf is none of these, and may be one
abbrev pub IsNew : List Product → Shelf → Type 0
IsNew products x = IsShelf x × (product_in products x.product ≡ None)

-- with the product of a shelf behind them
abbrev pub with_shelf : List Product → Shelf → List Product
with_shelf products x = products ++ product_of x ∷ []

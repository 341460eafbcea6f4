-- What reading the offers and the shelf of one who sells comes to.
use Rattle.std.specs.Prelude.{◌≡◌, ◌⊎◌, ℕ, ◌≤◌, List, ◌∷◌, length, Option, Some, None, Result, Ok, Err}
use Rattle.nb_port.specs.Faults.{Rose}
use Rattle.nb_price.specs.declared.limits.TheConstants.{LINE_FEED, MAX_SHELF}
use Rattle.nb_price.specs.Products.{Product}
use Rattle.nb_price.specs.Reads as shelves
use Rattle.nb_groups.specs.declared.fault.OffersFault.TheVariants as faults
use Rattle.nb_groups.specs.Offers.{Tariff}
use Rattle.nb_groups.specs.Reads.{Front, FaultIs, IsEmptyLine}
use Rattle.nb_commands.specs.declared.ending.Ending.{Ending}
use Rattle.nb_commands.specs.declared.ending.Job.TheVariants.{Serve, Buy, Sell}
use Rattle.nb_commands.specs.declared.ending.Outcome.{Outcome}
use Rattle.nb_commands.specs.declared.ending.Outcome.TheVariants.{Done, Work}
use Rattle.nb_commands.specs.declared.ending.TheConstants.{SOURCE_FAILED, BAD_INPUT, OUT_OF_MEMORY}
use Rattle.nb_commands.specs.declared.offering.WaresEnd.{WaresEnd}
use Rattle.nb_commands.specs.declared.offering.WaresEnd.TheVariants as ends
use Rattle.nb_commands.specs.Ending.{at_no_place}
use Rattle.nb_commands.specs.Input.{TookAll, TookMore, TookUpTo}

-- how it ends the program: a bad line of the offers is shown by its number, and so is a bad item of the shelf; an input that is too long at no place
abbrev pub wares_ending : WaresEnd → Ending
wares_ending ends.ReadFault = at_no_place SOURCE_FAILED
wares_ending ends.TooLong = at_no_place BAD_INPUT
wares_ending (ends.BadLine line) = record { status = BAD_INPUT; place = line }
wares_ending (ends.BadItem item) = record { status = BAD_INPUT; place = item }
wares_ending ends.NoMemory = at_no_place OUT_OF_MEMORY

-- offers stand at the front of the bytes, behind them an empty line, and then a shelf
abbrev pub BeginsWithOffers : List ℕ → Tariff → List ℕ → Type 0
BeginsWithOffers input tariff shelf = Front input tariff (LINE_FEED ∷ shelf)

-- all of the input was read, and it is these offers, an empty line, and the shelf of these products
pub record AreWares (left left' : Option (List ℕ)) (tariff : Tariff) (products : List Product) : Type 0 where
  pub input : List ℕ
  pub shelf : List ℕ
  pub all : TookAll left left' MAX_SHELF input
  pub offers : BeginsWithOffers input tariff shelf
  pub is : shelves.IsCatalogue shelf products

-- all of it was read, and this is the first line of its offers that is bad, or is for the product and the group of one before it
pub record HasBadLine (left left' : Option (List ℕ)) (line : ℕ) : Type 0 where
  pub input : List ℕ
  pub all : TookAll left left' MAX_SHELF input
  pub bad : FaultIs IsEmptyLine input (faults.BadLine line) ⊎ FaultIs IsEmptyLine input (faults.Twice line)

-- all of it was read, its offers are good, and this is the first item of its shelf that is bad, or has the number of one before it
pub record HasBadWare (left left' : Option (List ℕ)) (item : ℕ) : Type 0 where
  pub input : List ℕ
  pub tariff : Tariff
  pub shelf : List ℕ
  pub all : TookAll left left' MAX_SHELF input
  pub offers : BeginsWithOffers input tariff shelf
  pub bad : shelves.FailsAt shelf item ⊎ ((id : ℕ) × shelves.RepeatsAt shelf item id)

-- by cases on what was read, for what was left of the input and the counts of faults of the source
abbrev pub WaresAre : Option (List ℕ) → Option (List ℕ) → ℕ → ℕ → Result (Tariff × List Product) WaresEnd → Type 0
WaresAre left left' source source' (Ok wares) = AreWares left left' wares.0 wares.1
WaresAre left left' source source' (Err ends.ReadFault) = Rose source source' × TookUpTo left left' MAX_SHELF
WaresAre left left' source source' (Err ends.TooLong) = TookMore left left' MAX_SHELF
WaresAre left left' source source' (Err (ends.BadLine line)) = HasBadLine left left' line
WaresAre left left' source source' (Err (ends.BadItem item)) = HasBadWare left left' item
WaresAre left left' source source' (Err ends.NoMemory) = TookUpTo left left' MAX_SHELF

-- what is left to do, or how the run ends
abbrev pub offered : ℕ → Result (Tariff × List Product) WaresEnd → Outcome
offered links (Ok wares) = Work (Sell links wares.1 (Some wares.0))
offered links (Err end) = Done (wares_ending end)

-- offers and shelf were read, or they were not, and the run comes to that
abbrev pub OffersAs : Option (List ℕ) → Option (List ℕ) → ℕ → ℕ → ℕ → Outcome → Type 0
OffersAs left left' source source' links outcome = (read : Result (Tariff × List Product) WaresEnd) × (outcome ≡ offered links read) × WaresAre left left' source source' read

-- the input is these offers, an empty line and the shelf of these products, and nothing else
pub record IsWaresInput (left : Option (List ℕ)) (tariff : Tariff) (products : List Product) : Type 0 where
  pub input : List ℕ
  pub goods : List ℕ
  pub is : left ≡ Some input
  pub few : length input ≤ MAX_SHELF
  pub offers : BeginsWithOffers input tariff goods
  pub shelf : shelves.IsCatalogue goods products

-- a run that ends here ends so, and one whose work is left to do is to sell with offers
abbrev pub OffersOnly : Option (List ℕ) → Option (List ℕ) → ℕ → ℕ → ℕ → Outcome → Type 0
OffersOnly left left' source source' links (Done ending) =
    ((ending.status ≡ SOURCE_FAILED) × Rose source source') ⊎ (ending.status ≡ BAD_INPUT) ⊎ (ending.status ≡ OUT_OF_MEMORY)
OffersOnly left left' source source' links (Work (Serve workers sessions)) = ⊥
OffersOnly left left' source source' links (Work (Buy merchant product limit transaction request)) = ⊥
OffersOnly left left' source source' links (Work (Sell many products None)) = ⊥
OffersOnly left left' source source' links (Work (Sell many products (Some tariff))) = (many ≡ links) × AreWares left left' tariff products

-- What reading the shelf of one who sells comes to.
use Rattle.std.specs.Prelude.{◌≡◌, ◌⊎◌, ℕ, ◌≤◌, List, length, Option, Some, None, Result, Ok, Err}
use Rattle.nb_port.specs.Faults.{Rose}
use Rattle.nb_price.specs.declared.limits.TheConstants.{MAX_SHELF}
use Rattle.nb_price.specs.Products.{Product}
use Rattle.nb_price.specs.Reads.{FailsAt, RepeatsAt, IsCatalogue}
use Rattle.nb_commands.specs.declared.ending.Ending.{Ending}
use Rattle.nb_commands.specs.declared.ending.Job.TheVariants.{Serve, Buy, Sell}
use Rattle.nb_commands.specs.declared.ending.Outcome.{Outcome}
use Rattle.nb_commands.specs.declared.ending.Outcome.TheVariants.{Done, Work}
use Rattle.nb_commands.specs.declared.ending.TheConstants.{SOURCE_FAILED, BAD_INPUT, OUT_OF_MEMORY}
use Rattle.nb_commands.specs.declared.selling.ShelfEnd.{ShelfEnd}
use Rattle.nb_commands.specs.declared.selling.ShelfEnd.TheVariants as ends
use Rattle.nb_commands.specs.Ending.{at_no_place}
use Rattle.nb_commands.specs.Input.{TookAll, TookMore, TookUpTo}

-- how it ends the program: a bad item is shown by its number, and one that is too long at no place
abbrev pub shelf_ending : ShelfEnd → Ending
shelf_ending ends.ReadFault = at_no_place SOURCE_FAILED
shelf_ending ends.TooLong = at_no_place BAD_INPUT
shelf_ending (ends.BadItem item) = record { status = BAD_INPUT; place = item }
shelf_ending ends.NoMemory = at_no_place OUT_OF_MEMORY

-- all of the input was read, and it is the shelf of these products
pub record IsStock (left left' : Option (List ℕ)) (products : List Product) : Type 0 where
  pub input : List ℕ
  pub all : TookAll left left' MAX_SHELF input
  pub is : IsCatalogue input products

-- all of it was read, and this is its first item that is bad, or has the number of one before it
pub record HasBadItem (left left' : Option (List ℕ)) (item : ℕ) : Type 0 where
  pub input : List ℕ
  pub all : TookAll left left' MAX_SHELF input
  pub bad : FailsAt input item ⊎ ((id : ℕ) × RepeatsAt input item id)

-- by cases on what was read, for what was left of the input and the counts of faults of the source
abbrev pub ReadsAs : Option (List ℕ) → Option (List ℕ) → ℕ → ℕ → Result (List Product) ShelfEnd → Type 0
ReadsAs left left' source source' (Ok products) = IsStock left left' products
ReadsAs left left' source source' (Err ends.ReadFault) = Rose source source' × TookUpTo left left' MAX_SHELF
ReadsAs left left' source source' (Err ends.TooLong) = TookMore left left' MAX_SHELF
ReadsAs left left' source source' (Err (ends.BadItem item)) = HasBadItem left left' item
ReadsAs left left' source source' (Err ends.NoMemory) = TookUpTo left left' MAX_SHELF

-- what is left to do, or how the run ends
abbrev pub stocked : ℕ → Result (List Product) ShelfEnd → Outcome
stocked links (Ok products) = Work (Sell links products None)
stocked links (Err end) = Done (shelf_ending end)

-- the shelf was read, or it was not, and the run comes to that
abbrev pub StocksAs : Option (List ℕ) → Option (List ℕ) → ℕ → ℕ → ℕ → Outcome → Type 0
StocksAs left left' source source' links outcome = (read : Result (List Product) ShelfEnd) × (outcome ≡ stocked links read) × ReadsAs left left' source source' read

-- the input is the shelf of these products, and nothing else
pub record IsShelfInput (left : Option (List ℕ)) (products : List Product) : Type 0 where
  pub input : List ℕ
  pub is : left ≡ Some input
  pub few : length input ≤ MAX_SHELF
  pub shelf : IsCatalogue input products

-- a run that ends here ends so, and one whose work is left to do is to sell
abbrev pub StocksOnly : Option (List ℕ) → Option (List ℕ) → ℕ → ℕ → ℕ → Outcome → Type 0
StocksOnly left left' source source' links (Done ending) =
    ((ending.status ≡ SOURCE_FAILED) × Rose source source') ⊎ (ending.status ≡ BAD_INPUT) ⊎ (ending.status ≡ OUT_OF_MEMORY)
StocksOnly left left' source source' links (Work (Serve workers sessions)) = ⊥
StocksOnly left left' source source' links (Work (Buy merchant product limit transaction request)) = ⊥
StocksOnly left left' source source' links (Work (Sell many products None)) = (many ≡ links) × IsStock left left' products
StocksOnly left left' source source' links (Work (Sell many products (Some tariff))) = ⊥

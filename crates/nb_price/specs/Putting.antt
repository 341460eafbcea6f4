-- What putting a product into a catalogue answers.
use Rattle.std.specs.Prelude.{◌≡◌, ◌≢◌, ℕ, ◌<◌, ◌≤◌, List, [], ◌∷◌, ◌++◌, length, Result, Ok, Err, None}
use Rattle.nb_units.specs.declared.ids.Price.{Price}
use Rattle.nb_goods.specs.declared.limits.TheConstants.{MAX_GOODS}
use Rattle.nb_price.specs.declared.fault.PutFault.{PutFault}
use Rattle.nb_price.specs.declared.fault.PutFault.TheVariants.{BadPrice, TooLong, Taken, NoMemory}
use Rattle.nb_price.specs.Shelf.{IsPrice}
use Rattle.nb_price.specs.Products.{Product, product_in}

-- the product stands behind the others; or all is as before, and the first of these that is so is told: its price is out of the limits, its
-- goods are too long, a product of its number is there, there was no memory
abbrev pub PutsProduct : List Product → List Product → ℕ → Price → List ℕ → Result (Unit {0}) PutFault → Type 0
PutsProduct old new id price goods (Ok done) =
    IsPrice price.0 × (length goods ≤ MAX_GOODS) × (product_in old id ≡ None) × (new ≡ old ++ record { id = id; price = price.0; goods = goods } ∷ [])
PutsProduct old new id price goods (Err (BadPrice told)) = (new ≡ old) × (told ≡ price) × ¬ IsPrice price.0
PutsProduct old new id price goods (Err (TooLong len)) = (new ≡ old) × IsPrice price.0 × (len ≡ length goods) × (MAX_GOODS < length goods)
PutsProduct old new id price goods (Err (Taken told)) =
    (new ≡ old) × IsPrice price.0 × (length goods ≤ MAX_GOODS) × (told ≡ id) × (product_in old id ≢ None)
PutsProduct old new id price goods (Err NoMemory) = (new ≡ old) × IsPrice price.0 × (length goods ≤ MAX_GOODS) × (product_in old id ≡ None)

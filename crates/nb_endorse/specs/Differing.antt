-- In what a receipt differs from the order that it should be of.
use Rattle.std.specs.Prelude.{◌≡◌, ◌==◌, ℕ, Option, Some, None, if◌then◌else◌}
use Rattle.nb_units.specs.declared.epoid.Epoid.{Epoid}
use Rattle.nb_units.specs.declared.ids.PartyId.{PartyId}
use Rattle.nb_units.specs.declared.ids.Price.{Price}
use Rattle.nb_units.specs.Epoid.{is_same_epoid}
use Rattle.nb_endorse.specs.declared.receipt.Receipt.{Receipt}

-- the first of five fields that is another: 1 the identifier, 2 the consumer, 3 the merchant, 4 the product, 5 the price
abbrev pub first_difference : Receipt → Epoid → PartyId → PartyId → ℕ → Price → Option ℕ
first_difference r epoid consumer merchant product price =
    if is_same_epoid r.epoid epoid then
    if r.consumer.0 == consumer.0 then
    if r.merchant.0 == merchant.0 then
    if r.product == product then
    if r.price.0 == price.0 then None else Some 5
    else Some 4
    else Some 3
    else Some 2
    else Some 1

-- all five are the same
pub record IsOf (r : Receipt) (name : Epoid) (payer payee : PartyId) (item : ℕ) (amount : Price) : Type 0 where
  pub epoid : r.epoid ≡ name
  pub consumer : r.consumer ≡ payer
  pub merchant : r.merchant ≡ payee
  pub product : r.product ≡ item
  pub price : r.price ≡ amount

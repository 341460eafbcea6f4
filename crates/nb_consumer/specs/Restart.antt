-- How a consumer starts again with the items of its journal: each must be the spelling of one that a row keeps behind those before it. Of an order
-- the account digest, the hidden part and the tag are not tested.
use Rattle.std.specs.Prelude.{◌≡◌, ℕ, ◌+◌, ◌-◌, ◌==◌, ◌&&◌, nat_lt, nat_le, if◌then◌else◌, Bool, true, false, is_ok, is_some, is_none, List, [], ◌∷◌, ◌++◌, map, length, Option, Some, None, Result, Ok, Err, ⊤}
use Rattle.std.specs.Option.{option_map_or}
use Rattle.std.specs.Str.{bytes_eq}
use Rattle.sha2.specs.Sha256.{sha256}
use Rattle.nb_body.specs.declared.goods_head.GoodsHead.{GoodsHead}
use Rattle.nb_epo.specs.declared.order.Order.{Order}
use Rattle.nb_units.specs.declared.ids.Price.{Price}
use Rattle.nb_msgs.specs.declared.node.RestartFault.{RestartFault}
use Rattle.nb_msgs.specs.declared.node.RestartFault.TheVariants as fault
use Rattle.nb_goods.specs.declared.limits.TheConstants.{MAX_SEALED}
use Rattle.nb_wallet.specs.declared.wallet.Wallet.{Wallet}
use Rattle.nb_wallet.specs.declared.item.Item.{Item}
use Rattle.nb_wallet.specs.declared.item.Item.TheVariants as item
use Rattle.nb_wallet.specs.declared.purchase.Stage.{Stage}
use Rattle.nb_wallet.specs.declared.purchase.Stage.TheVariants as stage
use Rattle.nb_wallet.specs.Purchases.{Purchase}
use Rattle.nb_consumer.specs.declared.rows.Wanting.{Wanting}
use Rattle.nb_wallet.specs.Reading.{item_of}
use Rattle.nb_consumer.specs.State.{Buyer, new_buyer, place_of, purchase_of, remembered}
use Rattle.nb_wallet.specs.Orders.{price_request_of_start}
use Rattle.nb_units.specs.Epoid.{is_same_epoid}
use Rattle.nb_consumer.specs.Table.{is_ticketing, is_price, pass_of_asked, wanting_in, owing_in, part_fits, receipt_fits}

-- ---- what may stand behind what is known

-- the purchase is known, and passes the test
abbrev pub holds_for : Option Purchase → (Purchase → Bool) → Bool
holds_for (Some p) test = test p
holds_for None test = false

-- it is at this stage, and passes the test
abbrev pub holds_at : {A : Type 0} → Option A → (A → Bool) → Bool
holds_at (Some x) test = test x
holds_at None test = false

-- a part passes the tests 2 to 4 of its row, and is not the last
abbrev pub part_follows : Purchase → GoodsHead → List ℕ → Wanting → Bool
part_follows p h part w = is_ok (part_fits p.start.merchant w.head p.held h part) && nat_lt (h.place + length part) h.total

-- an order names the wallet's id, the purchase's merchant and product, the price that was quoted, the request, and the checksum of all sealed
-- goods, and its identifier names the merchant
abbrev pub order_names : Wallet → Purchase → Price → Order → List ℕ → Bool
order_names w p price o sealed =
    o.consumer.0 == w.id.0 && o.merchant.0 == p.start.merchant.0 && o.product == p.start.product && o.price.0 == price.0
    && bytes_eq o.request (sha256 (price_request_of_start p.start)) && bytes_eq o.checksum (sha256 sealed) && o.epoid.merchant.0 == p.start.merchant.0

-- where parts are held, its identifier is the held one, and the part has the bytes that are left
abbrev pub is_rest : Option GoodsHead → List ℕ → Order → List ℕ → Bool
is_rest None held o part = true
is_rest (Some k) held o part = is_same_epoid o.epoid k.epoid && length part == k.total - length held

-- all parts have no more bytes than sealed goods may have. No row keeps an order for which it decides (`RestIsShort`): it has the bound at hand where the
-- part is held
abbrev pub is_short : List ℕ → List ℕ → Bool
is_short held part = nat_le (length held + length part) MAX_SEALED

-- a row keeps an order like this where these goods are wanted
abbrev pub order_follows : Wallet → Purchase → Order → List ℕ → Wanting → Bool
order_follows w p o part v = order_names w p v.price o (p.held ++ part) && is_rest v.head p.held o part && is_short p.held part

-- a row keeps an item like this behind what is known
abbrev pub allows : Buyer → Item → Bool
allows b (item.Started start) = is_none (place_of b.purchases start.transaction)
allows b (item.Granted transaction pass) = holds_for (purchase_of b transaction) (λ p. is_ticketing p.stage)
allows b (item.Wanted transaction price) = holds_for (purchase_of b transaction) (λ p. is_some (pass_of_asked p.stage) && is_price price p.start.limit)
allows b (item.Part head part) = holds_for (purchase_of b head.transaction) (λ p. holds_at (wanting_in p.stage) (part_follows p head part))
allows b (item.Forgotten transaction) = holds_for (purchase_of b transaction) (λ p. holds_at (wanting_in p.stage) (λ w. is_some w.head))
allows b (item.Ordered transaction order part) = holds_for (purchase_of b transaction) (λ p. holds_at (wanting_in p.stage) (order_follows b.wallet p order part))
allows b (item.Ended transaction receipt) = holds_for (purchase_of b transaction) (λ p. holds_at (owing_in p.stage) (λ o. is_ok (receipt_fits o.order receipt.receipt)))

-- ---- starting again

-- what is known behind an item, if a row keeps one like it
abbrev pub behind_allowed : Buyer → Item → Option Buyer
behind_allowed b item = if allows b item then Some (remembered b item) else None

-- what is known behind an item that was read, or none
abbrev pub behind_read : Buyer → Result Item ℕ → Option Buyer
behind_read b (Ok item) = behind_allowed b item
behind_read b (Err bad) = None

-- what is known behind bytes, if they are the spelling of an item that a row keeps
abbrev pub behind : Buyer → List ℕ → Option Buyer
behind b bytes = behind_read b (item_of bytes)

-- what is known behind items of which the first has this number, or the number of the first that a row does not keep
abbrev pub restarted_from : ℕ → Buyer → List (List ℕ) → Result Buyer ℕ
restarted_from n b [] = Ok b
restarted_from n b (bytes ∷ items) = option_map_or (λ c. restarted_from (n + 1) c items) (behind b bytes) (Err n)

-- what a consumer with this wallet knows behind all items of its journal
abbrev pub restarted : Wallet → List (List ℕ) → Result Buyer ℕ
restarted w items = restarted_from 0 (new_buyer w) items

-- what starting again answers; of want of memory nothing is said
abbrev pub Restarts : Wallet → List (List ℕ) → Result Buyer RestartFault → Type 0
Restarts w items (Ok b) = restarted w items ≡ Ok b
Restarts w items (Err (fault.BadItem n)) = restarted w items ≡ Err n
Restarts w items (Err fault.NoMemory) = ⊤

-- ---- what was kept

-- a consumer that was told no place since it started again
abbrev pub untold_stage : Stage → Stage
untold_stage (stage.Ordered pass order least) = stage.Ordered pass order 0
untold_stage other = other

-- a purchase without the place that it was told
abbrev pub untold_purchase : Purchase → Purchase
untold_purchase p = record p { stage = untold_stage p.stage }

-- a consumer without the places that it was told
abbrev pub untold : Buyer → Buyer
untold b = record b { purchases = map untold_purchase b.purchases }

-- these are the items that a consumer kept: it is what one is that starts again with them, but for the places that it was told
abbrev pub Kept : List (List ℕ) → Buyer → Type 0
Kept items b = restarted b.wallet items ≡ Ok (untold b)

-- there are items that it kept
unfoldable pub HasKept : Buyer → Type 0
HasKept b = (items : List (List ℕ)) × Kept items b

-- The one spelling of a kept item: the byte of its kind, the number of its purchase, and what the kind has. Numbers are big-endian; a
-- text has its length before it, in four bytes.
use Rattle.std.specs.Prelude.{◌≡◌, ℕ, ◌<◌, ◌≤◌, ◌^◌, List, [], ◌∷◌, ◌++◌, length}
use Rattle.nb_units.specs.Fields.{be4, be8, sized}
use Rattle.nb_units.specs.Epoid.{epoid_bytes}
use Rattle.nb_units.specs.declared.ids.Price.{Price}
use Rattle.nb_units.specs.declared.limits.TheConstants.{MAX_MEMO, MAX_HIDDEN}
use Rattle.nb_body.specs.declared.limits.TheConstants.{MAX_REQUEST}
use Rattle.nb_body.specs.declared.goods_head.GoodsHead.{GoodsHead}
pub use Rattle.nb_body.specs.Spelling.{IsGoodsHead}
use Rattle.nb_epo.specs.Spelling.{IsOrder, order_bytes}
use Rattle.nb_endorse.specs.declared.receipt.Signed.{Signed}
use Rattle.nb_endorse.specs.Replies.{ReceiptKeepsRules}
pub use Rattle.nb_endorse.specs.Spelling.{IsSigned}
use Rattle.nb_endorse.specs.Spelling.{signed_bytes}
use Rattle.nb_goods.specs.declared.limits.TheConstants.{PART_BYTES}
use Rattle.nb_ticket.specs.declared.ticket.TheConstants.{TICKET_BYTES}
use Rattle.nb_wallet.specs.declared.limits.TheConstants.{STARTED, GRANTED, WANTED, ORDERED, ENDED, PART, FORGOTTEN}
use Rattle.nb_wallet.specs.declared.wallet.Start.{Start}
use Rattle.nb_wallet.specs.declared.item.SessionTicket.{SessionTicket}
use Rattle.nb_wallet.specs.declared.item.Item.{Item}
use Rattle.nb_wallet.specs.declared.item.Item.TheVariants as item

-- a start: merchant 4 | product 4 | limit 8 | request, at most MAX_REQUEST | memo, at most MAX_MEMO
unfoldable pub started_bytes : Start → List ℕ
started_bytes s = (STARTED ∷ []) ++ be8 s.transaction ++ be4 s.merchant.0 ++ be4 s.product ++ be8 s.limit.0 ++ sized s.request ++ sized s.memo

-- a grant: session key 32 | ticket, sealed, at most TICKET_BYTES
unfoldable pub granted_item_bytes : ℕ → SessionTicket → List ℕ
granted_item_bytes transaction pass = (GRANTED ∷ []) ++ be8 transaction ++ pass.session ++ sized pass.ticket

-- a quote that was taken: price 8
unfoldable pub wanted_bytes : ℕ → Price → List ℕ
wanted_bytes transaction price = (WANTED ∷ []) ++ be8 transaction ++ be8 price.0

-- a front and the part behind it
abbrev pub behind_front : List ℕ → List ℕ → List ℕ
behind_front front part = front ++ part

-- an order: order, at most MAX_ORDER | last part, at most PART_BYTES
unfoldable pub ordered_front : ℕ → List ℕ → List ℕ → List ℕ
ordered_front transaction order part = (ORDERED ∷ []) ++ be8 transaction ++ sized order ++ be4 (length part)

-- the one spelling of an order that is kept, with the last part
abbrev pub ordered_bytes : ℕ → List ℕ → List ℕ → List ℕ
ordered_bytes transaction order part = behind_front (ordered_front transaction order part) part

-- an end: receipt and tag 135
unfoldable pub ended_bytes : ℕ → Signed → List ℕ
ended_bytes transaction receipt = (ENDED ∷ []) ++ be8 transaction ++ signed_bytes receipt

-- a part that is not the last: identifier 16 | total 8 | checksum 32 | place 8 | part, at most PART_BYTES
unfoldable pub part_front : GoodsHead → List ℕ → List ℕ
part_front head part = (PART ∷ []) ++ be8 head.transaction ++ epoid_bytes head.epoid ++ be8 head.total ++ head.checksum ++ be8 head.place ++ be4 (length part)

-- the one spelling of a part that is not the last
abbrev pub part_bytes : GoodsHead → List ℕ → List ℕ
part_bytes head part = behind_front (part_front head part) part

-- that the parts are forgotten
unfoldable pub forgotten_bytes : ℕ → List ℕ
forgotten_bytes transaction = (FORGOTTEN ∷ []) ++ be8 transaction

-- the bytes of an item
abbrev pub item_bytes : Item → List ℕ
item_bytes (item.Started start) = started_bytes start
item_bytes (item.Granted transaction pass) = granted_item_bytes transaction pass
item_bytes (item.Wanted transaction price) = wanted_bytes transaction price
item_bytes (item.Ordered transaction order part) = ordered_bytes transaction (order_bytes order) part
item_bytes (item.Ended transaction receipt) = ended_bytes transaction receipt
item_bytes (item.Part head part) = part_bytes head part
item_bytes (item.Forgotten transaction) = forgotten_bytes transaction

-- ---- what has a spelling

-- what a program has to see to itself: that no text is longer than it may be, and that a receipt is one. Each number that a program holds
-- fits its width
abbrev pub StartKeepsRules : Start → Type 0
StartKeepsRules s = (length s.request ≤ MAX_REQUEST) × (length s.memo ≤ MAX_MEMO)

-- the ticket of a session is not longer than it may be
abbrev pub PassKeepsRules : SessionTicket → Type 0
PassKeepsRules pass = length pass.ticket ≤ TICKET_BYTES

-- no text of an item is longer than it may be, and its receipt keeps the rules
abbrev pub ItemKeepsRules : Item → Type 0
ItemKeepsRules (item.Started start) = StartKeepsRules start
ItemKeepsRules (item.Granted transaction pass) = PassKeepsRules pass
ItemKeepsRules (item.Ordered transaction order part) = (length order.hidden ≤ MAX_HIDDEN) × (length part ≤ PART_BYTES)
ItemKeepsRules (item.Ended transaction receipt) = ReceiptKeepsRules receipt.receipt
ItemKeepsRules (item.Part head part) = length part ≤ PART_BYTES
ItemKeepsRules other = Unit {0}

-- each field of an item is within its limits
pub record IsStart (s : Start) : Type 0 where
  pub transaction : s.transaction < 2 ^ 64
  pub merchant : s.merchant.0 < 2 ^ 32
  pub product : s.product < 2 ^ 32
  pub limit : s.limit.0 < 2 ^ 64
  pub request : length s.request ≤ MAX_REQUEST
  pub memo : length s.memo ≤ MAX_MEMO

-- each field of a session's ticket is within its limits
pub record IsPass (pass : SessionTicket) : Type 0 where
  pub session : length pass.session ≡ 32
  pub ticket : length pass.ticket ≤ TICKET_BYTES

-- each field of an item is within its limits
abbrev pub IsItem : Item → Type 0
IsItem (item.Started start) = IsStart start
IsItem (item.Granted transaction pass) = (transaction < 2 ^ 64) × IsPass pass
IsItem (item.Wanted transaction price) = (transaction < 2 ^ 64) × (price.0 < 2 ^ 64)
IsItem (item.Ordered transaction order part) = (transaction < 2 ^ 64) × IsOrder order × (length part ≤ PART_BYTES)
IsItem (item.Ended transaction receipt) = (transaction < 2 ^ 64) × IsSigned receipt
IsItem (item.Part head part) = IsGoodsHead head × (length part ≤ PART_BYTES)
IsItem (item.Forgotten transaction) = transaction < 2 ^ 64

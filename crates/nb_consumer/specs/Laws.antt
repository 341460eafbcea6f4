-- What rows keep, how purchases end, and what starting again gives.
use Rattle.std.specs.Prelude.{◌≡◌, ◌≤◌, ℕ, List, [], ◌∷◌, ◌++◌, length, flat_map, codes, true, Some, None, Ok, Result}
use Rattle.std.specs.List.{AllByRecursion}
use Rattle.nb_units.specs.Frames.{AreBytes}
use Rattle.sha2.specs.Sha256.{sha256}
use Rattle.nb_epo.specs.declared.order.Order.{Order}
use Rattle.nb_epo.specs.Spelling.{order_bytes}
use Rattle.nb_epo.specs.Places.{checksum_in}
use Rattle.nb_endorse.specs.declared.receipt.TheConstants.{PAID_CODE}
use Rattle.nb_endorse.specs.declared.receipt.Receipt.{Receipt}
use Rattle.nb_endorse.specs.declared.receipt.Signed.{Signed}
use Rattle.nb_goods.specs.Goods.{OpensTo, OpensToNothing}
use Rattle.nb_msgs.specs.declared.message.Message.{Message}
use Rattle.nb_body.specs.declared.end.End.{End}
use Rattle.nb_body.specs.declared.end.End.TheVariants as end
use Rattle.nb_msgs.specs.declared.node.Reason.{Reason}
use Rattle.nb_msgs.specs.declared.node.RestartFault.{RestartFault}
use Rattle.nb_msgs.specs.declared.node.To.{To}
use Rattle.nb_msgs.specs.declared.node.To.TheVariants as to
use Rattle.nb_msgs.specs.declared.node.Step.{Step}
use Rattle.nb_msgs.specs.declared.node.Step.TheVariants as step
use Rattle.nb_units.specs.declared.memory.NoMemory.{NoMemory}
use Rattle.nb_wallet.specs.declared.wallet.Start.{Start}
use Rattle.nb_wallet.specs.declared.wallet.Wallet.{Wallet}
use Rattle.nb_wallet.specs.declared.item.Item.TheVariants as item
use Rattle.nb_wallet.specs.Purchases.{Purchase}
use Rattle.nb_consumer.specs.declared.rows.Wanting.{Wanting}
use Rattle.nb_consumer.specs.declared.rows.Owing.{Owing}
use Rattle.nb_consumer.specs.declared.deed.Deed.{Deed}
use Rattle.nb_consumer.specs.declared.deed.Deed.TheVariants as deed
use Rattle.nb_wallet.specs.Stages.{end_of}
use Rattle.nb_consumer.specs.State.{Buyer, purchase_of, ordered_with, epoid_bytes, remembered, number_in}
use Rattle.nb_endorse.specs.Reading.{signed_of}
use Rattle.nb_msgs.specs.declared.status.StatusText.{StatusText}
use Rattle.nb_msgs.specs.StatusText.{text_of}
use Rattle.nb_msgs.specs.declared.message.Message.TheVariants as message
use Rattle.nb_msgs.specs.Tests.{opened}
use Rattle.nb_asking.specs.Messages.{ticket_request, payment}
use Rattle.nb_consumer.specs.Table.{started, heard, silent, wanting_in, owing_in, receipt_fits, status_told, step_of, after}
use Rattle.nb_consumer.specs.declared.phase.Phase.{Phase}
use Rattle.nb_consumer.specs.declared.phase.Phase.TheVariants as phase
use Rattle.nb_consumer.specs.Goods.{phase_of, phase_in, phase_at, IsOpen, HasEnded, goods_in, goods_at}
use Rattle.nb_consumer.specs.Known.{IsPriceWithin, OrderIsFor, AllSo}
use Rattle.nb_wallet.specs.Reading.{item_of}
use Rattle.nb_wallet.specs.Spelling.{item_bytes}
use Rattle.nb_goods.specs.declared.limits.TheConstants.{PART_BYTES}
use Rattle.nb_consumer.specs.Restart.{allows, is_rest, is_short, restarted, Restarts, untold, Kept}
use Rattle.nb_consumer.specs.Deeds.{Answers}
use Rattle.nb_consumer.specs.Runs.{Call, row_of, kept_of, Event, Runs, IsJournal, GivesBack}
use Rattle.nb_wallet.specs.declared.item.Item.{Item}

-- an order that is kept behind what is known: its purchase is known and its goods are wanted; it names what its purchase was started for, at the price
-- that was quoted; its bytes name the checksum of all sealed goods that are held then; and it is what is sent
pub record OrderSo (b : Buyer) (transaction : ℕ) (order : Order) (part : List ℕ) (sent : Message) : Type 0 where
  pub purchase : Purchase
  pub wanting : Wanting
  pub known : purchase_of b transaction ≡ Some purchase
  pub wanted : wanting_in purchase.stage ≡ Some wanting
  pub names : OrderIsFor b.wallet purchase.start order
  pub price : order.price ≡ wanting.price
  pub checksum : checksum_in (order_bytes order) ≡ sha256 (purchase.held ++ part)
  pub message : sent ≡ payment wanting.pass purchase.start order

-- a receipt that is kept fits the order of its purchase, and the purchase ends as the receipt and the sealed goods say
pub record EndSo (b : Buyer) (transaction : ℕ) (receipt : Signed) (how : End) : Type 0 where
  pub purchase : Purchase
  pub owing : Owing
  pub known : purchase_of b transaction ≡ Some purchase
  pub ordered : owing_in purchase.stage ≡ Some owing
  pub fits : receipt_fits owing.order receipt.receipt ≡ Ok tt
  pub end : how ≡ end_of receipt.receipt purchase.held

-- a purchase is ordered, and at each status of it without a receipt this is sent to this party
pub record PaysAgain (b : Buyer) (transaction : ℕ) (to : To) (message : Message) : Type 0 where
  pub purchase : Purchase
  pub owing : Owing
  pub known : purchase_of b transaction ≡ Some purchase
  pub ordered : owing_in purchase.stage ≡ Some owing
  pub again : (place : ℕ) → status_told transaction purchase owing place None ≡ Ok (deed.Hears transaction place to message)

-- an order and a receipt that are kept keep to what they answer
abbrev pub KeepsSo : Buyer → Item → Message → Type 0
KeepsSo b (item.Ordered transaction order part) sent = OrderSo b transaction order part sent
KeepsSo b other sent = Unit {0}

-- what a row keeps may stand behind what is known
abbrev pub RowSo : Buyer → Result Deed Reason → Type 0
RowSo b (Ok (deed.Keeps item to message)) = (allows b item ≡ true) × KeepsSo b item message
RowSo b (Ok (deed.Ends transaction receipt end)) = (allows b (item.Ended transaction receipt) ≡ true) × EndSo b transaction receipt end
RowSo b (Ok (deed.Hears transaction place to message)) = PaysAgain b transaction to message
RowSo b other = Unit {0}

-- so it is at every start, message and quiet time
abbrev pub RowsAreSo : Type 0
RowsAreSo = (b : Buyer) → ((s : Start) → RowSo b (started b s)) × ((m : Message) → RowSo b (heard b m)) × ((transaction : ℕ) → RowSo b (silent b transaction))

-- a purchase ends paid only where the receipt's code is that of paid orders and its key opens the sealed goods to the goods that are told
abbrev pub PaidOpens : Type 0
PaidOpens = (r : Receipt) (sealed goods : List ℕ) → end_of r sealed ≡ end.Paid goods → (key : List ℕ) × (r.code ≡ PAID_CODE) × (r.key ≡ Some key) × OpensTo key sealed goods

-- how a purchase ends: with another code it is refused; with that of paid orders it is paid where the key opens the sealed goods, and else foul
abbrev pub EndsAre : Type 0
EndsAre = (r : Receipt) (sealed : List ℕ) → (¬ (r.code ≡ PAID_CODE) → end_of r sealed ≡ end.Refused r.code)
    × ((key goods : List ℕ) → r.code ≡ PAID_CODE → r.key ≡ Some key → OpensTo key sealed goods → end_of r sealed ≡ end.Paid goods)
    × ((key : List ℕ) → r.code ≡ PAID_CODE → r.key ≡ Some key → OpensToNothing key sealed → end_of r sealed ≡ end.Foul)

-- a purchase ends at a receipt that was sealed under the consumer's key: one that was passed on to it, or that stands in the status of its order
abbrev pub EndsHeard : Buyer → Message → ℕ → Signed → Type 0
EndsHeard b (message.Passed number part) transaction receipt = (transaction ≡ number) × (opened signed_of b.wallet.key (codes "rcpt") part ≡ Ok receipt)
EndsHeard b (message.Status sealed) transaction receipt = (text : StatusText) × (opened text_of b.wallet.key (codes "stat") sealed ≡ Ok text) × (text.receipt ≡ Some receipt)
    × (ordered_with b.orders (epoid_bytes text.epoid) ≡ Some transaction)
EndsHeard b other transaction receipt = ⊥

-- law: where a purchase ends, its receipt was sealed under the consumer's key in this message
abbrev pub EndsAreHeard : Type 0
EndsAreHeard = (b : Buyer) (m : Message) (transaction : ℕ) (receipt : Signed) (how : End) → heard b m ≡ Ok (deed.Ends transaction receipt how) → EndsHeard b m transaction receipt

-- behind an end its phase and its goods are told
abbrev pub EndIsTold : Type 0
EndIsTold = (b : Buyer) (transaction : ℕ) (receipt : Signed) (how : End) → EndSo b transaction receipt how → let c = remembered b (item.Ended transaction receipt) in
    (phase_in (purchase_of c transaction) ≡ Some (phase_at how)) × (goods_in (purchase_of c transaction) ≡ goods_at how)

-- ---- what is known

-- of each purchase of a consumer that starts again with what it kept
abbrev pub KnownIsSo : Type 0
KnownIsSo = (items : List (List ℕ)) (b : Buyer) → Kept items b → AllSo b

-- such a consumer orders what it asked for, at a price from 1 to its limit
abbrev pub OrdersAsAsked : Type 0
OrdersAsAsked = (items : List (List ℕ)) (b : Buyer) (call : Call) (transaction : ℕ) (order : Order) (part : List ℕ) (to : To) (message : Message) → Kept items b
    → row_of b call ≡ Ok (deed.Keeps (item.Ordered transaction order part) to message)
    → (p : Purchase) × (purchase_of b transaction ≡ Some p) × OrderIsFor b.wallet p.start order × IsPriceWithin order.price p.start.limit

-- such a purchase has goods exactly where its phase is that it was paid, and as many bytes as that says
abbrev pub PaidHasGoods : Type 0
PaidHasGoods = (items : List (List ℕ)) (b : Buyer) (transaction : ℕ) → Kept items b
    → ((n : ℕ) → phase_in (purchase_of b transaction) ≡ Some (phase.Paid n) → (goods : List ℕ) × (goods_in (purchase_of b transaction) ≡ Some goods) × (length goods ≡ n))
    × ((goods : List ℕ) → goods_in (purchase_of b transaction) ≡ Some goods → phase_in (purchase_of b transaction) ≡ Some (phase.Paid (length goods)))

-- the last part is then the rest of what is held, so that all parts have no more bytes than sealed goods may have: a restart's test of that refuses nothing more
abbrev pub RestIsShort : Type 0
RestIsShort = (items : List (List ℕ)) (b : Buyer) (transaction : ℕ) (p : Purchase) (v : Wanting) (order : Order) (part : List ℕ) → Kept items b → purchase_of b transaction ≡ Some p
    → wanting_in p.stage ≡ Some v → is_rest v.head p.held order part ≡ true → length part ≤ PART_BYTES → is_short p.held part ≡ true

-- an order in a journal that a restart takes up names what its purchase was started for, at a price from 1 to its limit, and, in its bytes, the checksum of what
-- is held of the purchase behind the items before it and of the part in its item
abbrev pub KeptOrderIsSo : Type 0
KeptOrderIsSo = (w : Wallet) (front back : List (List ℕ)) (bytes : List ℕ) (b : Buyer) (transaction : ℕ) (order : Order) (part : List ℕ) → restarted w (front ++ bytes ∷ back) ≡ Ok b
    → item_of bytes ≡ Ok (item.Ordered transaction order part)
    → (before : Buyer) × (p : Purchase) × (restarted w front ≡ Ok before) × (purchase_of before transaction ≡ Some p) × (checksum_in (order_bytes order) ≡ sha256 (p.held ++ part))
    × OrderIsFor w p.start order × IsPriceWithin order.price p.start.limit

-- ---- what is said again

-- behind an item a quiet time says this again; behind an order, a status without a receipt does
abbrev pub SaidAgain : Buyer → Item → To → Message → Type 0
SaidAgain b (item.Ordered transaction order part) to message = PaysAgain b transaction to message
SaidAgain b other to message = silent b (number_in other) ≡ Ok (deed.Sends to message)

-- behind what a row keeps, a quiet time says again what was sent with it
abbrev pub RowSaysAgain : Buyer → Result Deed Reason → Type 0
RowSaysAgain b (Ok (deed.Keeps item to message)) = SaidAgain (remembered b item) item to message
RowSaysAgain b other = Unit {0}

-- what is sent with an item is what is said again behind it
abbrev pub SaysAgain : Type 0
SaysAgain = (items : List (List ℕ)) (b : Buyer) (call : Call) → Kept items b → RowSaysAgain b (row_of b call)

-- ---- what is sent

-- a start of a number that is not known is kept, and the house is asked for a ticket
abbrev pub StartMoves : Type 0
StartMoves = (b : Buyer) (s : Start) → phase_in (purchase_of b s.transaction) ≡ None
    → step_of (started b s) ≡ step.Move (Some (item_bytes (item.Started s))) to.Server (ticket_request b.wallet s)

-- a quiet time of a purchase that is known and not over keeps nothing, and sends a message
abbrev pub SilentMoves : Type 0
SilentMoves = (b : Buyer) (transaction : ℕ) → IsOpen (phase_in (purchase_of b transaction)) → (whom : To) × (sent : Message) × (step_of (silent b transaction) ≡ step.Move None whom sent)

-- ---- what is over

-- a purchase that is over stays as it is, behind every row, and where the places that were told are forgotten
abbrev pub EndedStays : Type 0
EndedStays = (b : Buyer) (transaction : ℕ) → HasEnded (phase_in (purchase_of b transaction))
    → ((call : Call) → purchase_of (after b (row_of b call)) transaction ≡ purchase_of b transaction) × (purchase_of (untold b) transaction ≡ purchase_of b transaction)

-- so it does behind every list of calls, with restarts between them
abbrev pub RunsKeepEnded : Type 0
RunsKeepEnded = (old : Buyer) (items : List (List ℕ)) (events : List Event) (new : Buyer) (kept : List (List ℕ)) (transaction : ℕ) → Kept items old → Runs old items events new kept
    → HasEnded (phase_in (purchase_of old transaction)) → purchase_of new transaction ≡ purchase_of old transaction

-- ---- what items say

-- the identifier of an order, and the number of its purchase
abbrev pub order_in : Result Item ℕ → List (List ℕ × ℕ)
order_in (Ok (item.Ordered transaction order part)) = (epoid_bytes order.epoid, transaction) ∷ []
order_in other = []

-- an identifier finds the purchase of the first order under it among the items that were kept
abbrev pub FirstOrderFound : Type 0
FirstOrderFound = (items : List (List ℕ)) (b : Buyer) (epoid : List ℕ) → Kept items b → ordered_with b.orders epoid ≡ ordered_with (flat_map (λ bytes. order_in (item_of bytes)) items) epoid

-- the phase behind an item, where this is held then
abbrev pub phase_behind : Item → List ℕ → Phase
phase_behind (item.Started start) held = phase.Ticketing
phase_behind (item.Granted transaction pass) held = phase.Asked
phase_behind (item.Wanted transaction price) held = phase.Wanted
phase_behind (item.Part head part) held = phase.Wanted
phase_behind (item.Forgotten transaction) held = phase.Wanted
phase_behind (item.Ordered transaction order part) held = phase.Ordered
phase_behind (item.Ended transaction receipt) held = phase_at (end_of receipt.receipt held)

-- no item is of this purchase
abbrev pub NoneOf : ℕ → List (List ℕ) → Type 0
NoneOf transaction items = AllByRecursion (λ bytes. (x : Item) → item_of bytes ≡ Ok x → ¬ (number_in x ≡ transaction)) items

-- a purchase is as far as the last of its items that were kept says; one without an item is not known
abbrev pub LastItemTells : Type 0
LastItemTells = (b : Buyer)
    → ((front back : List (List ℕ)) (bytes : List ℕ) (x : Item) → Kept (front ++ bytes ∷ back) b → item_of bytes ≡ Ok x → NoneOf (number_in x) back
    → (p : Purchase) × (purchase_of b (number_in x) ≡ Some p) × (phase_of p.stage p.held ≡ phase_behind x p.held))
    × ((items : List (List ℕ)) (transaction : ℕ) → Kept items b → NoneOf transaction items → purchase_of b transaction ≡ None)

-- ---- starting again

-- a consumer that starts again with what it kept is as it was, but for the places that it was told: so it stays behind each call, whatever it answers
abbrev pub KeepsRestarting : Type 0
KeepsRestarting = (old new : Buyer) (call : Call) (result : Result Step NoMemory) (items : List (List ℕ)) → Answers old new (row_of old call) result → Kept items old → Kept (items ++ kept_of result) new

-- so it is behind every list of calls, with restarts between them, from a journal on that a restart takes up, as the empty one
abbrev pub RunsRestart : Type 0
RunsRestart = (w : Wallet) (journal : List (List ℕ)) (first : Buyer) (events : List Event) (b : Buyer) (items : List (List ℕ)) → restarted w journal ≡ Ok first
    → Runs first journal events b items → (b.wallet ≡ w) × Kept items b

-- what was kept then is a journal that rows keep: a restart gives that consumer and refuses no item, or there was no memory
abbrev pub RestartsAsKept : Type 0
RestartsAsKept = (w : Wallet) (journal : List (List ℕ)) (first : Buyer) (events : List Event) (b : Buyer) (items : List (List ℕ)) → AllByRecursion AreBytes journal
    → restarted w journal ≡ Ok first → Runs first journal events b items
    → IsJournal w items × ((result : Result Buyer RestartFault) → Restarts w items result → GivesBack b result)

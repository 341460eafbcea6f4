-- How a purchase of a real consumer ended, where it ended by a receipt that the house made for that consumer: as the durable entry of its order says.
use Rattle.std.specs.Prelude.{◌≡◌, ◌⊎◌, ℕ, List, ◌∷◌, ◌++◌, length, codes, Option, Some, None, Ok, take}
use Rattle.std.specs.List.{slice_get}
use Rattle.nb_units.specs.Epoid.{epoid_bytes, epoid_of}
use Rattle.nb_units.specs.declared.epoid.Epoid.{Epoid}
use Rattle.nb_units.specs.declared.ids.PartyId.{PartyId}
use Rattle.nb_body.specs.Reading.{query_of}
use Rattle.nb_body.specs.declared.query.StatusQuery.{StatusQuery}
use Rattle.nb_entry.specs.declared.entry.Entry.{Entry}
use Rattle.nb_entry.specs.declared.entry.TheConstants.{CONSUMER}
use Rattle.nb_epo.specs.declared.order.Order.{Order}
use Rattle.nb_endorse.specs.Differing.{IsOf}
use Rattle.nb_endorse.specs.Reading.{signed_of}
use Rattle.nb_endorse.specs.Spelling.{IsReceipt, signed_bytes}
use Rattle.nb_endorse.specs.Tags.{signed_receipt}
use Rattle.nb_endorse.specs.declared.receipt.Receipt.{Receipt}
use Rattle.nb_endorse.specs.declared.receipt.Signed.{Signed}
use Rattle.nb_endorse.specs.declared.receipt.TheConstants.{PAID_CODE}
use Rattle.nb_endorse.specs.declared.reply.Reply.{Reply}
use Rattle.nb_endorse.specs.declared.reply.Reply.TheVariants.{Result as Receipts, Status}
use Rattle.nb_endorse.specs.declared.reply.ReplyKeys.{ReplyKeys}
use Rattle.nb_goods.specs.Goods.{OpensTo, OpensToNothing}
use Rattle.nb_msgs.specs.Reading.{message_of}
use Rattle.nb_msgs.specs.ReplyBytes.{sealed_receipt, status_frame}
use Rattle.nb_msgs.specs.StatusText.{text_of}
use Rattle.nb_msgs.specs.Tests.{opened}
use Rattle.nb_msgs.specs.declared.message.Message.{Message}
use Rattle.nb_body.specs.declared.end.End.{End}
use Rattle.nb_msgs.specs.declared.node.To.TheVariants as to
use Rattle.nb_msgs.specs.declared.status.StatusText.{StatusText}
use Rattle.nb_wallet.specs.declared.item.SessionTicket.{SessionTicket}
use Rattle.nb_wallet.specs.Purchases.{Purchase}
use Rattle.nb_wallet.specs.declared.purchase.Stage.TheVariants as stage
use Rattle.nb_escrow.specs.Head.{IsRuling}
use Rattle.nb_escrow.specs.Settlements.{settlement_in, receipt_in_role, receipt_of_party}
use Rattle.nb_escrow.specs.Verdict.{verdict}
use Rattle.nb_escrow.specs.declared.head.Head.{Head}
use Rattle.nb_escrow.specs.declared.settlement.PaymentOutcome.{PaymentOutcome}
use Rattle.nb_escrow.specs.declared.settlement.PaymentOutcome.TheVariants.{Paid, Refused}
use Rattle.nb_escrow.specs.declared.settlement.Settlement.{Settlement}
use Rattle.nb_consumer.specs.Goods.{phase_of, goods_of}
use Rattle.nb_consumer.specs.State.{Buyer, purchase_of}
use Rattle.nb_consumer.specs.Table.{heard}
use Rattle.nb_consumer.specs.declared.deed.Deed.TheVariants as deed
use Rattle.nb_consumer.specs.declared.phase.Phase.TheVariants as phase
use Rattle.nb_world.specs.declared.event.Event.{Event}
use Rattle.nb_world.specs.declared.event.Event.TheVariants as on
use Rattle.nb_world.specs.declared.packet.Maker.TheVariants as by
use Rattle.nb_world.specs.declared.packet.Packet.{Packet}
use Rattle.nb_world.specs.World.{Rules, World}
use Rattle.nb_world.specs.Steps.{run}
use Rattle.nb_world.specs.Fits.{IsConsumer}
use Rattle.nb_world.specs.Laws.{Asks, IsSetUp}
use Rattle.nb_parties.specs.Rules.{real_rules, with_buyers}

-- ---- what is premised

-- where the packet of this number is delivered, this consumer ends its purchase of this number by this receipt. Who made the packet is not said: a
-- merchant may have passed the receipt on, the house may have told it, and anybody may have put it on the network
pub record EndsBy {M : Type 0} (p : Rules Buyer M) (w : World Buyer M) (id : PartyId) (k transaction : ℕ) (s : Signed) : Type 0 where
  pub buyer : Buyer
  pub packet : Packet
  pub message : Message
  pub how : End
  pub is : IsConsumer p w id buyer
  pub there : slice_get w.packets k ≡ Some packet
  pub addressed : packet.to ≡ to.Consumer id
  pub read : message_of packet.kind packet.body ≡ Ok message
  pub ends : heard buyer message ≡ Ok (deed.Ends transaction s how)

-- a reply to this body has a receipt for this party that is sealed under this key and opens there to this one: the consumer's part of a result, or
-- the receipt of a status, which is for who asks
abbrev pub TellsReceipt : List ℕ → PartyId → List ℕ → ReplyKeys → Reply → Signed → Type 0
TellsReceipt key whom body keys (Receipts merchant consumer) s =
    (consumer.consumer ≡ whom) × (keys.second ≡ key) × (opened signed_of key (codes "rcpt") (sealed_receipt keys.house keys.second consumer) ≡ Ok s)
TellsReceipt key whom body keys (Status place epoid receipt) s =
    ((asked : StatusQuery) × (query_of body ≡ Ok asked) × (asked.asker ≡ whom)) × (keys.first ≡ key)
    × ((text : StatusText) × (opened text_of key (codes "stat") (status_frame keys place epoid receipt).body ≡ Ok text) × (text.receipt ≡ Some s))
TellsReceipt key whom body keys other s = ⊥

-- the house made a packet that tells this receipt under this key: an answer to a call, whose reply is that of the decision over as many of the first
-- durable entries as the packet's maker says. No key is asked to be a secret: an injector may hold it, and may have put bytes of its own on the
-- network
pub record IsToldBy {M : Type 0} (head : Head) (cap : ℕ) (w : World Buyer M) (key : List ℕ) (s : Signed) : Type 0 where
  pub whom : PartyId
  pub place : ℕ
  pub call : ℕ
  pub at : ℕ
  pub made : Packet
  pub packet : Packet
  pub moment : ℕ
  pub there : slice_get w.packets place ≡ Some made
  pub maker : made.maker ≡ by.Server call at
  pub asks : Asks w call packet moment
  pub tells : let decision = verdict (take at w.durable) head cap packet.kind packet.body moment in TellsReceipt key whom packet.body decision.keys decision.reply s

-- ---- what follows

-- a purchase of which the order was sent is of this order
abbrev pub IsOrdered : Purchase → Order → Type 0
IsOrdered p order = (pass : SessionTicket) × (least : ℕ) × (p.stage ≡ stage.Ordered pass order least)

-- it is paid, with the goods that this key opens what is held to; so its phase and its goods are told
pub record IsPaid (key : List ℕ) (p : Purchase) : Type 0 where
  pub goods : List ℕ
  pub opens : OpensTo key p.held goods
  pub by_key : p.stage ≡ stage.Paid key
  pub told : phase_of p.stage p.held ≡ phase.Paid (length goods)
  pub given : goods_of p.stage p.held ≡ Some goods

-- it is foul: this key opens what is held to nothing
pub record IsFoul (key : List ℕ) (p : Purchase) : Type 0 where
  pub opens : OpensToNothing key p.held
  pub told : phase_of p.stage p.held ≡ phase.Foul

-- a purchase ended by a receipt as an outcome says: a payment has its key in the receipt, and that alone says whether the purchase is paid or foul;
-- where the order was refused the purchase is, with the reason's code
abbrev pub EndsAs : PaymentOutcome → Signed → Purchase → Type 0
EndsAs (Paid cacct macct key fee) s p = (s.receipt.code ≡ PAID_CODE) × (s.receipt.key ≡ Some key) × (IsPaid key p ⊎ IsFoul key p)
EndsAs (Refused why) s p = (s.receipt.code ≡ why.code) × (s.receipt.key ≡ None) × (phase_of p.stage p.held ≡ phase.Refused why.code)

-- a purchase that was so when it ended by a receipt, and is so now, ended as an entry says: the one that settles the identifier of its order
pub record EndsAsEntry (house : List ℕ) (entries : List Entry) (whom : PartyId) (s : Signed) (was now : Option Purchase) : Type 0 where
  -- the purchase's order was sent, and what is held of its goods stayed
  pub before : Purchase
  pub behind : Purchase
  pub order : Order
  pub known : was ≡ Some before
  pub stays : now ≡ Some behind
  pub held : behind.held ≡ before.held
  pub ordered : IsOrdered before order
  -- the receipt is of that order
  pub of_order : IsOf s.receipt order.epoid order.consumer order.merchant order.product order.price
  -- how an identifier that is spelled as the order's was settled
  pub name : Epoid
  pub settlement : Settlement
  pub named : epoid_of (epoid_bytes name) ≡ order.epoid
  pub settled : settlement_in entries name ≡ Some settlement
  -- what the settlement gives the party that was told, and so what it gives the consumer where that is the one
  pub receipt : Receipt
  pub given : receipt_of_party whom (Some settlement) ≡ Some receipt
  pub own : whom ≡ settlement.consumer → receipt ≡ receipt_in_role CONSUMER settlement
  -- the receipt is what the bytes of that are read as, signed by the house; and it is that, field by field, where these have their widths
  pub bytes : signed_of (signed_bytes (signed_receipt house receipt)) ≡ Ok s
  pub within : IsReceipt receipt → s ≡ signed_receipt house receipt
  -- the end
  pub ends : EndsAs settlement.outcome s behind

-- The world of real merchants too is one of those of which the law speaks.
abbrev pub RealIsOne : Type 0
RealIsOne = (head : Head) (cap : ℕ) → with_buyers (real_rules head cap) head cap ≡ real_rules head cap

-- Whatever merchants, the network and injectors do, in every order of events, with stops and restarts: a consumer that ended a purchase by a receipt is
-- still there behind all that follows, and where the house made that receipt for it, the purchase is as the durable entry of its order says.
abbrev pub EndsLaw : Type 0 → Type 0
EndsLaw M = (any : Rules Buyer M) (head : Head) (cap : ℕ) → IsRuling head → (w : World Buyer M) → IsSetUp w → (es more : List Event) (id : PartyId) (k transaction : ℕ) (s : Signed)
    → let p = with_buyers any head cap in (ended : EndsBy p (run p w es) id k transaction s)
    → let later = run p w (es ++ on.Deliver k ∷ more) in
    (b : Buyer) × (slice_get later.consumers ended.is.place ≡ Some b)
    × ((told : IsToldBy head cap later ended.buyer.wallet.key s) → EndsAsEntry head.house later.durable told.whom s (purchase_of ended.buyer transaction) (purchase_of b transaction))

-- What a judge rules on evidence that real parties made: of an order, by the entry that settled it, and of goods that a merchant endorsed.
use Rattle.std.specs.Prelude.{◌≡◌, ◌⊎◌, ℕ, List, true, length, Option, Some, None, IsNone, Ok}
use Rattle.sha2.specs.Sha256.{sha256}
use Rattle.nb_units.specs.declared.frames.TheConstants.{ORDER_REQUEST}
use Rattle.nb_units.specs.declared.ids.PartyId.{PartyId}
use Rattle.nb_book.specs.Searches.{order_in, settles}
use Rattle.nb_entry.specs.declared.entry.Entry.{Entry}
use Rattle.nb_entry.specs.declared.entry.Entry.TheVariants.{Paid, Charged, Refused}
use Rattle.nb_epo.specs.Places.{checksum_in}
use Rattle.nb_epo.specs.declared.order.Order.{Order}
use Rattle.nb_endorse.specs.Spelling.{IsReceipt}
use Rattle.nb_endorse.specs.declared.receipt.Receipt.{Receipt}
use Rattle.nb_endorse.specs.declared.reply.Reply.TheVariants.{Result as Receipts}
use Rattle.nb_endorse.specs.declared.reply.ReplyKeys.{ReplyKeys}
use Rattle.nb_goods.specs.Collision.{Collision}
use Rattle.nb_goods.specs.Goods.{sealed_goods}
use Rattle.nb_judge.specs.declared.case.Case.{Case}
use Rattle.nb_judge.specs.declared.ruling.Ruling.{Ruling}
use Rattle.nb_judge.specs.declared.ruling.Ruling.TheVariants.{NotPaid, KeyOpens}
use Rattle.nb_judge.specs.Ruling.{Rules, RulesByGoods}
use Rattle.nb_msgs.specs.ReplyBytes.{sealed_receipt}
use Rattle.nb_msgs.specs.declared.message.Message.TheVariants as message
use Rattle.nb_escrow.specs.Payable.{IsAuthenticOrder}
use Rattle.nb_escrow.specs.Verdict.{verdict}
use Rattle.nb_escrow.specs.declared.head.Head.{Head}
use Rattle.nb_escrow.specs.declared.order.Presented.{Presented}
use Rattle.nb_merchant.specs.Keeping.{AllFollow}
use Rattle.nb_merchant.specs.Laws.{Word, done_at}
use Rattle.nb_merchant.specs.Sending.{Endorses}
use Rattle.nb_merchant.specs.Shop.{Shop}
use Rattle.nb_merchant.specs.Table.{after}
use Rattle.nb_merchant.specs.declared.answer.Answer.{Answer}

-- the evidence of an order, and of what its consumer was told of it under these keys: whatever goods they are
pub record IsEvidence (keys : ReplyKeys) (presented : Order) (consumer : Receipt) (c : Case) : Type 0 where
  pub house : c.house ≡ keys.house
  pub key : c.consumer ≡ keys.second
  pub order : c.order ≡ presented
  pub receipt : c.receipt ≡ sealed_receipt keys.house keys.second consumer

-- how an order is ruled on by the entry that settles it: where it was refused, as not paid, with the entry's code; where it was paid, by its goods under the
-- entry's key
abbrev pub RulesAsEntry : Case → Entry → Ruling → Type 0
RulesAsEntry c (Paid digest epoid consumer merchant product price cacct macct moment key) ruling = RulesByGoods c key ruling
RulesAsEntry c (Charged digest epoid consumer merchant product price fee cacct macct moment key) ruling = RulesByGoods c key ruling
RulesAsEntry c (Refused digest epoid consumer merchant product price code a b moment) ruling = ruling ≡ NotPaid code
RulesAsEntry c other ruling = ⊥

-- an order is authentic over these entries, no entry of them settles its identifier, the recorded one does; the keys are those of the house and of its
-- consumer; and its evidence is ruled on as the recorded entry says
pub record IsJudged (H : List Entry) (recorded : Entry) (body : List ℕ) (consumer : Receipt) (keys : ReplyKeys) (house : List ℕ) : Type 0 where
  pub order : Presented
  pub authentic : IsAuthenticOrder H body order
  pub new : IsNone (order_in H order.order.epoid)
  pub settles : settles order.order.epoid recorded ≡ true
  pub keyed : (keys.house ≡ house) × (keys.second ≡ order.consumer.key)
  pub ruled : (c : Case) (ruling : Ruling) → IsEvidence keys order.order consumer c → Rules c ruling → RulesAsEntry c recorded ruling

-- Where a verdict records an entry for an order, the evidence of that order with the receipt that its consumer is given, under the keys of the reply, is ruled
-- on as that entry says: never by one of the first three rulings, and as not paid, with the code, exactly where the order was refused.
abbrev pub OrdersAreJudged : Type 0
OrdersAreJudged = (H : List Entry) (head : Head) (cap : ℕ) (body : List ℕ) (moment : ℕ) (merchant consumer : Receipt) (keys : ReplyKeys) (entry : Entry)
    → verdict H head cap ORDER_REQUEST body moment ≡ record { reply = Receipts merchant consumer; keys = keys; entry = Some entry }
    → IsReceipt consumer → IsJudged H entry body consumer keys head.house

-- Where a merchant endorses an order, at whatever it hears, and evidence has that order's checksum and goods with it, it is ruled on by the endorsement's
-- key as goods that it opens, with their length, or the goods are a collision with those of the product as they were sealed. Premise: what the
-- merchant kept may stand as it does.
abbrev pub EndorsedGoodsAreJudged : Type 0
EndorsedGoodsAreJudged = (shop : Shop) (w : Word) (a : Answer) (merchant : PartyId) (sealed : List ℕ) → AllFollow shop → done_at shop w ≡ Ok a
    → a.message ≡ message.Endorsed merchant sealed
    → (is : Endorses (after shop (Ok a)) a.to a.message)
    × ((c : Case) (ruling : Ruling) → c.order.checksum ≡ checksum_in is.sent.order → sha256 c.sealed ≡ c.order.checksum → RulesByGoods c is.endorsement.key ruling
    → (ruling ≡ KeyOpens (length is.product.goods)) ⊎ Collision c.sealed (sealed_goods is.endorsement.key is.product.goods))

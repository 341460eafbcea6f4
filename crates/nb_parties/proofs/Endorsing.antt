-- What a merchant's step sends, in every world behind a list of events; and what a consumer held when it kept an order.
use Rattle.std.proofs.Common.{◌≡◌, ℕ, true, List, ◌++◌, None, Some, Result, Ok, Err, refl, sym, ap, subst, ◌∙◌}
use Rattle.std.proofs.lemmas.Bool.{eqb-true}
use Rattle.std.specs.Prelude.{◌==◌}
use Rattle.std.specs.List.{slice_get, AllByRecursion}
use Rattle.sha2.specs.Sha256.{sha256}
use Rattle.nb_units.specs.declared.ids.PartyId.{PartyId}
use Rattle.nb_epo.specs.Places.{checksum_in}
use Rattle.nb_msgs.specs.Bodies.{kind_of, body_bytes}
use Rattle.nb_msgs.specs.Reading.{message_of}
use Rattle.nb_msgs.specs.declared.message.Message.{Message}
use Rattle.nb_msgs.specs.declared.message.Message.TheVariants as message
use Rattle.nb_msgs.specs.declared.node.Reason.{Reason}
use Rattle.nb_msgs.specs.declared.node.To.{To}
use Rattle.nb_wallet.specs.declared.item.Item.TheVariants as item
use Rattle.nb_wallet.specs.Purchases.{Purchase}
use Rattle.nb_escrow.specs.declared.head.Head.{Head}
use Rattle.nb_consumer.specs.Laws.{RowSo}
use Rattle.nb_consumer.specs.State.{Buyer}
use Rattle.nb_consumer.specs.declared.deed.Deed.TheVariants as deed
use Rattle.nb_consumer.proofs.Keeping.{rows_are_so}
use Rattle.nb_merchant.specs.declared.answer.Answer.{Answer}
use Rattle.nb_merchant.specs.Keeping.{AllFollow}
use Rattle.nb_merchant.specs.Laws.{Word, OfConsumer, OfHouse, Nothing, done_at}
use Rattle.nb_merchant.specs.Sending.{Endorses, MessageIs}
use Rattle.nb_merchant.specs.Shop.{Shop}
use Rattle.nb_merchant.specs.Table.{purchase_by, after}
use Rattle.nb_merchant.proofs.Running.{sent_follows}
use Rattle.nb_world.specs.declared.event.Event.{Event}
use Rattle.nb_world.specs.declared.packet.Maker.{Maker}
use Rattle.nb_world.specs.declared.packet.Maker.TheVariants as by
use Rattle.nb_world.specs.declared.packet.Packet.{Packet}
use Rattle.nb_world.specs.World.{Going, Stays, Goes, World}
use Rattle.nb_world.specs.Steps.{run}
use Rattle.nb_world.specs.Laws.{IsSetUp}
use Rattle.nb_world.proofs.Chains.{same_some}
use Rattle.nb_world.proofs.Holding.{GoesSo, IsNoNodes, StepsKeep, HoldsIn, run_holds}
use Rattle.nb_parties.specs.Rules.{shop_row, shop_goes, shop_hears, real_rules}
use Rattle.nb_parties.specs.Goods.{EndorsedGoodsOpen, MerchantsAreEnrolled, KeepsOrder}

pub endorsed_goods_open : EndorsedGoodsOpen
endorsed_goods_open shop w a merchant sealed follow done is =
    let sent : MessageIs (after shop (Ok a)) a.to a.message = (sent_follows shop w a follow done).1 in
    let endorses : Endorses (after shop (Ok a)) a.to a.message = subst (Endorses (after shop (Ok a)) a.to) (sym is) (subst (MessageIs (after shop (Ok a)) a.to) is sent) in
    (endorses, endorses.goods)

-- ---- what a merchant's step sends

-- a packet is what a merchant of the set-up sent, of what it had kept by then
pub record SentFrom (first : World Buyer Shop) (id : PartyId) (made : Packet) : Type 0 where
  pub place : ℕ
  pub merchant : Shop
  pub of : slice_get first.merchants place ≡ Some merchant
  pub its : merchant.stall.id.0 ≡ id.0
  pub shop : Shop
  pub stall : shop.stall ≡ merchant.stall
  pub products : shop.products ≡ merchant.products
  pub whom : To
  pub message : Message
  pub kind : made.kind ≡ kind_of message
  pub body : made.body ≡ body_bytes message
  pub so : MessageIs shop whom message

abbrev pub SentBy : World Buyer Shop → Packet → Maker → Type 0
SentBy first made (by.Merchant id) = SentFrom first id made
SentBy first made other = Unit {0}

module _ (first : World Buyer Shop) where
  Sent : Packet → Type 0
  Sent made = SentBy first made made.maker

  -- the merchant at this place is who it was in the set-up, sells what it sold, and kept what may stand as it does
  IsMerchantAt : ℕ → Shop → Type 0
  IsMerchantAt i s = (m : Shop) × (slice_get first.merchants i ≡ Some m) × (s.stall ≡ m.stall) × (s.products ≡ m.products) × AllFollow s

  row_sends : (i : ℕ) (id : PartyId) (s : Shop) (w : Word) (row : Result Answer Reason) → done_at s w ≡ row → (s.stall.id.0 == id.0) ≡ true → IsMerchantAt i s
      → GoesSo (IsMerchantAt i) Sent (by.Merchant id) (shop_goes s row)
  unfolding Sent IsMerchantAt
  row_sends i id s w (Ok a) done one so =
      let follows = sent_follows s w a so.4 done in (
        (so.0, so.1, so.2, so.3, follows.0),
        (
          record {
            place = i;
            merchant = so.0;
            of = so.1;
            its = ap (λ stall. stall.id.0) (sym so.2) ∙ eqb-true s.stall.id.0 id.0 one;
            shop = after s (Ok a);
            stall = so.2;
            products = so.3;
            whom = a.to;
            message = a.message;
            kind = refl;
            body = refl;
            so = follows.1;
          },
          tt,
        ),
      )
  row_sends i id s w (Err why) done one so = tt

  -- the word that a message is to a merchant
  word_of : Message → ℕ → Word
  word_of (message.Result merchant consumer) moment = OfHouse (message.Result merchant consumer)
  word_of other moment = OfConsumer other moment

  word_row : (s : Shop) (m : Message) (moment : ℕ) → done_at s (word_of m moment) ≡ shop_row s m moment
  unfolding word_of
  word_row s (message.Result merchant consumer) moment = refl
  word_row s other moment = refl

  hears_sends : (i : ℕ) (id : PartyId) (s : Shop) (read : Result Message ℕ) (moment : ℕ) → (s.stall.id.0 == id.0) ≡ true → IsMerchantAt i s
      → GoesSo (IsMerchantAt i) Sent (by.Merchant id) (shop_hears s read moment)
  hears_sends i id s (Ok m) moment one so = row_sends i id s (word_of m moment) (shop_row s m moment) (word_row s m moment) one so
  hears_sends i id s (Err bad) moment one so = tt

  consumer_sends : (id : PartyId) (g : Going Buyer) → GoesSo (λ (b : Buyer). Unit {0}) Sent (by.Consumer id) g
  unfolding Sent
  consumer_sends id Stays = tt
  consumer_sends id (Goes b None) = (tt, tt)
  consumer_sends id (Goes b (Some sent)) = (tt, (tt, tt))

  no_node : (made : Packet) (maker : Maker) → IsNoNodes maker → SentBy first made maker
  no_node made (by.Consumer id) none = tt
  no_node made (by.Merchant id) none = absurd none
  no_node made (by.Server call at) none = tt
  no_node made by.Network none = tt

  keeps_sent : (head : Head) (cap : ℕ) → StepsKeep (real_rules head cap) (λ i b. Unit {0}) IsMerchantAt Sent
  unfolding Sent
  keeps_sent head cap = record {
    starts = λ i id b start one so. consumer_sends id ((real_rules head cap).consumer_starts b start);
    hears = λ i id b kind body one so. consumer_sends id ((real_rules head cap).consumer_hears b kind body);
    waited = λ i id b tid one so. consumer_sends id ((real_rules head cap).consumer_waited b tid);
    again = λ i b so. tt;
    merchant_hears = λ i id s kind body moment one so. hears_sends i id s (message_of kind body) moment one so;
    merchant_waited = λ i id s consumer tid one so. row_sends i id s (Nothing (purchase_by consumer tid)) (done_at s (Nothing (purchase_by consumer tid))) refl one so;
    merchant_again = λ i s so. so;
    others = λ made none. no_node made made.maker none;
  }

-- each packet of a run is so
pub all_sent : (head : Head) (cap : ℕ) (w : World Buyer Shop) → IsSetUp w → MerchantsAreEnrolled w → (es : List Event)
    → AllByRecursion (λ (made : Packet). SentBy w made made.maker) (run (real_rules head cap) w es).packets
unfolding Sent IsMerchantAt
all_sent head cap w setup enrolled es =
    let begins : HoldsIn (λ i b. Unit {0}) (IsMerchantAt w) (Sent w) w = record {
      consumers = λ i b at. tt;
      merchants = λ i s at. (s, at, refl, refl, (enrolled i s at).1);
      packets = subst (AllByRecursion (λ (made : Packet). SentBy w made made.maker)) (sym setup.no_packets) tt;
    } in
    (run_holds (real_rules head cap) (λ i b. Unit {0}) (IsMerchantAt w) (Sent w) (keeps_sent w head cap) es w begins).packets

-- ---- what a consumer holds

-- an order that it keeps names the checksum of what it then holds
pub order_names : (b : Buyer) (heard_now : Message) (order held : List ℕ) → KeepsOrder b heard_now order held → sha256 held ≡ checksum_in order
order_names b heard_now order held keeps =
    let row : RowSo b (Ok (deed.Keeps (item.Ordered keeps.transaction keeps.kept keeps.part) keeps.whom keeps.sent)) = subst (RowSo b) keeps.keeps ((rows_are_so b).1 heard_now) in
    let same : row.1.purchase ≡ keeps.purchase = same_some row.1.purchase keeps.purchase (sym row.1.known ∙ keeps.known) in
    ap sha256 (sym keeps.all) ∙ ap (λ (p : Purchase). sha256 (p.held ++ keeps.part)) (sym same) ∙ sym row.1.checksum ∙ ap checksum_in keeps.bytes

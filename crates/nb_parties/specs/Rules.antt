-- The rules of a world of real parties. Its consumers do the rows of nb_consumer's table, which `Consumer::start`, `on` and `quiet` answer; its
-- merchants those of nb_merchant's, which `Merchant::on_consumer`, `on_server` and `quiet` do; its house decides as `nb_escrow::decide` does, and its
-- replies are the frames that `nb_msgs::write_reply` writes. A consumer is what it knows, and a merchant who it is, what it sells and what it kept.
-- So a restart of either is what starting again with what was kept gives (`nb_consumer::laws::restarts_as_kept`, `nb_merchant::laws::runs_are_kept`):
-- of a consumer all but the places that it was told, of a merchant all of it.
use Rattle.std.specs.Prelude.{ℕ, ◌==◌, List, Option, Some, None, Result, Ok, Err}
use Rattle.std.specs.Option.{is_some}
use Rattle.std.specs.Result.{is_ok}
use Rattle.nb_units.specs.Frames.{Frame}
use Rattle.nb_entry.specs.declared.entry.Entry.{Entry}
use Rattle.nb_turns.specs.Turns.{Request}
use Rattle.nb_msgs.specs.Bodies.{kind_of, body_bytes}
use Rattle.nb_msgs.specs.Reading.{message_of}
use Rattle.nb_msgs.specs.ReplyBytes.{reply_frame}
use Rattle.nb_msgs.specs.declared.message.Message.{Message}
use Rattle.nb_msgs.specs.declared.message.Message.TheVariants as message
use Rattle.nb_msgs.specs.declared.node.Reason.{Reason}
use Rattle.nb_msgs.specs.declared.node.Step.{Step}
use Rattle.nb_msgs.specs.declared.node.Step.TheVariants as step
use Rattle.nb_msgs.specs.declared.node.To.{To}
use Rattle.nb_escrow.specs.declared.decision.Decision.{Decision}
use Rattle.nb_escrow.specs.declared.head.Head.{Head}
use Rattle.nb_escrow.specs.Verdict.{verdict}
use Rattle.nb_consumer.specs.declared.deed.Deed.{Deed}
use Rattle.nb_consumer.specs.State.{Buyer, purchase_of}
use Rattle.nb_consumer.specs.Restart.{untold}
use Rattle.nb_consumer.specs.Table as buys
use Rattle.nb_stall.specs.Sales.{sale_in}
use Rattle.nb_merchant.specs.declared.answer.Answer.{Answer}
use Rattle.nb_merchant.specs.Shop.{Shop}
use Rattle.nb_merchant.specs.Table as sells
use Rattle.nb_world.specs.declared.packet.Sending.{Sending}
use Rattle.nb_world.specs.declared.turning.Verdict.{Verdict}
use Rattle.nb_world.specs.World.{Going, Stays, Goes, Rules}
use Rattle.nb_world.specs.Headline.{verdict_shown}

-- a message for somebody, as what a node sends: its kind, and the spelling of its body
abbrev pub sending_of : To → Message → Sending
sending_of whom m = record { to = whom; kind = kind_of m; body = body_bytes m }

-- what a step sends, if anything
abbrev pub sent_by : Step → Option Sending
sent_by (step.Move keep whom m) = Some (sending_of whom m)
sent_by other = None

-- ---- consumers

-- what a consumer's row comes to: it does what the row says and sends its message, or ignores what it was told
abbrev pub buyer_goes : Buyer → Result Deed Reason → Going Buyer
buyer_goes b (Ok done) = Goes (buys.after b (Ok done)) (sent_by (buys.step_of (Ok done)))
buyer_goes b (Err why) = Stays

-- what it does at a message, if the body was one
abbrev pub buyer_hears : Buyer → Result Message ℕ → Going Buyer
buyer_hears b (Ok m) = buyer_goes b (buys.heard b m)
buyer_hears b (Err place) = Stays

-- ---- merchants

-- the row of a message: that of a result is taken as the house's, that of any other as a consumer's
abbrev pub shop_row : Shop → Message → ℕ → Result Answer Reason
shop_row shop (message.Result merchant consumer) moment = sells.heard_of_house shop (message.Result merchant consumer)
shop_row shop other moment = sells.heard shop other moment

-- the same of a merchant
abbrev pub shop_goes : Shop → Result Answer Reason → Going Shop
shop_goes shop (Ok answer) = Goes (sells.after shop (Ok answer)) (sent_by (sells.step_of (Ok answer)))
shop_goes shop (Err why) = Stays

-- what it does at a message, if the body was one, at a moment
abbrev pub shop_hears : Shop → Result Message ℕ → ℕ → Going Shop
shop_hears shop (Ok m) moment = shop_goes shop (shop_row shop m moment)
shop_hears shop (Err place) moment = Stays

-- ---- the house

-- a decision is shown as the frame of its reply under its keys
abbrev pub shown : Decision → Frame
shown d = reply_frame d.keys d.reply

-- the verdict of the house with this head, whose journal may hold so many entries
abbrev pub house_verdict : Head → ℕ → List Entry → Request → Verdict
house_verdict head cap entries request = verdict_shown shown (verdict entries head cap request.kind request.body request.moment)

-- ---- all of them

-- what a world of real parties goes by
abbrev pub real_rules : Head → ℕ → Rules Buyer Shop
real_rules head cap = record {
  verdict = house_verdict head cap;
  is_body = λ kind body. is_ok (message_of kind body);
  is_consumer = λ id b. b.wallet.id.0 == id.0;
  has_purchase = λ tid b. is_some (purchase_of b tid);
  consumer_starts = λ b start. buyer_goes b (buys.started b start);
  consumer_hears = λ b kind body. buyer_hears b (message_of kind body);
  consumer_waited = λ b tid. buyer_goes b (buys.silent b tid);
  consumer_again = untold;
  is_merchant = λ id shop. shop.stall.id.0 == id.0;
  has_sale = λ consumer tid shop. is_some (sale_in shop.items (sells.purchase_by consumer tid));
  merchant_hears = λ shop kind body moment. shop_hears shop (message_of kind body) moment;
  merchant_waited = λ shop consumer tid. shop_goes shop (sells.silent shop (sells.purchase_by consumer tid));
  merchant_again = λ shop. shop;
}

-- the same of consumers and the house alone, whatever merchants are and do
abbrev pub with_buyers : {M : Type 0} → Rules Buyer M → Head → ℕ → Rules Buyer M
with_buyers any head cap = record any {
  verdict = (real_rules head cap).verdict;
  is_body = (real_rules head cap).is_body;
  is_consumer = (real_rules head cap).is_consumer;
  has_purchase = (real_rules head cap).has_purchase;
  consumer_starts = (real_rules head cap).consumer_starts;
  consumer_hears = (real_rules head cap).consumer_hears;
  consumer_waited = (real_rules head cap).consumer_waited;
  consumer_again = (real_rules head cap).consumer_again;
}

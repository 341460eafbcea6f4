-- What rows do: whose frame is read behind one, and that behind a frame of the house none of it is.
use Rattle.std.proofs.Common.{◌≡◌, ℕ, Bool, true, false, List, Option, Some, None, Result, Ok, Err, codes, refl, sym, subst}
use Rattle.std.specs.Prelude.{◌==◌, if◌then◌else◌, IfOk, option_map}
use Rattle.nb_units.specs.Fields.{◌>>=◌}
use Rattle.nb_units.specs.declared.NoMemory.{NoMemory}
use Rattle.nb_units.specs.declared.ids.PartyId.{PartyId}
use Rattle.nb_endorse.specs.declared.receipt.Receipt.{Receipt}
use Rattle.nb_endorse.specs.Reading.{signed_of}
use Rattle.nb_msgs.specs.Tests.{field, found, opened}
use Rattle.nb_msgs.specs.declared.message.Message.{Message}
use Rattle.nb_msgs.specs.declared.message.Message.TheVariants as message
use Rattle.nb_msgs.specs.declared.node.Reason.{Reason}
use Rattle.nb_msgs.specs.declared.node.Reason.TheVariants as reason
use Rattle.nb_msgs.specs.declared.node.Step.{Step}
use Rattle.nb_msgs.specs.declared.node.Step.TheVariants as step
use Rattle.nb_msgs.specs.declared.node.To.{To}
use Rattle.nb_msgs.specs.declared.node.To.TheVariants as to
use Rattle.nb_wire.specs.declared.sending.Sent.{Sent}
use Rattle.nb_wire.specs.declared.sending.Sent.TheVariants.{All, Failed}
use Rattle.nb_stall.specs.declared.item.Item.TheVariants as item
use Rattle.nb_stall.specs.declared.purchase.Purchase.{Purchase}
use Rattle.nb_stall.specs.declared.sale.Progress.{Progress}
use Rattle.nb_stall.specs.declared.sale.Progress.TheVariants as progress
use Rattle.nb_stall.specs.declared.sale.Sale.{Sale}
use Rattle.nb_stall.specs.Spelling.{item_bytes}
use Rattle.nb_stall.specs.Sales.{sale_in, deliveries_in, sold_as}
use Rattle.nb_merchant.specs.declared.answer.Answer.{Answer}
use Rattle.nb_merchant.specs.Shop.{Shop}
use Rattle.nb_merchant.specs.Table.{step_of, first_result, resulted, result_sent, heard_of_house}
use Rattle.nb_sell.specs.declared.peer.Peer.{Peer}
use Rattle.nb_sell.specs.declared.peer.Peer.TheVariants.{House, Consumer}
use Rattle.nb_sell.specs.declared.peer.Next.{Next}
use Rattle.nb_sell.specs.Run.{is_last, link_for, next_of, awaited}
use Rattle.nb_sell.specs.Sold.{Lines, line_at}
use Rattle.nb_sell.specs.Steps.{IsForNoHouse, IsNext, next_sent, next_to, next_step, next_awaits, next_behind}

-- ---- whose frame is read next

sent_awaits : (peer : Peer) (so : Sent) → next_awaits (next_sent peer so) ≡ Some peer
sent_awaits peer All = refl
sent_awaits peer Failed = refl

pub awaits_behind : (last : Option PartyId) (row : Result Answer Reason) (lines : Lines) → next_awaits (next_behind last row lines) ≡ awaited row
awaits_behind last (Err why) lines = refl
awaits_behind last (Ok answer) lines = by answer.to
  where
    for_one : (is : Bool) → next_awaits (next_to (if is then Some Consumer else None) lines) ≡ Some Consumer
    for_one true = sent_awaits Consumer (line_at Consumer lines).sent
    for_one false = refl

    by : (whom : To) → next_awaits (next_to (link_for last whom) lines) ≡ Some (next_of whom)
    by to.Server = sent_awaits House (line_at House lines).sent
    by (to.Consumer consumer) = for_one (is_last last consumer)
    by (to.Merchant merchant) = refl

-- ---- the house's frames

-- it is for a consumer
abbrev IsConsumer : To → Type 0
IsConsumer (to.Consumer consumer) = Unit {0}
IsConsumer other = ⊥

abbrev IsForConsumer : Answer → Type 0
IsForConsumer answer = IsConsumer answer.to

always : {A : Type 0} (r : Result A Reason) (k : A → Result Answer Reason) → ((x : A) → IfOk (k x) IsForConsumer) → IfOk (r >>= k) IsForConsumer
always (Ok x) k each = each x
always (Err why) k each = tt

first_for : (p : Purchase) (sale : Sale) (r : Receipt) (part : List ℕ) → IfOk (first_result p sale r part) IsForConsumer
unfolding first_result
first_for p sale r part =
    always (field 1 (r.consumer.0 == p.consumer.0)) (λ consumer. field 2 (r.product == sale.product) >>= λ product. field 3 (r.price.0 == sale.price.0) >>= λ price. last)
    (λ consumer. always (field 2 (r.product == sale.product)) (λ product. field 3 (r.price.0 == sale.price.0) >>= λ price. last)
    (λ product. always (field 3 (r.price.0 == sale.price.0)) (λ price. last) (λ price. tt)))
  where
    last : Result Answer Reason
    last = Ok (record { keep = Some (item.Settled p part); to = to.Consumer p.consumer; message = message.Passed p.transaction part })

resulted_for : (p : Purchase) (sale : Sale) (r : Receipt) (part : List ℕ) (how : Progress) → IfOk (resulted p sale r part how) IsForConsumer
resulted_for p sale r part (progress.Endorsed epoid order) = first_for p sale r part
resulted_for p sale r part progress.Quoted = tt
resulted_for p sale r part (progress.Delivered epoid) = tt
resulted_for p sale r part (progress.Settled epoid order kept) = tt

result_for : (shop : Shop) (merchant consumer : List ℕ) → IfOk (result_sent shop merchant consumer) IsForConsumer
unfolding result_sent
result_for shop merchant consumer =
    always (opened signed_of shop.stall.key (codes "rcpt") merchant)
    (λ s. found reason.Unknown (sold_as (deliveries_in shop.items) s.receipt.epoid) >>= λ p. found reason.Unknown (sale_in shop.items p) >>= λ sale. resulted p sale s.receipt consumer sale.progress)
    (λ s. always (found reason.Unknown (sold_as (deliveries_in shop.items) s.receipt.epoid)) (λ p. found reason.Unknown (sale_in shop.items p) >>= λ sale. resulted p sale s.receipt consumer sale.progress)
    (λ p. always (found reason.Unknown (sale_in shop.items p)) (λ sale. resulted p sale s.receipt consumer sale.progress)
    (λ sale. resulted_for p sale s.receipt consumer sale.progress)))

house_for : (shop : Shop) (m : Message) → IfOk (heard_of_house shop m) IsForConsumer
house_for shop (message.Result merchant consumer) = result_for shop merchant consumer
house_for shop (message.Refusal r) = tt
house_for shop (message.PriceAsk ticket sealed) = tt
house_for shop (message.Quote t sealed) = tt
house_for shop (message.GoodsAsk ticket sealed) = tt
house_for shop (message.Goods t head part) = tt
house_for shop (message.Order ticket sealed) = tt
house_for shop (message.Endorsed merchant sealed) = tt
house_for shop (message.Passed t part) = tt
house_for shop (message.StatusAsk query) = tt
house_for shop (message.Status sealed) = tt
house_for shop (message.TicketAsk ask) = tt
house_for shop (message.Grant sealed) = tt
house_for shop (message.Enrol enrolment) = tt
house_for shop (message.Fund funding) = tt
house_for shop (message.Done acct at balance) = tt

row_for : (row : Result Answer Reason) → IfOk row IsForConsumer → IsForNoHouse (step_of row)
row_for (Err why) is = tt
row_for (Ok answer) is = by (option_map item_bytes answer.keep) answer.to answer.message is
  where
    by : (keep : Option (List ℕ)) (whom : To) (m : Message) → IsConsumer whom → IsForNoHouse (step.Move keep whom m)
    by keep to.Server m is = absurd is
    by keep (to.Consumer consumer) m is = tt
    by keep (to.Merchant merchant) m is = absurd is

-- what is done at a message of the house is not for it
pub house_step : (shop : Shop) (m : Message) (st : Step) → st ≡ step_of (heard_of_house shop m) → IsForNoHouse st
house_step shop m st is = subst IsForNoHouse (sym is) (row_for (heard_of_house shop m) (house_for shop m))

pub house_told : (shop : Shop) (m : Message) (result : Result Step NoMemory) → IfOk result (λ (st : Step). st ≡ step_of (heard_of_house shop m)) → IfOk result IsForNoHouse
house_told shop m (Ok st) is = house_step shop m st is
house_told shop m (Err none) is = tt

-- and so behind it no frame of the house is read
pub told_next : (last : Option PartyId) (st : Step) (lines : Lines) (n : Next) → IsForNoHouse st → n ≡ next_step last st lines → IsNext House n
told_next last (step.Ended keep end) lines n is e = subst (IsNext House) (sym e) tt
told_next last (step.Ignored why) lines n is e = subst (IsNext House) (sym e) tt
told_next last (step.Move keep to.Server m) lines n is e = absurd is
told_next last (step.Move keep (to.Merchant merchant) m) lines n is e = subst (IsNext House) (sym e) tt
told_next last (step.Move keep (to.Consumer consumer) m) lines n is e = subst (IsNext House) (sym e) (by (is_last last consumer))
  where
    sent : (so : Sent) → IsNext House (next_sent Consumer so)
    sent All = tt
    sent Failed = tt

    by : (is : Bool) → IsNext House (next_to (if is then Some Consumer else None) lines)
    by true = sent (line_at Consumer lines).sent
    by false = tt

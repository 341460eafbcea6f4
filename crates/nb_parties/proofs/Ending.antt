-- A purchase that ended by a receipt of the house is what the entry of its order says.
use Rattle.std.proofs.Common.{◌≡◌, ◌⊎◌, inl, inr, ℕ, Bool, true, false, cond, List, [], ◌∷◌, ◌++◌, length, take, Option, None, Some, IfSome, Result, Ok, Err, refl, sym, ap, subst, ◌∙◌}
use Rattle.std.proofs.lemmas.Bool.{eqb-true, eq-eqb, and_parts}
use Rattle.std.specs.Prelude.{◌==◌, ◌&&◌, codes}
use Rattle.std.specs.List.{slice_get, AllByRecursion}
use Rattle.std.specs.Result.{is_ok}
use Rattle.nb_units.specs.Epoid.{epoid_bytes, epoid_of, is_same_epoid}
use Rattle.nb_units.specs.declared.epoid.Epoid.{Epoid}
use Rattle.nb_units.specs.declared.ids.PartyId.{PartyId}
use Rattle.nb_units.specs.declared.ids.Price.{Price}
use Rattle.nb_seal.specs.Seal.{text_in}
use Rattle.nb_seal.proofs.Opening.{text_in_opens, text_in_no_seal}
use Rattle.nb_entry.specs.declared.entry.TheConstants.{CONSUMER, MERCHANT}
use Rattle.nb_book.specs.Laws.{StaysLegal}
use Rattle.nb_epo.specs.declared.order.Order.{Order}
use Rattle.nb_endorse.specs.Differing.{IsOf}
use Rattle.nb_endorse.specs.Places.{SaysAs}
use Rattle.nb_endorse.specs.Tags.{receipt_tag}
use Rattle.nb_endorse.specs.declared.receipt.Receipt.{Receipt}
use Rattle.nb_endorse.specs.declared.receipt.Signed.{Signed}
use Rattle.nb_endorse.specs.declared.receipt.TheConstants.{PAID_CODE}
use Rattle.nb_endorse.proofs.Placing.{spelled_is_read}
use Rattle.nb_msgs.specs.Reading.{message_of}
use Rattle.nb_msgs.specs.declared.message.Message.{Message}
use Rattle.nb_body.specs.declared.end.End.{End}
use Rattle.nb_body.specs.declared.end.End.TheVariants as end
use Rattle.nb_msgs.specs.declared.node.Reason.{Reason}
use Rattle.nb_wallet.specs.Stages.{stage_opened, stage_with, stage_ended, end_of}
use Rattle.nb_wallet.specs.declared.item.Item.TheVariants as item
use Rattle.nb_wallet.specs.Purchases.{Purchase}
use Rattle.nb_wallet.specs.declared.purchase.Stage.{Stage}
use Rattle.nb_wallet.specs.declared.purchase.Stage.TheVariants as stage
use Rattle.nb_escrow.specs.Laws as escrow
use Rattle.nb_escrow.specs.Head.{IsRuling}
use Rattle.nb_escrow.specs.Lasting.{CodeSays}
use Rattle.nb_escrow.specs.Settlements.{receipt_in_role, receipt_of_party}
use Rattle.nb_escrow.specs.declared.head.Head.{Head}
use Rattle.nb_escrow.specs.declared.settlement.PaymentOutcome.{PaymentOutcome}
use Rattle.nb_escrow.specs.declared.settlement.PaymentOutcome.TheVariants.{Paid, Refused}
use Rattle.nb_escrow.specs.declared.settlement.Settlement.{Settlement}
use Rattle.nb_escrow.proofs.Lasts.{receipts_say_the_settlement}
use Rattle.nb_consumer.specs.Goods.{phase_of, phase_in, phase_at, goods_at, HasEnded}
use Rattle.nb_consumer.specs.Laws.{RowSo}
use Rattle.nb_consumer.specs.Restart.{holds_at}
use Rattle.nb_consumer.specs.Runs.{Starts, Hears, Waits}
use Rattle.nb_consumer.specs.State.{Buyer, purchase_of, behind_item}
use Rattle.nb_consumer.specs.Table.{started, heard, silent, after, owing_in, none_failed, receipt_fits}
use Rattle.nb_consumer.specs.declared.deed.Deed.{Deed}
use Rattle.nb_consumer.specs.declared.deed.Deed.TheVariants as deed
use Rattle.nb_consumer.specs.declared.phase.Phase.TheVariants as phase
use Rattle.nb_consumer.proofs.Again.{found_behind, ends_are, stage_tells}
use Rattle.nb_consumer.proofs.Keeping.{rows_are_so}
use Rattle.nb_consumer.proofs.Knowing.{known_for}
use Rattle.nb_consumer.proofs.Staying.{ended_stays}
use Rattle.nb_turns.specs.Turns.{Request}
use Rattle.nb_world.specs.declared.call.Call.{Call}
use Rattle.nb_world.specs.declared.event.Event.{Event}
use Rattle.nb_world.specs.declared.event.Event.TheVariants as on
use Rattle.nb_world.specs.declared.packet.Maker.{Maker}
use Rattle.nb_world.specs.declared.packet.Maker.TheVariants as by
use Rattle.nb_world.specs.declared.packet.Packet.{Packet}
use Rattle.nb_world.specs.declared.packet.Sending.{Sending}
use Rattle.nb_world.specs.World.{Going, Stays, Goes, Rules, World, request_of}
use Rattle.nb_world.specs.Steps.{packets_of, next, run}
use Rattle.nb_world.specs.Nodes.{ConsumerGoes}
use Rattle.nb_world.specs.Laws.{Asks, IsReply, RepliesSo, IsLawfulWorld, IsSetUp, RecordsLegal}
use Rattle.nb_world.proofs.Chains.{same_some}
use Rattle.nb_world.proofs.Going.{consumer_steps}
use Rattle.nb_world.proofs.Holding.{GoesSo, StepsKeep, HoldsIn, run_holds}
use Rattle.nb_world.proofs.Lists.{all_at}
use Rattle.nb_world.proofs.Serving.{world_law}
use Rattle.nb_world.proofs.Settling.{house_records_legal}
use Rattle.nb_world.proofs.Stopping.{run_then}
use Rattle.nb_parties.specs.Rules.{buyer_goes, buyer_hears, shown, with_buyers}
use Rattle.nb_parties.specs.Ends.{EndsBy, IsToldBy, IsOrdered, IsPaid, IsFoul, EndsAs, EndsAsEntry, EndsLaw, RealIsOne}
use Rattle.nb_parties.proofs.Standing.{still_there}
use Rattle.nb_parties.proofs.Spelled.{key_long, reads_back}
use Rattle.nb_parties.proofs.Telling.{GivenTo, reply_given}

-- ---- a purchase that is over stays, behind every list of events

-- nothing is asked
pub nothing : {S : Type 0} (maker : Maker) (g : Going S) → GoesSo (λ (s : S). Unit {0}) (λ (made : Packet). Unit {0}) maker g
nothing maker Stays = tt
nothing maker (Goes s None) = (tt, tt)
nothing maker (Goes s (Some sent)) = (tt, (tt, tt))

pub any_packets : (maker : Maker) (sent : Option Sending) → AllByRecursion (λ (made : Packet). Unit {0}) (packets_of maker sent)
any_packets maker None = tt
any_packets maker (Some sent) = (tt, tt)

module _ (place t : ℕ) (p : Purchase) (over : HasEnded (phase_in (Some p))) where
  -- the consumer at this place has this purchase under this number
  HasIt : ℕ → Buyer → Type 0
  HasIt i b = i ≡ place → purchase_of b t ≡ Some p

  over_in : (b : Buyer) → purchase_of b t ≡ Some p → HasEnded (phase_in (purchase_of b t))
  over_in b has = subst (λ (o : Option Purchase). HasEnded (phase_in o)) (sym has) over

  row_has : (i : ℕ) (maker : Maker) (b : Buyer) (row : Result Deed Reason) → (purchase_of b t ≡ Some p → purchase_of (after b row) t ≡ purchase_of b t) → HasIt i b
      → GoesSo (HasIt i) (λ (made : Packet). Unit {0}) maker (buyer_goes b row)
  unfolding HasIt
  row_has i maker b (Ok done) stays has = ((λ same. stays (has same) ∙ has same), any_packets maker _)
  row_has i maker b (Err why) stays has = tt

  hears_has : (i : ℕ) (maker : Maker) (b : Buyer) (read : Result Message ℕ) → HasIt i b → GoesSo (HasIt i) (λ (made : Packet). Unit {0}) maker (buyer_hears b read)
  hears_has i maker b (Ok m) has = row_has i maker b (heard b m) (λ known. (ended_stays b t (over_in b known)).0 (Hears m)) has
  hears_has i maker b (Err bad) has = tt

  keeps_over : {M : Type 0} (any : Rules Buyer M) (head : Head) (cap : ℕ) → StepsKeep (with_buyers any head cap) HasIt (λ i m. Unit {0}) (λ made. Unit {0})
  unfolding HasIt
  keeps_over any head cap = record {
    starts = λ i id c start one has. row_has i (by.Consumer id) c (started c start) (λ known. (ended_stays c t (over_in c known)).0 (Starts start)) has;
    hears = λ i id c kind body one has. hears_has i (by.Consumer id) c (message_of kind body) has;
    waited = λ i id c tid one has. row_has i (by.Consumer id) c (silent c tid) (λ known. (ended_stays c t (over_in c known)).0 (Waits tid)) has;
    again = λ i c has same. (ended_stays c t (over_in c (has same))).1 ∙ has same;
    merchant_hears = λ i id m kind body moment one so. nothing (by.Merchant id) (any.merchant_hears m kind body moment);
    merchant_waited = λ i id m consumer tid one so. nothing (by.Merchant id) (any.merchant_waited m consumer tid);
    merchant_again = λ i m so. tt;
    others = λ made none. tt;
  }

pub all_packets : (packets : List Packet) → AllByRecursion (λ (made : Packet). Unit {0}) packets
all_packets [] = tt
all_packets (made ∷ packets) = (tt, all_packets packets)

stays_over : {M : Type 0} (any : Rules Buyer M) (head : Head) (cap : ℕ) (v : World Buyer M) (place t : ℕ) (p : Purchase) → HasEnded (phase_in (Some p))
    → ((b : Buyer) → slice_get v.consumers place ≡ Some b → purchase_of b t ≡ Some p) → (more : List Event) (b : Buyer)
    → slice_get (run (with_buyers any head cap) v more).consumers place ≡ Some b → purchase_of b t ≡ Some p
unfolding HasIt
stays_over any head cap v place t p over now more b there =
    let first : HoldsIn (HasIt place t p over) (λ i m. Unit {0}) (λ made. Unit {0}) v = record {
      consumers = λ i c at same. now c (subst (λ (n : ℕ). slice_get v.consumers n ≡ Some c) same at);
      merchants = λ i m at. tt;
      packets = all_packets v.packets;
    } in
    (run_holds (with_buyers any head cap) (HasIt place t p over) (λ i m. Unit {0}) (λ made. Unit {0}) (keeps_over place t p over any head cap) more v first).consumers place b there refl

-- ---- the end

-- the purchase that ends by a receipt
ended_purchase : Purchase → Receipt → Purchase
ended_purchase p r = record { start = p.start; stage = stage_ended r p.held; held = p.held }

is_over : (p : Purchase) (r : Receipt) → HasEnded (phase_in (Some (ended_purchase p r)))
unfolding ended_purchase
is_over p r = subst (λ ph. HasEnded (Some ph)) (sym (stage_tells r p.held).0) (by_end (end_of r p.held))
  where
    by_end : (e : End) → HasEnded (Some (phase_at e))
    by_end (end.Paid goods) = tt
    by_end (end.Refused code) = tt
    by_end end.Foul = tt

-- a receipt that fits an order is of it
one_epoid : (a b : Epoid) → is_same_epoid a b ≡ true → a ≡ b
one_epoid a b is =
    let last = and_parts (a.merchant.0 == b.merchant.0 && a.moment == b.moment) (a.serial == b.serial) is in
    let first = and_parts (a.merchant.0 == b.merchant.0) (a.moment == b.moment) last.0 in
    ap (λ (n : ℕ). let e : Epoid = record { merchant = record { 0 = n }; moment = a.moment; serial = a.serial } in e) (eqb-true a.merchant.0 b.merchant.0 first.0)
    ∙ ap (λ (n : ℕ). let e : Epoid = record { merchant = b.merchant; moment = n; serial = a.serial } in e) (eqb-true a.moment b.moment first.1)
    ∙ ap (λ (n : ℕ). let e : Epoid = record { merchant = b.merchant; moment = b.moment; serial = n } in e) (eqb-true a.serial b.serial last.1)

five : (a b c d e : Bool) → is_ok (none_failed (cond a (cond b (cond c (cond d (cond e None (Some 5)) (Some 4)) (Some 3)) (Some 2)) (Some 1))) ≡ true
    → (a ≡ true) × (b ≡ true) × (c ≡ true) × (d ≡ true) × (e ≡ true)
five true true true true true is = (refl, refl, refl, refl, refl)
five true true true true false is = absurd cc
five true true true false e is = absurd cc
five true true false d e is = absurd cc
five true false c d e is = absurd cc
five false b c d e is = absurd cc

party_is : (a b : PartyId) → (a.0 == b.0) ≡ true → a ≡ b
party_is a b is = ap (λ (n : ℕ). let id : PartyId = record { 0 = n } in id) (eqb-true a.0 b.0 is)

price_is : (a b : Price) → (a.0 == b.0) ≡ true → a ≡ b
price_is a b is = ap (λ (n : ℕ). let amount : Price = record { 0 = n } in amount) (eqb-true a.0 b.0 is)

of_order : (r : Receipt) (o : Order) → is_ok (receipt_fits o r) ≡ true → IsOf r o.epoid o.consumer o.merchant o.product o.price
unfolding receipt_fits
of_order r o is =
    let tests = five (is_same_epoid r.epoid o.epoid) (r.consumer.0 == o.consumer.0) (r.merchant.0 == o.merchant.0) (r.product == o.product) (r.price.0 == o.price.0) is in
    record {
      epoid = one_epoid r.epoid o.epoid tests.0;
      consumer = party_is r.consumer o.consumer tests.1;
      merchant = party_is r.merchant o.merchant tests.2;
      product = eqb-true r.product o.product tests.3;
      price = price_is r.price o.price tests.4;
    }

-- the order of a purchase that a receipt may end
record OfOrder (p : Purchase) (r : Receipt) : Type 0 where
  order : Order
  ordered : IsOrdered p order
  its : IsOf r order.epoid order.consumer order.merchant order.product order.price

order_of_stage : (p : Purchase) (r : Receipt) (s : Stage) → p.stage ≡ s → holds_at (owing_in s) (λ o. is_ok (receipt_fits o.order r)) ≡ true → OfOrder p r
order_of_stage p r (stage.Ordered pass order least) is fits = record { order = order; ordered = (pass, least, is); its = of_order r order fits }
order_of_stage p r stage.Ticketing is fits = absurd cc
order_of_stage p r (stage.Asked pass) is fits = absurd cc
order_of_stage p r (stage.Wanted pass price head) is fits = absurd cc
order_of_stage p r (stage.Paid key) is fits = absurd cc
order_of_stage p r (stage.Refused code) is fits = absurd cc
order_of_stage p r stage.Foul is fits = absurd cc

-- ---- as the outcome says

-- a payment, by its key
paid_ends : (p : Purchase) (r : Receipt) (key : List ℕ) → r.code ≡ PAID_CODE → r.key ≡ Some key → IsPaid key (ended_purchase p r) ⊎ IsFoul key (ended_purchase p r)
unfolding ended_purchase
paid_ends p r key code keyed = by (text_in key (codes "good") p.held) refl
  where
    at_key : stage_ended r p.held ≡ stage_opened key (text_in key (codes "good") p.held)
    at_key = ap (λ (b : Bool). cond b (stage_with r.key p.held) (stage.Refused r.code)) (eq-eqb r.code PAID_CODE code) ∙ ap (λ (o : Option (List ℕ)). stage_with o p.held) keyed

    by : (o : Option (List ℕ)) → text_in key (codes "good") p.held ≡ o → IsPaid key (ended_purchase p r) ⊎ IsFoul key (ended_purchase p r)
    by (Some goods) is =
        let opens = (text_in_opens key (codes "good") p.held goods).0 is in
        let how : end_of r p.held ≡ end.Paid goods = (ends_are r p.held).1 key goods code keyed opens in
        inl (record {
          goods = goods;
          opens = opens;
          by_key = at_key ∙ ap (stage_opened key) is;
          told = (stage_tells r p.held).0 ∙ ap phase_at how;
          given = (stage_tells r p.held).1 ∙ ap goods_at how;
        })
    by None is =
        let opens = (text_in_no_seal key (codes "good") p.held).0 is in
        let how : end_of r p.held ≡ end.Foul = (ends_are r p.held).2 key code keyed opens in
        inr (record { opens = opens; told = (stage_tells r p.held).0 ∙ ap phase_at how })

ends_as : (p : Purchase) (s : Signed) (r : Receipt) (outcome : PaymentOutcome) → CodeSays outcome r → SaysAs s.receipt r → ((key : List ℕ) → r.key ≡ Some key → length key ≡ 32)
    → EndsAs outcome s (ended_purchase p s.receipt)
unfolding ended_purchase
ends_as p s r (Paid cacct macct key fee) says same long =
    let code : s.receipt.code ≡ PAID_CODE = same.code ∙ says.0 in
    let keyed : s.receipt.key ≡ Some key = same.key (subst (λ (o : Option (List ℕ)). IfSome o (λ k. length k ≡ 32)) (sym says.1) (long key says.1)) ∙ says.1 in
    (code, keyed, paid_ends p s.receipt key code keyed)
ends_as p s r (Refused why) says same long =
    let code : s.receipt.code ≡ why.code = same.code ∙ says.0 in
    let keyed : s.receipt.key ≡ None = same.key (subst (λ (o : Option (List ℕ)). IfSome o (λ k. length k ≡ 32)) (sym says.2) tt) ∙ says.2 in
    let how : end_of s.receipt p.held ≡ end.Refused s.receipt.code = (ends_are s.receipt p.held).0 (λ paid. says.1 (sym same.code ∙ paid)) in
    (code, keyed, refused how code)
  where
    refused : end_of s.receipt p.held ≡ end.Refused s.receipt.code → s.receipt.code ≡ why.code → phase_of (ended_purchase p s.receipt).stage (ended_purchase p s.receipt).held ≡ phase.Refused why.code
    refused how code = (stage_tells s.receipt p.held).0 ∙ ap phase_at how ∙ ap phase.Refused code

-- the receipt of a consumer's role is its own
own_is : (whom : PartyId) (settlement : Settlement) (r : Receipt) → receipt_of_party whom (Some settlement) ≡ Some r → whom ≡ settlement.consumer → r ≡ receipt_in_role CONSUMER settlement
own_is whom settlement r given own =
    let same : receipt_of_party whom (Some settlement) ≡ Some (receipt_in_role CONSUMER settlement) =
    ap (λ (b : Bool). cond b (Some (receipt_in_role CONSUMER settlement)) (cond (settlement.merchant.0 == whom.0) (Some (receipt_in_role MERCHANT settlement)) None))
    (eq-eqb settlement.consumer.0 whom.0 (ap (λ (x : PartyId). x.0) (sym own))) in
    same_some r (receipt_in_role CONSUMER settlement) (sym given ∙ same)

-- ---- the law

same_call : {C M : Type 0} (w : World C M) (c : ℕ) (one other : Packet) (first second : ℕ) → Asks w c one first → Asks w c other second → request_of one first ≡ request_of other second
same_call w c one other first second a b =
    let call : a.call ≡ b.call = same_some a.call b.call (sym a.is ∙ b.is) in
    let packet : one ≡ other = same_some one other (sym a.of ∙ ap (λ (x : Call). slice_get w.packets x.packet) call ∙ b.of) in
    let moment : first ≡ second = sym a.at ∙ ap (λ (x : Call). x.moment) call ∙ b.at in
    ap (λ (x : Packet). request_of x first) packet ∙ ap (request_of other) moment

epoid_in : (role : ℕ) (settlement : Settlement) → (receipt_in_role role settlement).epoid ≡ settlement.epoid
unfolding receipt_in_role
epoid_in role settlement = refl

module _ {M : Type 0} (stays : StaysLegal) (legal : escrow.RecordsLegal) (any : Rules Buyer M) (head : Head) (cap : ℕ) (ruling : IsRuling head) (w : World Buyer M) (setup : IsSetUp w) where
  -- what the house told of a receipt is what a settlement gives
  told_given : (es : List Event) (key : List ℕ) (s : Signed) (told : IsToldBy head cap (run (with_buyers any head cap) w es) key s)
      → GivenTo head.house (run (with_buyers any head cap) w es).durable told.whom s × IsLawfulWorld (with_buyers any head cap).verdict (run (with_buyers any head cap) w es)
  told_given es key s told =
      let p = with_buyers any head cap in
      let later = run p w es in
      let records : RecordsLegal p.verdict = house_records_legal legal p shown head cap (λ entries request. refl) ruling in
      let lawful : IsLawfulWorld p.verdict later = world_law stays p w records setup es in
      let reply : RepliesSo p.verdict later told.made told.made.maker = all_at (λ (x : Packet). RepliesSo p.verdict later x x.maker) later.packets told.place told.made told.there lawful.replies in
      let so : IsReply p.verdict later told.made told.call told.at = subst (RepliesSo p.verdict later told.made) told.maker reply in
      let request : request_of so.packet so.moment ≡ request_of told.packet told.moment = same_call later told.call so.packet told.packet so.moment told.moment so.asks told.asks in (
        reply_given later.durable head cap told.packet.kind told.packet.body told.moment told.at key told.whom s
            (λ e has. so.recorded e (ap (λ (x : Request). (p.verdict (take told.at later.durable) x).entry) request ∙ has)) told.tells,
        lawful,
      )

  -- behind the delivery the consumer is what its row says
  behind_end : (v : World Buyer M) (id : PartyId) (k t : ℕ) (s : Signed) (ended : EndsBy (with_buyers any head cap) v id k t s)
      → slice_get (next (with_buyers any head cap) v (on.Deliver k)).consumers ended.is.place ≡ Some (after ended.buyer (Ok (deed.Ends t s ended.how)))
  behind_end v id k t s ended =
      let p = with_buyers any head cap in
      let goes : ConsumerGoes v ended.is.place id (p.consumer_hears ended.buyer ended.packet.kind ended.packet.body) (next p v (on.Deliver k)) =
      (consumer_steps p v id ended.buyer ended.is).hears k ended.packet ended.there ended.addressed (ap is_ok ended.read) in
      let row : p.consumer_hears ended.buyer ended.packet.kind ended.packet.body ≡ buyer_goes ended.buyer (Ok (deed.Ends t s ended.how)) =
      ap (buyer_hears ended.buyer) ended.read ∙ ap (buyer_goes ended.buyer) ended.ends in
      (subst (λ (g : Going Buyer). ConsumerGoes v ended.is.place id g (next p v (on.Deliver k))) row goes).became.stands

  ends : (es more : List Event) (id : PartyId) (k t : ℕ) (s : Signed) (ended : EndsBy (with_buyers any head cap) (run (with_buyers any head cap) w es) id k t s)
      (told : IsToldBy head cap (run (with_buyers any head cap) w (es ++ on.Deliver k ∷ more)) ended.buyer.wallet.key s) (b : Buyer)
      → slice_get (run (with_buyers any head cap) w (es ++ on.Deliver k ∷ more)).consumers ended.is.place ≡ Some b
      → EndsAsEntry head.house (run (with_buyers any head cap) w (es ++ on.Deliver k ∷ more)).durable told.whom s (purchase_of ended.buyer t) (purchase_of b t)
  unfolding ended_purchase
  ends es more id k t s ended told b there =
      let p = with_buyers any head cap in
      let v = run p w es in
      let later = run p w (es ++ on.Deliver k ∷ more) in
      let so = told_given (es ++ on.Deliver k ∷ more) ended.buyer.wallet.key s told in
      let given = so.0 in
      let receipt : Receipt = receipt_in_role given.role given.settlement in
      let row : RowSo ended.buyer (Ok (deed.Ends t s ended.how)) = subst (RowSo ended.buyer) ended.ends ((rows_are_so ended.buyer).1 ended.message) in
      let known = known_for (purchase_of ended.buyer t) _ row.0 in
      let before : Purchase = known.0 in
      let order : OfOrder before s.receipt = order_of_stage before s.receipt before.stage refl known.2 in
      let says : SaysAs s.receipt receipt = spelled_is_read receipt (receipt_tag head.house receipt) s given.bytes in
      let now : (c : Buyer) → slice_get (next p v (on.Deliver k)).consumers ended.is.place ≡ Some c → purchase_of c t ≡ Some (ended_purchase before s.receipt) =
      λ c at. ended_at c at before known.1 in
      record {
        before = before;
        behind = ended_purchase before s.receipt;
        order = order.order;
        known = known.1;
        stays = stays_over any head cap (next p v (on.Deliver k)) ended.is.place t (ended_purchase before s.receipt) (is_over before s.receipt) now more b
            (subst (λ (u : World Buyer M). slice_get u.consumers ended.is.place ≡ Some b) (run_then p w es (on.Deliver k ∷ more)) there);
        held = refl;
        ordered = order.ordered;
        of_order = order.its;
        name = given.name;
        settlement = given.settlement;
        named = sym (says.epoid ∙ ap (λ (e : Epoid). epoid_of (epoid_bytes e)) (epoid_in given.role given.settlement ∙ given.its)) ∙ order.its.epoid;
        settled = given.settled;
        receipt = receipt;
        given = given.given;
        own = own_is told.whom given.settlement receipt given.given;
        bytes = given.bytes;
        within = reads_back head.house receipt s given.bytes;
        ends = ends_as before s receipt given.settlement.outcome (receipts_say_the_settlement later.durable so.1.legal given.name given.role given.settlement given.settled) says
            (λ key keyed. key_long head.house receipt s key given.bytes keyed);
      }
    where
      ended_at : (c : Buyer) → slice_get (next (with_buyers any head cap) (run (with_buyers any head cap) w es) (on.Deliver k)).consumers ended.is.place ≡ Some c
          → (q : Purchase) → purchase_of ended.buyer t ≡ Some q → purchase_of c t ≡ Some (ended_purchase q s.receipt)
      ended_at c at q known =
          let same : after ended.buyer (Ok (deed.Ends t s ended.how)) ≡ c = same_some _ c (sym (behind_end (run (with_buyers any head cap) w es) id k t s ended) ∙ at) in
          ap (λ (x : Buyer). purchase_of x t) (sym same) ∙ found_behind ended.buyer t q (behind_item (item.Ended t s)) known refl

pub ends_law : {M : Type 0} → StaysLegal → escrow.RecordsLegal → EndsLaw M
ends_law {M} stays legal any head cap ruling w setup es more id k t s ended =
    let p = with_buyers any head cap in
    let there = still_there p (on.Deliver k ∷ more) (run p w es) ended.is.place ended.buyer ended.is.stands in
    let now : slice_get (run p w (es ++ on.Deliver k ∷ more)).consumers ended.is.place ≡ Some there.0 =
    ap (λ (v : World Buyer M). slice_get v.consumers ended.is.place) (run_then p w es (on.Deliver k ∷ more)) ∙ there.1 in
    (there.0, now, λ told. ends stays legal any head cap ruling w setup es more id k t s ended told there.0 now)

pub real_is_one : RealIsOne
real_is_one head cap = refl

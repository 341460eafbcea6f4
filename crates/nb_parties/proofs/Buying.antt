-- A consumer of which a payment is told holds the goods.
use Rattle.std.proofs.Common.{◌≡◌, ◌⊎◌, inl, inr, ℕ, zero, suc, List, [], ◌∷◌, map, set, Option, None, Some, Result, Ok, Err, refl, sym, ap, subst, ◌∙◌}
use Rattle.std.specs.Prelude.{codes}
use Rattle.std.specs.List.{slice_get, AllByRecursion}
use Rattle.sha2.specs.Sha256.{sha256}
use Rattle.nb_seal.proofs.Opening.{opens_once}
use Rattle.nb_epo.specs.Places.{checksum_in}
use Rattle.nb_epo.specs.Spelling.{order_bytes}
use Rattle.nb_epo.specs.declared.order.Order.{Order}
use Rattle.nb_msgs.specs.Reading.{message_of}
use Rattle.nb_msgs.specs.declared.message.Message.{Message}
use Rattle.nb_msgs.specs.declared.node.Reason.{Reason}
use Rattle.nb_wallet.specs.Stages.{raised_from}
use Rattle.nb_wallet.specs.declared.item.Item.TheVariants as item
use Rattle.nb_wallet.specs.Purchases.{Purchase}
use Rattle.nb_wallet.specs.declared.purchase.Stage.{Stage}
use Rattle.nb_wallet.specs.declared.purchase.Stage.TheVariants as stage
use Rattle.nb_wallet.specs.declared.wallet.Wallet.{Wallet}
use Rattle.nb_escrow.specs.declared.head.Head.{Head}
use Rattle.nb_escrow.specs.declared.settlement.PaymentOutcome.{PaymentOutcome}
use Rattle.nb_escrow.specs.declared.settlement.PaymentOutcome.TheVariants.{Paid}
use Rattle.nb_consumer.specs.Known.{HeldSo, AskedSo, PurchaseSo, AllSo}
use Rattle.nb_consumer.specs.Laws.{RowSo}
use Rattle.nb_consumer.specs.Restart.{untold_purchase}
use Rattle.nb_consumer.specs.State.{Buyer, place_of, purchase_of, changed_with, changed_at, raised}
use Rattle.nb_consumer.specs.Table.{started, heard, silent, after}
use Rattle.nb_consumer.specs.declared.deed.Deed.{Deed}
use Rattle.nb_consumer.specs.declared.deed.Deed.TheVariants as deed
use Rattle.nb_consumer.proofs.Keeping.{rows_are_so}
use Rattle.nb_consumer.proofs.Knowing.{so_of, all_behind}
use Rattle.nb_merchant.specs.Sending.{OpensOrCollides}
use Rattle.nb_merchant.specs.Shop.{Shop}
use Rattle.nb_world.specs.declared.event.Event.{Event}
use Rattle.nb_world.specs.declared.packet.Maker.{Maker}
use Rattle.nb_world.specs.declared.packet.Maker.TheVariants as by
use Rattle.nb_world.specs.declared.packet.Packet.{Packet}
use Rattle.nb_world.specs.World.{World}
use Rattle.nb_world.specs.Steps.{run}
use Rattle.nb_world.proofs.Chains.{same_some}
use Rattle.nb_world.proofs.Holding.{GoesSo, StepsKeep, HoldsIn, run_holds}
use Rattle.nb_parties.specs.Rules.{buyer_goes, buyer_hears, real_rules}
use Rattle.nb_parties.specs.Ends.{IsOrdered, IsPaid, IsFoul, EndsAs}
use Rattle.nb_parties.specs.Held.{ConsumersAreSo, HoldsGoods, BuyersHoldGoods}
use Rattle.nb_parties.proofs.Ending.{nothing, any_packets, all_packets}

-- ---- what is known of each purchase, behind a row and a restart

raised_so : (w : Wallet) (place : ℕ) (p : Purchase) (s : Stage) → p.stage ≡ s → PurchaseSo w p → HeldSo (raised_from s place) p.held × AskedSo w p.start (raised_from s place)
raised_so w place p (stage.Ordered pass order least) is so = (subst (λ (s : Stage). HeldSo s p.held) is so.0, subst (AskedSo w p.start) is so.1)
raised_so w place p stage.Ticketing is so = (subst (λ (s : Stage). HeldSo s p.held) is so.0, subst (AskedSo w p.start) is so.1)
raised_so w place p (stage.Asked pass) is so = (subst (λ (s : Stage). HeldSo s p.held) is so.0, subst (AskedSo w p.start) is so.1)
raised_so w place p (stage.Wanted pass price head) is so = (subst (λ (s : Stage). HeldSo s p.held) is so.0, subst (AskedSo w p.start) is so.1)
raised_so w place p (stage.Paid key) is so = (subst (λ (s : Stage). HeldSo s p.held) is so.0, subst (AskedSo w p.start) is so.1)
raised_so w place p (stage.Refused code) is so = (subst (λ (s : Stage). HeldSo s p.held) is so.0, subst (AskedSo w p.start) is so.1)
raised_so w place p stage.Foul is so = (subst (λ (s : Stage). HeldSo s p.held) is so.0, subst (AskedSo w p.start) is so.1)

all_raised : (w : Wallet) (place : ℕ) (ps : List Purchase) (i : ℕ) → AllByRecursion (PurchaseSo w) ps → AllByRecursion (PurchaseSo w) (changed_with ps i (raised place) (slice_get ps i))
all_raised w place ps i all = by (slice_get ps i) refl
  where
    at_place : (qs : List Purchase) (n : ℕ) (p : Purchase) → AllByRecursion (PurchaseSo w) qs → slice_get qs n ≡ Some p → AllByRecursion (PurchaseSo w) (set qs n (raised place p))
    at_place [] n p so got = tt
    at_place (q ∷ qs) zero p so got =
        let same : q ≡ p = same_some q p got in
        (raised_so w place p p.stage refl (subst (PurchaseSo w) same so.0), so.1)
    at_place (q ∷ qs) (suc n) p so got = (so.0, at_place qs n p so.1 got)

    by : (o : Option Purchase) → slice_get ps i ≡ o → AllByRecursion (PurchaseSo w) (changed_with ps i (raised place) o)
    by None got = all
    by (Some p) got = at_place ps i p all got

all_placed : (w : Wallet) (place : ℕ) (ps : List Purchase) (o : Option ℕ) → AllByRecursion (PurchaseSo w) ps → AllByRecursion (PurchaseSo w) (changed_at ps o (raised place))
all_placed w place ps None all = all
all_placed w place ps (Some i) all = all_raised w place ps i all

row_so : (b : Buyer) (row : Result Deed Reason) → AllSo b → RowSo b row → AllSo (after b row)
row_so b (Err why) all so = all
row_so b (Ok (deed.Sends whom sent)) all so = all
row_so b (Ok (deed.Hears n place whom sent)) all so = all_placed b.wallet place b.purchases (place_of b.purchases n) all
row_so b (Ok (deed.Keeps x whom sent)) all so = all_behind b x all so.0
row_so b (Ok (deed.Ends n r how)) all so = all_behind b (item.Ended n r) all so.0

untold_so : (w : Wallet) (p : Purchase) (s : Stage) → p.stage ≡ s → PurchaseSo w p → PurchaseSo w (untold_purchase (record p { stage = s }))
untold_so w p (stage.Ordered pass order least) is so = (subst (λ (s : Stage). HeldSo s p.held) is so.0, subst (AskedSo w p.start) is so.1)
untold_so w p stage.Ticketing is so = (subst (λ (s : Stage). HeldSo s p.held) is so.0, subst (AskedSo w p.start) is so.1)
untold_so w p (stage.Asked pass) is so = (subst (λ (s : Stage). HeldSo s p.held) is so.0, subst (AskedSo w p.start) is so.1)
untold_so w p (stage.Wanted pass price head) is so = (subst (λ (s : Stage). HeldSo s p.held) is so.0, subst (AskedSo w p.start) is so.1)
untold_so w p (stage.Paid key) is so = (subst (λ (s : Stage). HeldSo s p.held) is so.0, subst (AskedSo w p.start) is so.1)
untold_so w p (stage.Refused code) is so = (subst (λ (s : Stage). HeldSo s p.held) is so.0, subst (AskedSo w p.start) is so.1)
untold_so w p stage.Foul is so = (subst (λ (s : Stage). HeldSo s p.held) is so.0, subst (AskedSo w p.start) is so.1)

all_untold : (w : Wallet) (ps : List Purchase) → AllByRecursion (PurchaseSo w) ps → AllByRecursion (PurchaseSo w) (map untold_purchase ps)
all_untold w [] all = tt
all_untold w (p ∷ ps) all = (untold_so w p p.stage refl all.0, all_untold w ps all.1)

-- ---- in every world of a run

row_keeps : (maker : Maker) (b : Buyer) (row : Result Deed Reason) → AllSo b → RowSo b row → GoesSo AllSo (λ (made : Packet). Unit {0}) maker (buyer_goes b row)
row_keeps maker b (Ok done) all so = (row_so b (Ok done) all so, any_packets maker _)
row_keeps maker b (Err why) all so = tt

hears_keeps : (maker : Maker) (b : Buyer) (read : Result Message ℕ) → AllSo b → GoesSo AllSo (λ (made : Packet). Unit {0}) maker (buyer_hears b read)
hears_keeps maker b (Ok m) all = row_keeps maker b (heard b m) all ((rows_are_so b).1 m)
hears_keeps maker b (Err bad) all = tt

keeps_so : (head : Head) (cap : ℕ) → StepsKeep (real_rules head cap) (λ i b. AllSo b) (λ i m. Unit {0}) (λ made. Unit {0})
keeps_so head cap = record {
  starts = λ i id b start one all. row_keeps (by.Consumer id) b (started b start) all ((rows_are_so b).0 start);
  hears = λ i id b kind body one all. hears_keeps (by.Consumer id) b (message_of kind body) all;
  waited = λ i id b tid one all. row_keeps (by.Consumer id) b (silent b tid) all ((rows_are_so b).2 tid);
  again = λ i b all. all_untold b.wallet b.purchases all;
  merchant_hears = λ i id s kind body moment one so. nothing (by.Merchant id) ((real_rules head cap).merchant_hears s kind body moment);
  merchant_waited = λ i id s consumer tid one so. nothing (by.Merchant id) ((real_rules head cap).merchant_waited s consumer tid);
  merchant_again = λ i s so. tt;
  others = λ made none. tt;
}

consumers_so : (head : Head) (cap : ℕ) (w : World Buyer Shop) → ConsumersAreSo w → (es : List Event) (i : ℕ) (b : Buyer) → slice_get (run (real_rules head cap) w es).consumers i ≡ Some b → AllSo b
consumers_so head cap w are es =
    let first : HoldsIn (λ i b. AllSo b) (λ i m. Unit {0}) (λ made. Unit {0}) w = record { consumers = are; merchants = λ i m at. tt; packets = all_packets w.packets } in
    (run_holds (real_rules head cap) (λ i b. AllSo b) (λ i m. Unit {0}) (λ made. Unit {0}) (keeps_so head cap) es w first).consumers

-- ---- the goods

-- what is held of a purchase whose order was sent has the checksum in the order's bytes
held_so : (b : Buyer) (t : ℕ) (p : Purchase) → AllSo b → purchase_of b t ≡ Some p → (order : Order) → IsOrdered p order → checksum_in (order_bytes order) ≡ sha256 p.held
held_so b t p all known order ordered = subst (λ (s : Stage). HeldSo s p.held) ordered.2 (so_of b t p all known).0

holds : (key goods : List ℕ) (p : Purchase) → IsPaid key p ⊎ IsFoul key p → OpensOrCollides key goods p.held → HoldsGoods key goods p
holds key goods p (inl paid) (inl opens) = inl (paid, opens_once key (codes "good") p.held paid.goods goods paid.opens opens)
holds key goods p (inr foul) (inl opens) = absurd (foul.opens goods opens)
holds key goods p ends (inr collision) = inr collision

pub buyers_hold_goods : BuyersHoldGoods
buyers_hold_goods head cap w are es more id k t s ended whom now entry cacct macct key fee outcome seller packet of same =
    let all : AllSo ended.buyer = consumers_so head cap w are es ended.is.place ended.buyer ended.is.stands in
    let endorses = of.endorsed.endorses in
    let checksum : sha256 entry.before.held ≡ checksum_in endorses.sent.order =
    sym (held_so ended.buyer t entry.before all entry.known entry.order entry.ordered) ∙ ap checksum_in (sym same) in
    let opens : OpensOrCollides key endorses.product.goods entry.before.held =
    subst (λ (x : List ℕ). OpensOrCollides x endorses.product.goods entry.before.held) (sym of.same) (endorses.goods entry.before.held checksum) in
    let ends : EndsAs (Paid cacct macct key fee) s entry.behind = subst (λ (o : PaymentOutcome). EndsAs o s entry.behind) outcome entry.ends in
    holds key endorses.product.goods entry.behind ends.2 (subst (λ (x : List ℕ). OpensOrCollides key endorses.product.goods x) (sym entry.held) opens)

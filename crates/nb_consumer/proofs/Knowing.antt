-- What holds of each purchase behind the items that rows keep.
use Rattle.std.proofs.Common.{◌≡◌, ℕ, zero, suc, ◌+◌, ◌<◌, Bool, true, false, cond, List, [], ◌∷◌, ◌++◌, map, set, length, Option, Some, None, Ok, Err, Result, refl, sym, ap, subst, ◌∙◌, arith, length-append}
use Rattle.std.specs.Prelude.{slice_get, is_ok, is_some, nat_lt, nat_le, codes, ◌==◌, ◌&&◌}
use Rattle.std.specs.List.{AllByRecursion}
use Rattle.std.specs.Option.{option_map_or}
use Rattle.std.specs.Str.{bytes_eq}
use Rattle.std.proofs.lemmas.Bool.{ltb-true, leb-true, eqb-true}
use Rattle.std.proofs.lemmas.Slice.Eq.{bytes_eq-Decides}
use Rattle.sha2.specs.Sha256.{sha256}
use Rattle.sha2.proofs.Facts256.{length-sha256}
use Rattle.nb_units.specs.declared.ids.PartyId.{PartyId}
use Rattle.nb_units.specs.declared.ids.Price.{Price}
use Rattle.nb_seal.specs.Seal.{text_in}
use Rattle.nb_seal.proofs.Opening.{text_in_opens}
use Rattle.nb_body.specs.declared.goods_head.GoodsHead.{GoodsHead}
use Rattle.nb_endorse.specs.declared.receipt.Receipt.{Receipt}
use Rattle.nb_epo.specs.declared.order.Order.{Order}
use Rattle.nb_epo.specs.Spelling.{order_bytes}
use Rattle.nb_epo.specs.Places.{checksum_in}
use Rattle.nb_epo.proofs.Placing.{checksum_is_spelled}
use Rattle.nb_wallet.specs.declared.wallet.Wallet.{Wallet}
use Rattle.nb_wallet.specs.declared.wallet.Start.{Start}
use Rattle.nb_wallet.specs.declared.item.Item.{Item}
use Rattle.nb_wallet.specs.declared.item.Item.TheVariants as item
use Rattle.nb_wallet.specs.declared.item.SessionTicket.{SessionTicket}
use Rattle.nb_wallet.specs.declared.purchase.Stage.{Stage}
use Rattle.nb_wallet.specs.declared.purchase.Stage.TheVariants as stage
use Rattle.nb_wallet.specs.Purchases.{Purchase}
use Rattle.nb_wallet.specs.Stages.{wanted_from, with_head, ordered_from, stage_ended, stage_with, stage_opened}
use Rattle.nb_wallet.specs.Orders.{price_request_of_start}
use Rattle.nb_wallet.specs.Reading.{item_of}
use Rattle.nb_consumer.specs.declared.rows.Wanting.{Wanting}
use Rattle.nb_consumer.specs.State.{Buyer, new_buyer, place_of, purchase_at, purchase_of, changed_at, changed_with, behind_item, fresh, remembered}
use Rattle.nb_consumer.specs.Table.{is_ticketing, pass_of_asked, is_price, wanting_in, part_fits}
use Rattle.nb_consumer.specs.Restart.{allows, holds_for, holds_at, part_follows, order_follows, order_names, is_rest, is_short, behind_read, restarted_from, untold_stage, untold_purchase, untold}
use Rattle.nb_consumer.specs.Known.{HeldSo, IsPriceWithin, OrderIsFor, AskedSo, PurchaseSo, AllSo}
use Rattle.nb_consumer.specs.Laws.{RowSo, KnownIsSo, KeptOrderIsSo, OrdersAsAsked}
use Rattle.nb_consumer.proofs.Keeping.{both, tests_are}
use Rattle.nb_consumer.proofs.Restoring.{buyer_is, call_so}
use Rattle.nb_consumer.proofs.Running.{first_item, restarted_wallet}

-- ---- tests that were passed

pub known_for : (o : Option Purchase) (test : Purchase → Bool) → holds_for o test ≡ true → (p : Purchase) × (o ≡ Some p) × (test p ≡ true)
known_for (Some p) test e = (p, refl, e)
known_for None test e = absurd cc

pub test_of : (o : Option Purchase) (p : Purchase) (test : Purchase → Bool) → o ≡ Some p → holds_for o test ≡ true → test p ≡ true
test_of o p test found e = sym (ap (λ (q : Option Purchase). holds_for q test) found) ∙ e

-- the goods of a purchase are wanted, and it passes the test
pub record WantedSo (s : Stage) (test : Wanting → Bool) : Type 0 where
  pub pass : SessionTicket
  pub price : Price
  pub head : Option GoodsHead
  pub is : s ≡ stage.Wanted pass price head
  pub so : test (record { pass = pass; price = price; head = head }) ≡ true

pub wanting_is : (s : Stage) (w : Wanting) → wanting_in s ≡ Some w → s ≡ stage.Wanted w.pass w.price w.head
wanting_is stage.Ticketing w e = absurd cc
wanting_is (stage.Asked pass) w e = absurd cc
wanting_is (stage.Wanted pass price head) w e = ap (λ (v : Wanting). stage.Wanted v.pass v.price v.head) (same (record { pass = pass; price = price; head = head }) w e)
  where
    same : (v w : Wanting) → ◌≡◌ {A = Option Wanting} (Some v) (Some w) → v ≡ w
    same v w e = cc
wanting_is (stage.Ordered pass order least) w e = absurd cc
wanting_is (stage.Paid key) w e = absurd cc
wanting_is (stage.Refused code) w e = absurd cc
wanting_is stage.Foul w e = absurd cc

pub wanted_so : (s : Stage) (test : Wanting → Bool) → holds_at (wanting_in s) test ≡ true → WantedSo s test
wanted_so stage.Ticketing test e = absurd cc
wanted_so (stage.Asked pass) test e = absurd cc
wanted_so (stage.Wanted pass price head) test e = record { pass = pass; price = price; head = head; is = refl; so = e }
wanted_so (stage.Ordered pass order least) test e = absurd cc
wanted_so (stage.Paid key) test e = absurd cc
wanted_so (stage.Refused code) test e = absurd cc
wanted_so stage.Foul test e = absurd cc

-- ---- one purchase, behind an item

granted_so : (s : Stage) (held : List ℕ) → is_ticketing s ≡ true → HeldSo s held → held ≡ []
granted_so stage.Ticketing held e so = so
granted_so (stage.Asked pass) held e so = absurd cc
granted_so (stage.Wanted pass price head) held e so = absurd cc
granted_so (stage.Ordered pass order least) held e so = absurd cc
granted_so (stage.Paid key) held e so = absurd cc
granted_so (stage.Refused code) held e so = absurd cc
granted_so stage.Foul held e so = absurd cc

quoted_so : (s : Stage) (price : Price) (held : List ℕ) → is_some (pass_of_asked s) ≡ true → HeldSo s held → HeldSo (wanted_from s price) held
quoted_so stage.Ticketing price held e so = absurd cc
quoted_so (stage.Asked pass) price held e so = so
quoted_so (stage.Wanted pass old head) price held e so = absurd cc
quoted_so (stage.Ordered pass order least) price held e so = absurd cc
quoted_so (stage.Paid key) price held e so = absurd cc
quoted_so (stage.Refused code) price held e so = absurd cc
quoted_so stage.Foul price held e so = absurd cc

ok_is : {E : Type 0} (r : Result (Unit {0}) E) → is_ok r ≡ true → r ≡ Ok tt
ok_is (Ok tt) e = refl
ok_is (Err f) e = absurd cc

part_so : (p : Purchase) (h : GoodsHead) (part : List ℕ) → holds_at (wanting_in p.stage) (part_follows p h part) ≡ true → HeldSo (with_head p.stage (Some h)) (p.held ++ part)
part_so p h part e =
    let w = wanted_so p.stage (part_follows p h part) e in
    let two = both (is_ok (part_fits p.start.merchant w.head p.held h part)) (nat_lt (h.place + length part) h.total) w.so in
    let t = tests_are p.start.merchant w.head p.held h part (ok_is (part_fits p.start.merchant w.head p.held h part) two.0) in
    let less : h.place + length part < h.total = ltb-true (h.place + length part) h.total two.1 in
    let long : length (p.held ++ part) ≡ length p.held + length part = length-append p.held part in
    subst (λ (s : Stage). HeldSo (with_head s (Some h)) (p.held ++ part)) (sym w.is)
    (omega (arith, long, t.place, t.within, t.long, less), omega (arith, long, t.place, less), t.most)

forgotten_so : (s : Stage) (test : Wanting → Bool) → holds_at (wanting_in s) test ≡ true → HeldSo (with_head s None) []
forgotten_so s test e = let w = wanted_so s test e in subst (λ (x : Stage). HeldSo (with_head x None) []) (sym w.is) refl

-- another part, or none, leaves the price
head_asked : (w : Wallet) (s : Start) (t : Stage) (head : Option GoodsHead) → AskedSo w s t → AskedSo w s (with_head t head)
head_asked w s stage.Ticketing head so = so
head_asked w s (stage.Asked pass) head so = so
head_asked w s (stage.Wanted pass price held) head so = so
head_asked w s (stage.Ordered pass order least) head so = so
head_asked w s (stage.Paid key) head so = so
head_asked w s (stage.Refused code) head so = so
head_asked w s stage.Foul head so = so

quoted_asked : (w : Wallet) (s : Start) (t : Stage) (price : Price) → is_price price s.limit ≡ true → AskedSo w s t → AskedSo w s (wanted_from t price)
quoted_asked w s stage.Ticketing price test so = so
quoted_asked w s (stage.Asked pass) price test so =
    let two = both (nat_le 1 price.0) (nat_le price.0 s.limit.0) test in
    (leb-true 1 price.0 two.0, leb-true price.0 s.limit.0 two.1)
quoted_asked w s (stage.Wanted pass old head) price test so = so
quoted_asked w s (stage.Ordered pass order least) price test so = so
quoted_asked w s (stage.Paid key) price test so = so
quoted_asked w s (stage.Refused code) price test so = so
quoted_asked w s stage.Foul price test so = so

ended_asked : (w : Wallet) (s : Start) (r : Receipt) (held : List ℕ) → AskedSo w s (stage_ended r held)
ended_asked w s r held = by_code (r.code == 0)
  where
    by_text : (key : List ℕ) (o : Option (List ℕ)) → AskedSo w s (stage_opened key o)
    by_text key (Some goods) = tt
    by_text key None = tt

    by_key : (o : Option (List ℕ)) → AskedSo w s (stage_with o held)
    by_key (Some key) = by_text key (text_in key (codes "good") held)
    by_key None = tt

    by_code : (test : Bool) → AskedSo w s (cond test (stage_with r.key held) (stage.Refused r.code))
    by_code true = by_key r.key
    by_code false = tt

-- an order that follows names what its purchase was started for, at the price that was quoted
id_is : (a b : PartyId) → a.0 ≡ b.0 → a ≡ b
id_is a b e = rw e refl

price_is : (a b : Price) → a.0 ≡ b.0 → a ≡ b
price_is a b e = rw e refl

-- the parts of a test of an order
record Named (w : Wallet) (s : Start) (price : Price) (o : Order) (sealed : List ℕ) : Type 0 where
  names : OrderIsFor w s o
  price_is : o.price ≡ price
  checksum : o.checksum ≡ sha256 sealed

named : (w : Wallet) (p : Purchase) (o : Order) (part : List ℕ) (v : Wanting) → order_follows w p o part v ≡ true → Named w p.start v.price o (p.held ++ part)
named w p o part v e =
    let sealed : List ℕ = p.held ++ part in
    let consumer : Bool = o.consumer.0 == w.id.0 in
    let merchant : Bool = o.merchant.0 == p.start.merchant.0 in
    let product : Bool = o.product == p.start.product in
    let price : Bool = o.price.0 == v.price.0 in
    let request : Bool = bytes_eq o.request (sha256 (price_request_of_start p.start)) in
    let checksum : Bool = bytes_eq o.checksum (sha256 sealed) in
    let all = both (order_names w p v.price o sealed && is_rest v.head p.held o part) (is_short p.held part) e in
    let seven = both (order_names w p v.price o sealed) (is_rest v.head p.held o part) all.0 in
    let six = both (consumer && merchant && product && price && request && checksum) (o.epoid.merchant.0 == p.start.merchant.0) seven.0 in
    let five = both (consumer && merchant && product && price && request) checksum six.0 in
    let four = both (consumer && merchant && product && price) request five.0 in
    let three = both (consumer && merchant && product) price four.0 in
    let two = both (consumer && merchant) product three.0 in
    let one = both consumer merchant two.0 in
    record {
      names = record {
        consumer = id_is o.consumer w.id (eqb-true o.consumer.0 w.id.0 one.0);
        merchant = id_is o.merchant p.start.merchant (eqb-true o.merchant.0 p.start.merchant.0 one.1);
        product = eqb-true o.product p.start.product two.1;
      };
      price_is = price_is o.price v.price (eqb-true o.price.0 v.price.0 three.1);
      checksum = (bytes_eq-Decides o.checksum (sha256 sealed)).0 five.1;
    }

-- an order that follows is as it was asked for, and names the checksum of all sealed goods in its bytes
follows_so : (w : Wallet) (p : Purchase) (o : Order) (part : List ℕ) → PurchaseSo w p → holds_at (wanting_in p.stage) (order_follows w p o part) ≡ true
    → (checksum_in (order_bytes o) ≡ sha256 (p.held ++ part)) × OrderIsFor w p.start o × IsPriceWithin o.price p.start.limit
follows_so w p o part so e =
    let v = wanted_so p.stage (order_follows w p o part) e in
    let n = named w p o part (record { pass = v.pass; price = v.price; head = v.head }) v.so in
    let asked : IsPriceWithin v.price p.start.limit = subst (AskedSo w p.start) v.is so.1 in (
      checksum_is_spelled o (ap length n.checksum ∙ length-sha256 (p.held ++ part)) ∙ n.checksum,
      n.names,
      subst (λ (price : Price). IsPriceWithin price p.start.limit) (sym n.price_is) asked,
    )

order_so : (w : Wallet) (p : Purchase) (o : Order) (part : List ℕ) → PurchaseSo w p → holds_at (wanting_in p.stage) (order_follows w p o part) ≡ true
    → HeldSo (ordered_from p.stage o) (p.held ++ part) × AskedSo w p.start (ordered_from p.stage o)
order_so w p o part so e =
    let f = follows_so w p o part so e in
    subst (λ (s : Stage). HeldSo (ordered_from s o) (p.held ++ part) × AskedSo w p.start (ordered_from s o)) (sym (wanted_so p.stage (order_follows w p o part) e).is) (f.0, (f.1, f.2))

ended_so : (r : Receipt) (held : List ℕ) → HeldSo (stage_ended r held) held
ended_so r held = by_code (r.code == 0)
  where
    by_text : (key : List ℕ) (o : Option (List ℕ)) → text_in key (codes "good") held ≡ o → HeldSo (stage_opened key o) held
    by_text key (Some goods) is = (goods, (text_in_opens key (codes "good") held goods).0 is)
    by_text key None is = tt

    by_key : (o : Option (List ℕ)) → HeldSo (stage_with o held) held
    by_key (Some key) = by_text key (text_in key (codes "good") held) refl
    by_key None = tt

    by_code : (test : Bool) → HeldSo (cond test (stage_with r.key held) (stage.Refused r.code)) held
    by_code true = by_key r.key
    by_code false = tt

-- ---- all purchases, behind an item

all_push : (w : Wallet) (ps : List Purchase) (q : Purchase) → AllByRecursion (PurchaseSo w) ps → PurchaseSo w q → AllByRecursion (PurchaseSo w) (ps ++ q ∷ [])
all_push w [] q all so = (so, tt)
all_push w (p ∷ ps) q all so = (all.0, all_push w ps q all.1 so)

all_set : (w : Wallet) (ps : List Purchase) (i : ℕ) (q : Purchase) → AllByRecursion (PurchaseSo w) ps → PurchaseSo w q → AllByRecursion (PurchaseSo w) (set ps i q)
all_set w [] i q all so = tt
all_set w (p ∷ ps) zero q all so = (so, all.1)
all_set w (p ∷ ps) (suc i) q all so = (all.0, all_set w ps i q all.1 so)

some_is : (p q : Purchase) → ◌≡◌ {A = Option Purchase} (Some p) (Some q) → p ≡ q
some_is p q e = cc

pub all_at : (w : Wallet) (ps : List Purchase) (i : ℕ) (p : Purchase) → AllByRecursion (PurchaseSo w) ps → slice_get ps i ≡ Some p → PurchaseSo w p
all_at w [] i p all e = absurd cc
all_at w (q ∷ ps) zero p all e = subst (PurchaseSo w) (some_is q p e) all.0
all_at w (q ∷ ps) (suc i) p all e = all_at w ps i p all.1 e

pub so_of : (b : Buyer) (t : ℕ) (p : Purchase) → AllSo b → purchase_of b t ≡ Some p → PurchaseSo b.wallet p
so_of b t p all = by (place_of b.purchases t)
  where
    by : (o : Option ℕ) → purchase_at b.purchases o ≡ Some p → PurchaseSo b.wallet p
    by None e = absurd cc
    by (Some i) e = all_at b.wallet b.purchases i p all e

all_changed : (w : Wallet) (ps : List Purchase) (o : Option ℕ) (f : Purchase → Purchase) → AllByRecursion (PurchaseSo w) ps
    → ((p : Purchase) → purchase_at ps o ≡ Some p → PurchaseSo w p → PurchaseSo w (f p)) → AllByRecursion (PurchaseSo w) (changed_at ps o f)
all_changed w ps None f all each = all
all_changed w ps (Some i) f all each = by (slice_get ps i) refl
  where
    by : (q : Option Purchase) → slice_get ps i ≡ q → AllByRecursion (PurchaseSo w) (changed_with ps i f q)
    by None e = all
    by (Some p) e = all_set w ps i (f p) all (each p e (all_at w ps i p all e))

pub all_behind : (b : Buyer) (x : Item) → AllSo b → allows b x ≡ true → AllSo (remembered b x)
all_behind b (item.Started s) all allowed = all_push b.wallet b.purchases (fresh s) all (refl, tt)
all_behind b (item.Granted t pass) all allowed =
    all_changed b.wallet b.purchases (place_of b.purchases t) (behind_item (item.Granted t pass)) all (λ p found so.
    (granted_so p.stage p.held (test_of (purchase_of b t) p (λ q. is_ticketing q.stage) found allowed) so.0, tt))
all_behind b (item.Wanted t price) all allowed =
    all_changed b.wallet b.purchases (place_of b.purchases t) (behind_item (item.Wanted t price)) all (λ p found so.
    let two = both (is_some (pass_of_asked p.stage)) (is_price price p.start.limit) (test_of (purchase_of b t) p (λ q. is_some (pass_of_asked q.stage) && is_price price q.start.limit) found allowed) in
    (quoted_so p.stage price p.held two.0 so.0, quoted_asked b.wallet p.start p.stage price two.1 so.1))
all_behind b (item.Part h part) all allowed =
    all_changed b.wallet b.purchases (place_of b.purchases h.transaction) (behind_item (item.Part h part)) all (λ p found so. (
      part_so p h part (test_of (purchase_of b h.transaction) p (λ q. holds_at (wanting_in q.stage) (part_follows q h part)) found allowed),
      head_asked b.wallet p.start p.stage (Some h) so.1,
    ))
all_behind b (item.Forgotten t) all allowed =
    all_changed b.wallet b.purchases (place_of b.purchases t) (behind_item (item.Forgotten t)) all (λ p found so. (
      forgotten_so p.stage (λ w. is_some w.head) (test_of (purchase_of b t) p (λ q. holds_at (wanting_in q.stage) (λ w. is_some w.head)) found allowed),
      head_asked b.wallet p.start p.stage None so.1,
    ))
all_behind b (item.Ordered t o part) all allowed =
    all_changed b.wallet b.purchases (place_of b.purchases t) (behind_item (item.Ordered t o part)) all (λ p found so.
    order_so b.wallet p o part so (test_of (purchase_of b t) p (λ q. holds_at (wanting_in q.stage) (order_follows b.wallet q o part)) found allowed))
all_behind b (item.Ended t r) all allowed =
    all_changed b.wallet b.purchases (place_of b.purchases t) (behind_item (item.Ended t r)) all (λ p found so. (ended_so r.receipt p.held, ended_asked b.wallet p.start r.receipt p.held))

-- ---- all purchases, behind a journal

all_restarted : (n : ℕ) (b c : Buyer) (items : List (List ℕ)) → AllSo b → restarted_from n b items ≡ Ok c → AllSo c
all_restarted n b c [] all e = subst AllSo (buyer_is b c e) all
all_restarted n b c (bytes ∷ items) all e =
    let f = first_item n b c bytes items e in
    all_restarted (n + 1) (remembered b f.0) c items (all_behind b f.0 all f.2) f.3

-- a place that is told says nothing of what is held, and of what is asked
told_so : (w : Wallet) (s : Start) (t : Stage) (held : List ℕ) → HeldSo (untold_stage t) held × AskedSo w s (untold_stage t) → HeldSo t held × AskedSo w s t
told_so w s stage.Ticketing held so = so
told_so w s (stage.Asked pass) held so = so
told_so w s (stage.Wanted pass price head) held so = so
told_so w s (stage.Ordered pass order least) held so = so
told_so w s (stage.Paid key) held so = so
told_so w s (stage.Refused code) held so = so
told_so w s stage.Foul held so = so

all_told : (w : Wallet) (ps : List Purchase) → AllByRecursion (PurchaseSo w) (map untold_purchase ps) → AllByRecursion (PurchaseSo w) ps
all_told w [] all = tt
all_told w (p ∷ ps) all = (told_so w p.start p.stage p.held all.0, all_told w ps all.1)

pub known_is_so : KnownIsSo
known_is_so items b kept = all_told b.wallet b.purchases (all_restarted 0 (new_buyer b.wallet) (untold b) items tt kept)

-- ---- an order in a journal

pub split : (n : ℕ) (b c : Buyer) (front back : List (List ℕ)) → restarted_from n b (front ++ back) ≡ Ok c
    → (m : ℕ) × (d : Buyer) × (restarted_from n b front ≡ Ok d) × (restarted_from m d back ≡ Ok c)
split n b c [] back e = (n, b, refl, e)
split n b c (bytes ∷ front) back e =
    let f = first_item n b c bytes (front ++ back) e in
    let s = split (n + 1) (remembered b f.0) c front back f.3 in
    let known : behind_read b (item_of bytes) ≡ Some (remembered b f.0) =
    ap (behind_read b) f.1 ∙ ap (λ (test : Bool). cond test (Some (remembered b f.0)) None) f.2 in
    (s.0, s.1, ap (λ (o : Option Buyer). option_map_or (λ d. restarted_from (n + 1) d front) o (Err n)) known ∙ s.2, s.3)

pub item_is : (x y : Item) → (let one : Result Item ℕ = Ok x in one ≡ Ok y) → x ≡ y
item_is x y e = cc

-- behind what a restart gives
allowed_order : (w : Wallet) (b : Buyer) (t : ℕ) (o : Order) (part : List ℕ) → b.wallet ≡ w → AllSo b → allows b (item.Ordered t o part) ≡ true
    → (p : Purchase) × (purchase_of b t ≡ Some p) × (checksum_in (order_bytes o) ≡ sha256 (p.held ++ part)) × OrderIsFor w p.start o × IsPriceWithin o.price p.start.limit
allowed_order w b t o part same all allowed =
    let k = known_for (purchase_of b t) (λ q. holds_at (wanting_in q.stage) (order_follows b.wallet q o part)) allowed in
    let f = follows_so b.wallet k.0 o part (so_of b t k.0 all k.1) k.2 in
    (k.0, k.1, f.0, subst (λ (x : Wallet). OrderIsFor x k.0.start o) same f.1, f.2)

pub kept_order_is_so : KeptOrderIsSo
kept_order_is_so w front back bytes b t o part again read =
    let s = split 0 (new_buyer w) b front (bytes ∷ back) again in
    let f = first_item s.0 s.1 b bytes back s.3 in
    let same : f.0 ≡ item.Ordered t o part = item_is f.0 (item.Ordered t o part) (sym f.1 ∙ read) in
    let allowed : allows s.1 (item.Ordered t o part) ≡ true = subst (λ (x : Item). allows s.1 x ≡ true) same f.2 in
    let k = allowed_order w s.1 t o part (restarted_wallet 0 (new_buyer w) s.1 front s.2) (all_restarted 0 (new_buyer w) s.1 front tt s.2) allowed in
    (s.1, k.0, s.2, k.1, k.2, k.3, k.4)

-- ---- an order that is kept

pub orders_as_asked : OrdersAsAsked
orders_as_asked items b call t o part to message kept is =
    let so = (subst (RowSo b) is (call_so b call)).1 in
    let at : so.purchase.stage ≡ stage.Wanted so.wanting.pass so.wanting.price so.wanting.head = wanting_is so.purchase.stage so.wanting so.wanted in
    let asked : IsPriceWithin so.wanting.price so.purchase.start.limit = subst (AskedSo b.wallet so.purchase.start) at (so_of b t so.purchase (known_is_so items b kept) so.known).1 in
    (so.purchase, so.known, so.names, subst (λ (price : Price). IsPriceWithin price so.purchase.start.limit) (sym so.price) asked)

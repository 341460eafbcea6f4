-- A consumer starts again, with what it kept, as it was but for the places that it was told.
use Rattle.std.proofs.Common.{◌≡◌, ℕ, zero, suc, ◌+◌, Bool, true, false, cond, List, [], ◌∷◌, ◌++◌, map, set, Option, Some, None, Ok, Err, Result, refl, sym, ap, subst, ◌∙◌, append-nil}
use Rattle.std.specs.Prelude.{IfOk, slice_get, position, nat_eq, is_some, is_none, is_ok, ◌&&◌, ◌==◌, codes}
use Rattle.std.specs.Option.{option_map, option_map_or}
use Rattle.nb_units.specs.declared.ids.Price.{Price}
use Rattle.nb_wallet.specs.declared.wallet.Wallet.{Wallet}
use Rattle.std.proofs.lemmas.List.{map-append, map-set}
use Rattle.nb_seal.specs.Seal.{text_in}
use Rattle.nb_body.specs.declared.goods_head.GoodsHead.{GoodsHead}
use Rattle.nb_endorse.specs.declared.receipt.Receipt.{Receipt}
use Rattle.nb_epo.specs.declared.order.Order.{Order}
use Rattle.nb_msgs.specs.declared.node.Reason.{Reason}
use Rattle.nb_msgs.specs.declared.node.Step.{Step}
use Rattle.nb_wallet.specs.declared.item.Item.{Item}
use Rattle.nb_wallet.specs.declared.item.Item.TheVariants as item
use Rattle.nb_wallet.specs.declared.purchase.Stage.{Stage}
use Rattle.nb_wallet.specs.declared.purchase.Stage.TheVariants as stage
use Rattle.nb_wallet.specs.Purchases.{Purchase}
use Rattle.nb_consumer.specs.declared.rows.Owing.{Owing}
use Rattle.nb_consumer.specs.declared.deed.Deed.{Deed}
use Rattle.nb_consumer.specs.declared.deed.Deed.TheVariants as deed
use Rattle.nb_wallet.specs.Stages.{raised_from, wanted_from, with_head, ordered_from, stage_ended, stage_with, stage_opened}
use Rattle.nb_consumer.specs.State.{Buyer, new_buyer, number_of, place_of, purchase_at, purchase_of, changed, changed_at, changed_with, behind_item, fresh, remembered, raised, noted, epoid_bytes}
use Rattle.nb_consumer.specs.Table.{step_of, after, is_ticketing, pass_of_asked, wanting_in, owing_in, is_price, receipt_fits}
use Rattle.nb_consumer.specs.Restart.{allows, holds_for, holds_at, part_follows, order_follows, behind, behind_read, restarted_from, restarted, untold_stage, untold_purchase, untold, Kept}
use Rattle.nb_msgs.specs.Steps.{kept_in}
use Rattle.nb_wallet.specs.Spelling.{item_bytes, IsItem}
use Rattle.nb_consumer.specs.Deeds.{DeedIsSpelled}
use Rattle.nb_consumer.specs.Laws.{RowSo, KeepsRestarting}
use Rattle.nb_consumer.specs.Runs.{Call, Starts, Hears, Waits, row_of}
use Rattle.nb_consumer.proofs.Keeping.{rows_are_so}
use Rattle.nb_wallet.proofs.Items.{item_reads_back}

-- ---- look-ups

same_numbers : (ps : List Purchase) → map number_of (map untold_purchase ps) ≡ map number_of ps
same_numbers [] = refl
same_numbers (p ∷ ps) = ap (λ (ns : List ℕ). number_of p ∷ ns) (same_numbers ps)

same_place : (ps : List Purchase) (t : ℕ) → place_of (map untold_purchase ps) t ≡ place_of ps t
same_place ps t = ap (position (nat_eq t)) (same_numbers ps)

at_untold : (ps : List Purchase) (i : ℕ) → slice_get (map untold_purchase ps) i ≡ option_map untold_purchase (slice_get ps i)
at_untold [] i = refl
at_untold (p ∷ ps) zero = refl
at_untold (p ∷ ps) (suc i) = at_untold ps i

found_at : (ps : List Purchase) (o : Option ℕ) → purchase_at (map untold_purchase ps) o ≡ option_map untold_purchase (purchase_at ps o)
found_at ps (Some i) = at_untold ps i
found_at ps None = refl

pub same_found : (b : Buyer) (t : ℕ) → purchase_of (untold b) t ≡ option_map untold_purchase (purchase_of b t)
same_found b t = ap (purchase_at (map untold_purchase b.purchases)) (same_place b.purchases t) ∙ found_at b.purchases (place_of b.purchases t)

-- ---- what is allowed

holds_untold : (o : Option Purchase) (test : Purchase → Bool) → ((p : Purchase) → test (untold_purchase p) ≡ test p) → holds_for (option_map untold_purchase o) test ≡ holds_for o test
holds_untold (Some p) test same = same p
holds_untold None test same = refl

holds_same : (b : Buyer) (t : ℕ) (test : Purchase → Bool) → ((p : Purchase) → test (untold_purchase p) ≡ test p) → holds_for (purchase_of (untold b) t) test ≡ holds_for (purchase_of b t) test
holds_same b t test same = ap (λ (o : Option Purchase). holds_for o test) (same_found b t) ∙ holds_untold (purchase_of b t) test same

ticketing_same : (s : Stage) → is_ticketing (untold_stage s) ≡ is_ticketing s
ticketing_same stage.Ticketing = refl
ticketing_same (stage.Asked pass) = refl
ticketing_same (stage.Wanted pass price head) = refl
ticketing_same (stage.Ordered pass order least) = refl
ticketing_same (stage.Paid key) = refl
ticketing_same (stage.Refused code) = refl
ticketing_same stage.Foul = refl

asked_same : (s : Stage) → pass_of_asked (untold_stage s) ≡ pass_of_asked s
asked_same stage.Ticketing = refl
asked_same (stage.Asked pass) = refl
asked_same (stage.Wanted pass price head) = refl
asked_same (stage.Ordered pass order least) = refl
asked_same (stage.Paid key) = refl
asked_same (stage.Refused code) = refl
asked_same stage.Foul = refl

wanting_same : (s : Stage) → wanting_in (untold_stage s) ≡ wanting_in s
wanting_same stage.Ticketing = refl
wanting_same (stage.Asked pass) = refl
wanting_same (stage.Wanted pass price head) = refl
wanting_same (stage.Ordered pass order least) = refl
wanting_same (stage.Paid key) = refl
wanting_same (stage.Refused code) = refl
wanting_same stage.Foul = refl

owing_same : (s : Stage) (test : Order → Bool) → holds_at (owing_in (untold_stage s)) (λ (o : Owing). test o.order) ≡ holds_at (owing_in s) (λ (o : Owing). test o.order)
owing_same stage.Ticketing test = refl
owing_same (stage.Asked pass) test = refl
owing_same (stage.Wanted pass price head) test = refl
owing_same (stage.Ordered pass order least) test = refl
owing_same (stage.Paid key) test = refl
owing_same (stage.Refused code) test = refl
owing_same stage.Foul test = refl

pub same_allowed : (b : Buyer) (x : Item) → allows (untold b) x ≡ allows b x
same_allowed b (item.Started s) = ap is_none (same_place b.purchases s.transaction)
same_allowed b (item.Granted t pass) = holds_same b t (λ p. is_ticketing p.stage) (λ p. ticketing_same p.stage)
same_allowed b (item.Wanted t price) = holds_same b t (λ p. is_some (pass_of_asked p.stage) && is_price price p.start.limit) (λ p. ap (λ o. is_some o && is_price price p.start.limit) (asked_same p.stage))
same_allowed b (item.Part h part) = holds_same b h.transaction (λ p. holds_at (wanting_in p.stage) (part_follows p h part)) (λ p. ap (λ o. holds_at o (part_follows p h part)) (wanting_same p.stage))
same_allowed b (item.Forgotten t) = holds_same b t (λ p. holds_at (wanting_in p.stage) (λ w. is_some w.head)) (λ p. ap (λ o. holds_at o (λ w. is_some w.head)) (wanting_same p.stage))
same_allowed b (item.Ordered t o part) = holds_same b t (λ p. holds_at (wanting_in p.stage) (order_follows b.wallet p o part)) (λ p. ap (λ v. holds_at v (order_follows b.wallet p o part)) (wanting_same p.stage))
same_allowed b (item.Ended t r) = holds_same b t (λ p. holds_at (owing_in p.stage) (λ o. is_ok (receipt_fits o.order r.receipt))) (λ p. owing_same p.stage (λ o. is_ok (receipt_fits o r.receipt)))

-- ---- what is known behind an item

changed_untold : (ps : List Purchase) (o : Option ℕ) (f : Purchase → Purchase) → ((p : Purchase) → f (untold_purchase p) ≡ untold_purchase (f p))
    → changed_at (map untold_purchase ps) o f ≡ map untold_purchase (changed_at ps o f)
changed_untold ps None f same = refl
changed_untold ps (Some i) f same = ap (changed_with (map untold_purchase ps) i f) (at_untold ps i) ∙ by (slice_get ps i)
  where
    by : (q : Option Purchase) → changed_with (map untold_purchase ps) i f (option_map untold_purchase q) ≡ map untold_purchase (changed_with ps i f q)
    by None = refl
    by (Some p) = ap (set (map untold_purchase ps) i) (same p) ∙ sym (map-set untold_purchase ps i (f p))

changed_same : (ps : List Purchase) (t : ℕ) (f : Purchase → Purchase) → ((p : Purchase) → f (untold_purchase p) ≡ untold_purchase (f p))
    → changed (map untold_purchase ps) t f ≡ map untold_purchase (changed ps t f)
changed_same ps t f same = ap (λ (o : Option ℕ). changed_at (map untold_purchase ps) o f) (same_place ps t) ∙ changed_untold ps (place_of ps t) f same

wanted_untold : (s : Stage) (price : Price) → wanted_from (untold_stage s) price ≡ untold_stage (wanted_from s price)
wanted_untold stage.Ticketing price = refl
wanted_untold (stage.Asked pass) price = refl
wanted_untold (stage.Wanted pass old head) price = refl
wanted_untold (stage.Ordered pass order least) price = refl
wanted_untold (stage.Paid key) price = refl
wanted_untold (stage.Refused code) price = refl
wanted_untold stage.Foul price = refl

head_untold : (s : Stage) (h : Option GoodsHead) → with_head (untold_stage s) h ≡ untold_stage (with_head s h)
head_untold stage.Ticketing h = refl
head_untold (stage.Asked pass) h = refl
head_untold (stage.Wanted pass price head) h = refl
head_untold (stage.Ordered pass order least) h = refl
head_untold (stage.Paid key) h = refl
head_untold (stage.Refused code) h = refl
head_untold stage.Foul h = refl

order_untold : (s : Stage) (o : Order) → ordered_from (untold_stage s) o ≡ untold_stage (ordered_from s o)
order_untold stage.Ticketing o = refl
order_untold (stage.Asked pass) o = refl
order_untold (stage.Wanted pass price head) o = refl
order_untold (stage.Ordered pass order least) o = refl
order_untold (stage.Paid key) o = refl
order_untold (stage.Refused code) o = refl
order_untold stage.Foul o = refl

end_untold : (r : Receipt) (sealed : List ℕ) → stage_ended r sealed ≡ untold_stage (stage_ended r sealed)
end_untold r sealed = by (r.code == 0)
  where
    opened : (key : List ℕ) (o : Option (List ℕ)) → stage_opened key o ≡ untold_stage (stage_opened key o)
    opened key (Some goods) = refl
    opened key None = refl

    with_key : (o : Option (List ℕ)) → stage_with o sealed ≡ untold_stage (stage_with o sealed)
    with_key (Some key) = opened key (text_in key (codes "good") sealed)
    with_key None = refl

    by : (test : Bool) → cond test (stage_with r.key sealed) (stage.Refused r.code) ≡ untold_stage (cond test (stage_with r.key sealed) (stage.Refused r.code))
    by true = with_key r.key
    by false = refl

abbrev at_stage : Purchase → List ℕ → Stage → Purchase
at_stage p held s = record { start = p.start; stage = s; held = held }

behind_untold : (x : Item) (p : Purchase) → behind_item x (untold_purchase p) ≡ untold_purchase (behind_item x p)
behind_untold (item.Started s) p = refl
behind_untold (item.Granted t pass) p = refl
behind_untold (item.Wanted t price) p = ap (at_stage p p.held) (wanted_untold p.stage price)
behind_untold (item.Part h part) p = ap (at_stage p (p.held ++ part)) (head_untold p.stage (Some h))
behind_untold (item.Forgotten t) p = ap (at_stage p []) (head_untold p.stage None)
behind_untold (item.Ordered t o part) p = ap (at_stage p (p.held ++ part)) (order_untold p.stage o)
behind_untold (item.Ended t r) p = ap (at_stage p p.held) (end_untold r.receipt p.held)

abbrev with_purchases : Buyer → List (List ℕ × ℕ) → List Purchase → Buyer
with_purchases b orders ps = record { wallet = b.wallet; purchases = ps; orders = orders }

pub same_remembered : (b : Buyer) (x : Item) → remembered (untold b) x ≡ untold (remembered b x)
same_remembered b (item.Started s) = ap (with_purchases b b.orders) (sym (map-append untold_purchase b.purchases (fresh s ∷ [])))
same_remembered b (item.Granted t pass) = ap (with_purchases b b.orders) (changed_same b.purchases t (behind_item (item.Granted t pass)) (behind_untold (item.Granted t pass)))
same_remembered b (item.Wanted t price) = ap (with_purchases b b.orders) (changed_same b.purchases t (behind_item (item.Wanted t price)) (behind_untold (item.Wanted t price)))
same_remembered b (item.Part h part) = ap (with_purchases b b.orders) (changed_same b.purchases h.transaction (behind_item (item.Part h part)) (behind_untold (item.Part h part)))
same_remembered b (item.Forgotten t) = ap (with_purchases b b.orders) (changed_same b.purchases t (behind_item (item.Forgotten t)) (behind_untold (item.Forgotten t)))
same_remembered b (item.Ordered t o part) = ap (with_purchases b (noted b.orders (epoid_bytes o.epoid) t)) (changed_same b.purchases t (behind_item (item.Ordered t o part)) (behind_untold (item.Ordered t o part)))
same_remembered b (item.Ended t r) = ap (with_purchases b b.orders) (changed_same b.purchases t (behind_item (item.Ended t r)) (behind_untold (item.Ended t r)))

-- ---- a place that is told

some_is : (p q : Purchase) → ◌≡◌ {A = Option Purchase} (Some p) (Some q) → p ≡ q
some_is p q e = cc

place_untold : (s : Stage) (place : ℕ) → untold_stage (raised_from s place) ≡ untold_stage s
place_untold stage.Ticketing place = refl
place_untold (stage.Asked pass) place = refl
place_untold (stage.Wanted pass price head) place = refl
place_untold (stage.Ordered pass order least) place = refl
place_untold (stage.Paid key) place = refl
place_untold (stage.Refused code) place = refl
place_untold stage.Foul place = refl

set_untold : (ps : List Purchase) (i : ℕ) (p : Purchase) (place : ℕ) → slice_get ps i ≡ Some p → map untold_purchase (set ps i (raised place p)) ≡ map untold_purchase ps
set_untold [] i p place e = refl
set_untold (q ∷ ps) zero p place e = ap (λ (x : Purchase). x ∷ map untold_purchase ps) (ap (at_stage p p.held) (place_untold p.stage place) ∙ sym (ap untold_purchase (some_is q p e)))
set_untold (q ∷ ps) (suc i) p place e = ap (λ (xs : List Purchase). untold_purchase q ∷ xs) (set_untold ps i p place e)

raised_untold : (ps : List Purchase) (o : Option ℕ) (place : ℕ) → map untold_purchase (changed_at ps o (raised place)) ≡ map untold_purchase ps
raised_untold ps None place = refl
raised_untold ps (Some i) place = by (slice_get ps i) refl
  where
    by : (q : Option Purchase) → slice_get ps i ≡ q → map untold_purchase (changed_with ps i (raised place) q) ≡ map untold_purchase ps
    by None e = refl
    by (Some p) e = set_untold ps i p place e

-- ---- one item more

pub buyer_is : (b c : Buyer) → (let one : Result Buyer ℕ = Ok b in one ≡ Ok c) → b ≡ c
buyer_is b c e = cc

one_more : (n : ℕ) (b c d : Buyer) (items : List (List ℕ)) (bytes : List ℕ) → restarted_from n b items ≡ Ok c → behind c bytes ≡ Some d → restarted_from n b (items ++ bytes ∷ []) ≡ Ok d
one_more n b c d [] bytes first next = ap (λ (o : Option Buyer). option_map_or (λ x. restarted_from (n + 1) x []) o (Err n)) (ap (λ (x : Buyer). behind x bytes) (buyer_is b c first) ∙ next)
one_more n b c d (x ∷ items) bytes first next = by (λ y e. one_more (n + 1) y c d items bytes e next) (behind b x) refl first
  where
    by : ((y : Buyer) → restarted_from (n + 1) y items ≡ Ok c → restarted_from (n + 1) y (items ++ bytes ∷ []) ≡ Ok d) → (o : Option Buyer) → behind b x ≡ o
        → option_map_or (λ y. restarted_from (n + 1) y items) o (Err n) ≡ Ok c
        → option_map_or (λ y. restarted_from (n + 1) y (items ++ bytes ∷ [])) (behind b x) (Err n) ≡ Ok d
    by each None is e = absurd cc
    by each (Some y) is e = ap (λ (o : Option Buyer). option_map_or (λ y. restarted_from (n + 1) y (items ++ bytes ∷ [])) o (Err n)) is ∙ each y e

next_known : (b : Buyer) (x : Item) → IsItem x → allows b x ≡ true → behind (untold b) (item_bytes x) ≡ Some (untold (remembered b x))
next_known b x is allowed =
    ap (behind_read (untold b)) (item_reads_back x is)
    ∙ ap (λ (test : Bool). cond test (Some (remembered (untold b) x)) None) (same_allowed b x ∙ allowed)
    ∙ ap Some (same_remembered b x)

pub same_wallet : (b : Buyer) (x : Item) → (remembered b x).wallet ≡ b.wallet
same_wallet b (item.Started s) = refl
same_wallet b (item.Granted t pass) = refl
same_wallet b (item.Wanted t price) = refl
same_wallet b (item.Part h part) = refl
same_wallet b (item.Forgotten t) = refl
same_wallet b (item.Ordered t o part) = refl
same_wallet b (item.Ended t r) = refl

kept_more : (b : Buyer) (items : List (List ℕ)) (x : Item) → IsItem x → allows b x ≡ true → Kept items b → Kept (items ++ item_bytes x ∷ []) (remembered b x)
kept_more b items x is allowed kept =
    ap (λ (w : Wallet). restarted w (items ++ item_bytes x ∷ [])) (same_wallet b x)
    ∙ one_more 0 (new_buyer b.wallet) (untold b) (untold (remembered b x)) items (item_bytes x) kept (next_known b x is allowed)

nothing_more : (b c : Buyer) (items : List (List ℕ)) → c.wallet ≡ b.wallet → untold c ≡ untold b → Kept items b → Kept (items ++ []) c
nothing_more b c items same_w same kept =
    ap (λ (w : Wallet). restarted w (items ++ [])) same_w ∙ ap (restarted b.wallet) (append-nil items) ∙ kept ∙ ap Ok (sym same)

row_keeps : (b : Buyer) (items : List (List ℕ)) (row : Result Deed Reason) → RowSo b row → IfOk row DeedIsSpelled → Kept items b → Kept (items ++ kept_in (step_of row)) (after b row)
row_keeps b items (Err why) so spelled kept = nothing_more b b items refl refl kept
row_keeps b items (Ok (deed.Sends whom sent)) so spelled kept = nothing_more b b items refl refl kept
row_keeps b items (Ok (deed.Hears t place whom sent)) so spelled kept =
    nothing_more b (record { wallet = b.wallet; purchases = changed b.purchases t (raised place); orders = b.orders }) items refl
    (ap (λ (ps : List Purchase). let c : Buyer = record { wallet = b.wallet; purchases = ps; orders = b.orders } in c) (raised_untold b.purchases (place_of b.purchases t) place)) kept
row_keeps b items (Ok (deed.Keeps x whom sent)) so spelled kept = kept_more b items x spelled so.0 kept
row_keeps b items (Ok (deed.Ends t r end)) so spelled kept = kept_more b items (item.Ended t r) spelled so.0 kept

pub call_so : (b : Buyer) (call : Call) → RowSo b (row_of b call)
call_so b (Starts start) = (rows_are_so b).0 start
call_so b (Hears message) = (rows_are_so b).1 message
call_so b (Waits transaction) = (rows_are_so b).2 transaction

pub keeps_restarting : KeepsRestarting
keeps_restarting old new call (Ok step) items answers kept =
    let row : Result Deed Reason = row_of old call in
    subst (λ (c : Buyer). Kept (items ++ kept_in step) c) (sym answers.after)
    (subst (λ (s : Step). Kept (items ++ kept_in s) (after old row)) (sym answers.told) (row_keeps old items row (call_so old call) answers.spelled kept))
keeps_restarting old new call (Err none) items answers kept = nothing_more old new items (ap (λ (b : Buyer). b.wallet) answers.err) (ap untold answers.err) kept

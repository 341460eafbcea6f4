-- Runs, with restarts in them.
use Rattle.std.proofs.Common.{◌≡◌, ℕ, zero, suc, ◌+◌, ◌<◌, ◌≤◌, ◌==◌, ◌⊎◌, inl, inr, Bool, true, false, cond, List, [], ◌∷◌, ◌++◌, length, map, Option, Some, None, IfSome, Result, Ok, Err, refl, sym, ap, subst, ◌∙◌, append_assoc, append-nil, arith, codes}
use Rattle.std.proofs.lemmas.List.Elements.{Contains-append_left, Contains-append_right}
use Rattle.std.specs.Prelude.{slice_get, Contains}
use Rattle.std.specs.List.{AllByRecursion}
use Rattle.nb_endorse.specs.Reading.{signed_of}
use Rattle.nb_endorse.specs.declared.receipt.Receipt.{Receipt}
use Rattle.nb_price.specs.Products.{Product}
use Rattle.nb_groups.specs.Offers.{Tariff}
use Rattle.nb_msgs.specs.declared.message.Message.{Message}
use Rattle.nb_msgs.specs.declared.message.Message.TheVariants as message
use Rattle.nb_msgs.specs.declared.node.Reason.{Reason}
use Rattle.nb_msgs.specs.declared.node.Reason.TheVariants as reason
use Rattle.nb_msgs.specs.declared.node.To.TheVariants as to
use Rattle.nb_stall.specs.declared.delivery.Delivery.{Delivery}
use Rattle.nb_stall.specs.declared.purchase.Purchase.{Purchase}
use Rattle.nb_stall.specs.declared.item.Item.{Item}
use Rattle.nb_stall.specs.declared.item.Item.TheVariants as item
use Rattle.nb_stall.specs.declared.sale.Progress.{Progress}
use Rattle.nb_stall.specs.declared.sale.Progress.TheVariants as progress
use Rattle.nb_stall.specs.declared.sale.Sale.{Sale}
use Rattle.nb_stall.specs.Spelling.{IsItem, item_bytes}
use Rattle.nb_stall.specs.Sales.{sale_in, deliveries_in, next_serial, sold_as}
use Rattle.nb_msgs.specs.Tests.{field, found, opened}
use Rattle.nb_stall.specs.Ledger.{serials_from}
use Rattle.nb_merchant.specs.declared.answer.Answer.{Answer}
use Rattle.nb_merchant.specs.Shop.{Shop, new_shop, unkept, with_item}
use Rattle.nb_merchant.specs.Table as table
use Rattle.nb_merchant.specs.Keeping.{follows, all_follow, taken_up, or_bad, restarted, AllFollow, IsKept}
use Rattle.nb_merchant.specs.Laws.{Word, done_at, Event, Leads, Runs, RunsAreKept, NoSerialAgain, PassedIsHeard, SentFollows}
use Rattle.nb_merchant.specs.Laws.Word.{OfConsumer, OfHouse, Nothing}
use Rattle.nb_merchant.specs.Laws.Event.{Hears, Starts}
use Rattle.nb_stall.proofs.Layouts.{item_reads_back}
use Rattle.nb_merchant.proofs.Keeping.{follow_more}
use Rattle.nb_merchant.proofs.Following.{Follows, heard_follows, heard_of_house_follows, silence_follows}
use Rattle.nb_merchant.proofs.Serials.{serials_kept}
use Rattle.nb_merchant.proofs.Sent.{message_so}
use Rattle.nb_merchant.proofs.Parts.{ItemSays, part_says, both_mean}
use Rattle.nb_merchant.proofs.Restarting.{shop_is, restart_gives_back}
use Rattle.nb_merchant.proofs.Shelves.{front_follows}
use Rattle.nb_merchant.proofs.Serving.{IsNoResult, heard_served}
use Rattle.nb_merchant.specs.Sending.{SentSo, PassesKept}
use Rattle.nb_merchant.proofs.Following.{inside, answer_is}

-- ---- one event

-- a merchant that kept more than another one, of the same stall
record Next (old new : Shop) : Type 0 where
  kept : IsKept new
  stall : new.stall ≡ old.stall
  more : List Item
  items : new.items ≡ old.items ++ more

all_append : (xs ys : List Item) → AllByRecursion IsItem xs → AllByRecursion IsItem ys → AllByRecursion IsItem (xs ++ ys)
all_append [] ys first second = second
all_append (x ∷ xs) ys first second = (first.0, all_append xs ys first.1 second)

pub after_follows : (shop : Shop) (row : Result Answer Reason) → ((a : Answer) → row ≡ Ok a → Follows shop a) → AllFollow shop → AllFollow (table.after shop row)
after_follows shop (Err why) each all = subst (λ (items : List Item). all_follow (unkept shop) items ≡ true) (sym (append-nil shop.items)) all
after_follows shop (Ok a) each all = by a.keep (each a refl).0
  where
    by : (keep : Option Item) → IfSome keep (λ x. follows shop x ≡ true) → all_follow (unkept shop) (shop.items ++ table.listed keep) ≡ true
    by None next = subst (λ (items : List Item). all_follow (unkept shop) items ≡ true) (sym (append-nil shop.items)) all
    by (Some x) next = follow_more (unkept shop) shop.items x all next

does_next : (old new : Shop) (row : Result Answer Reason) → ((a : Answer) → row ≡ Ok a → Follows old a) → IsKept old → (new ≡ table.after old row) × AllByRecursion IsItem (table.kept_by row) → Next old new
does_next old new row each kept does =
    record {
      kept = subst IsKept (sym does.0) (record { all = all_append old.items (table.kept_by row) kept.all does.1; follow = after_follows old row each kept.follow });
      stall = ap (λ (s : Shop). s.stall) does.0;
      more = table.kept_by row;
      items = ap (λ (s : Shop). s.items) does.0;
    }

-- a restart over spellings of items takes up those items
restart_same : (start : Shop) (items : List Item) (i : ℕ) (shop : Shop) → AllByRecursion IsItem items → restarted start i (map item_bytes items) ≡ Ok shop
    → (shop ≡ record start { items = start.items ++ items }) × (all_follow start items ≡ true)
restart_same start [] i shop all e = (shop_is start shop e ∙ ap (λ (xs : List Item). record start { items = xs }) (sym (append-nil start.items)), refl)
restart_same start (x ∷ items) i shop all e =
    by (λ rest. restart_same (with_item start x) items (i + 1) shop all.1 rest) (follows start x) refl
    (subst (λ (read : Result Item ℕ). or_bad i (λ next. restarted next (i + 1) (map item_bytes items)) (taken_up start read) ≡ Ok shop) (item_reads_back x all.0) e)
  where
    by : (restarted (with_item start x) (i + 1) (map item_bytes items) ≡ Ok shop → (shop ≡ record start { items = (start.items ++ x ∷ []) ++ items }) × (all_follow (with_item start x) items ≡ true))
        → (b : Bool) → follows start x ≡ b → or_bad i (λ next. restarted next (i + 1) (map item_bytes items)) (cond b (Some (with_item start x)) None) ≡ Ok shop
        → (shop ≡ record start { items = start.items ++ x ∷ items }) × (all_follow start (x ∷ items) ≡ true)
    by rest true may e =
        let r = rest e in
        (r.0 ∙ ap (λ (xs : List Item). record start { items = xs }) (append_assoc start.items (x ∷ []) items), rw (may, r.1) refl)
    by rest false may e = absurd cc

starts_next : (old new : Shop) (products : List Product) (offers : Option Tariff) → IsKept old → restarted (new_shop old.stall products offers) 0 (map item_bytes old.items) ≡ Ok new → Next old new
starts_next old new products offers kept e =
    let r = restart_same (new_shop old.stall products offers) old.items 0 new kept.all e in
    record {
      kept = subst IsKept (sym r.0) (record { all = kept.all; follow = r.1 });
      stall = ap (λ (s : Shop). s.stall) r.0;
      more = [];
      items = ap (λ (s : Shop). s.items) r.0 ∙ sym (append-nil old.items);
    }

pub word_follows : (old : Shop) (w : Word) (a : Answer) → done_at old w ≡ Ok a → Follows old a
word_follows old (OfConsumer m moment) a is = heard_follows old m moment a is
word_follows old (OfHouse m) a is = heard_of_house_follows old m a is
word_follows old (Nothing p) a is = silence_follows old p a is

pub sent_follows : SentFollows
sent_follows shop w a follow is =
    let follows_now : AllFollow (table.after shop (Ok a)) = after_follows shop (Ok a) (λ b e. word_follows shop w b (is ∙ e)) follow in
    (follows_now, message_so (table.after shop (Ok a)) a.to a.message follows_now (word_follows shop w a is).1)

leads_next : (old new : Shop) (e : Event) → IsKept old → Leads old e new → Next old new
leads_next old new (Hears w) kept leads = does_next old new (done_at old w) (word_follows old w) kept leads
leads_next old new (Starts products offers) kept leads = starts_next old new products offers kept leads

-- ---- events

runs_next : (first : Shop) (events : List Event) (shop : Shop) → IsKept first → Runs first events shop → Next first shop
runs_next first [] shop kept runs =
    record { kept = subst IsKept (sym runs) kept; stall = ap (λ (s : Shop). s.stall) runs; more = []; items = ap (λ (s : Shop). s.items) runs ∙ sym (append-nil first.items) }
runs_next first (e ∷ events) shop kept runs =
    let here = leads_next first runs.0 e kept runs.1 in
    let rest = runs_next runs.0 events shop here.kept runs.2 in
    record {
      kept = rest.kept;
      stall = rest.stall ∙ here.stall;
      more = here.more ++ rest.more;
      items = rest.items ∙ ap (λ (xs : List Item). xs ++ rest.more) here.items ∙ append_assoc first.items here.more rest.more;
    }

pub runs_are_kept : RunsAreKept
runs_are_kept first events shop kept runs =
    let next = runs_next first events shop kept runs in
    (next.kept, next.stall, restart_gives_back shop next.kept)

-- the serial numbers of goods that were sealed from a number on
serial_at : (n : ℕ) (ds : List Delivery) → serials_from n ds → (i : ℕ) (d : Delivery) → slice_get ds i ≡ Some d → (n ≤ d.epoid.serial) × (d.epoid.serial < n + length ds)
serial_at n [] follow i d there = absurd cc
serial_at n (e ∷ ds) follow zero d there =
    let same : e ≡ d = cc in
    subst (λ (x : Delivery). (n ≤ x.epoid.serial) × (x.epoid.serial < n + length (e ∷ ds))) same (omega (arith, follow.0), omega (arith, follow.0))
serial_at n (e ∷ ds) follow (suc i) d there =
    let rest = serial_at (n + 1) ds follow.1 i d there in
    (omega (arith, rest.0), omega (arith, rest.1))

pub no_serial_again : NoSerialAgain
no_serial_again first events shop kept runs = (next.more, next.items, differ)
  where
    next : Next first shop
    next = runs_next first events shop kept runs

    behind : all_follow (record shop { items = first.items }) next.more ≡ true
    behind = (front_follows (unkept shop) first.items next.more (subst (λ (xs : List Item). all_follow (unkept shop) xs ≡ true) next.items next.kept.follow)).1

    differ : (i j : ℕ) (d e : Delivery) → slice_get (deliveries_in first.items) i ≡ Some d → slice_get (deliveries_in next.more) j ≡ Some e → d.epoid.serial < e.epoid.serial
    differ i j d e before later =
        let low = serial_at 1 (deliveries_in first.items) (serials_kept (unkept first) first.items kept.follow) i d before in
        let high = serial_at (next_serial first.items) (deliveries_in next.more) (serials_kept (record shop { items = first.items }) next.more behind) j e later in
        omega (arith, low.1, high.0)

-- ---- results

-- the result of a purchase came with a message of the house, or was kept before
abbrev CameWith : List Item → List Event → Purchase → List ℕ → Type 0
CameWith held events p part = ((merchant : List ℕ) × Contains events (Hears (OfHouse (message.Result merchant part)))) ⊎ Contains held (item.Settled p part)

-- each that is kept behind events did
abbrev AllCame : List Item → List Event → List Item → Type 0
AllCame held events items = AllByRecursion (ItemSays (CameWith held events)) items

-- behind further events
came_before : (held : List Item) (events more : List Event) (p : Purchase) (part : List ℕ) → CameWith held events p part → CameWith held (events ++ more) p part
came_before held events more p part (inl came) = inl (came.0, Contains-append_left events more (Hears (OfHouse (message.Result came.0 part))) came.1)
came_before held events more p part (inr kept) = inr kept

came_behind : (held : List Item) (events more : List Event) (p : Purchase) (part : List ℕ) → CameWith held more p part → CameWith held (events ++ more) p part
came_behind held events more p part (inl came) = inl (came.0, Contains-append_right events more (Hears (OfHouse (message.Result came.0 part))) came.1)
came_behind held events more p part (inr kept) = inr kept

all_came : (held : List Item) (events more : List Event) (xs ys : List Item) → AllCame held events xs → AllCame held more ys → AllCame held (events ++ more) (xs ++ ys)
all_came held events more xs ys first second =
    both_mean (CameWith held events) (CameWith held more) (CameWith held (events ++ more)) (came_before held events more) (came_behind held events more) xs ys first second

-- before any event
was_held : (held : List Item) (x : Item) → Contains held x → ItemSays (CameWith held []) x
was_held held (item.Settled p part) there = inr there
was_held held (item.Quoted p product price request) there = tt
was_held held (item.Delivered p epoid checksum) there = tt
was_held held (item.Endorsed p order) there = tt

all_held : (front back : List Item) → AllCame (front ++ back) [] back
all_held front [] = tt
all_held front (x ∷ back) =
    let here : Contains (x ∷ back) x = (0, omega arith, refl) in (
      was_held (front ++ x ∷ back) x (Contains-append_right front (x ∷ back) x here),
      subst (λ (held : List Item). AllCame held [] back) (append_assoc front (x ∷ []) back) (all_held (front ++ x ∷ []) back),
    )

-- what a row keeps
no_result : (held : List Item) (w : Event) (keep : Option Item) → IfSome keep IsNoResult → AllCame held (w ∷ []) (table.listed keep)
no_result held w None none = tt
no_result held w (Some (item.Quoted p product price request)) none = (tt, tt)
no_result held w (Some (item.Delivered p epoid checksum)) none = (tt, tt)
no_result held w (Some (item.Endorsed p order)) none = (tt, tt)
no_result held w (Some (item.Settled p part)) none = absurd none

first_came : (held : List Item) (p : Purchase) (sale : Sale) (r : Receipt) (merchant part : List ℕ) (a : Answer) → table.first_result p sale r part ≡ Ok a
    → AllCame held (Hears (OfHouse (message.Result merchant part)) ∷ []) (table.listed a.keep)
unfolding table.first_result
first_came held p sale r merchant part a e =
    let consumer = inside (field 1 (r.consumer.0 == p.consumer.0)) _ a e in
    let product = inside (field 2 (r.product == sale.product)) _ a consumer.2 in
    let price = inside (field 3 (r.price.0 == sale.price.0)) _ a product.2 in
    let w = Hears (OfHouse (message.Result merchant part)) in
    let here : Contains (w ∷ []) w = (0, omega arith, refl) in
    subst (λ (b : Answer). AllCame held (w ∷ []) (table.listed b.keep)) (answer_is _ a price.2) (inl (merchant, here), tt)

resulted_came : (held : List Item) (p : Purchase) (sale : Sale) (r : Receipt) (merchant part : List ℕ) (before : Progress) (a : Answer) → table.resulted p sale r part before ≡ Ok a
    → AllCame held (Hears (OfHouse (message.Result merchant part)) ∷ []) (table.listed a.keep)
resulted_came held p sale r merchant part progress.Quoted a e = absurd cc
resulted_came held p sale r merchant part (progress.Delivered epoid) a e = absurd cc
resulted_came held p sale r merchant part (progress.Endorsed epoid order) a e = first_came held p sale r merchant part a e
resulted_came held p sale r merchant part (progress.Settled epoid order told) a e = absurd cc

result_came : (held : List Item) (shop : Shop) (merchant part : List ℕ) (a : Answer) → table.result_sent shop merchant part ≡ Ok a
    → AllCame held (Hears (OfHouse (message.Result merchant part)) ∷ []) (table.listed a.keep)
unfolding table.result_sent
result_came held shop merchant part a e =
    let s = inside (opened signed_of shop.stall.key (codes "rcpt") merchant) _ a e in
    let p = inside (found reason.Unknown (sold_as (deliveries_in shop.items) s.0.receipt.epoid)) _ a s.2 in
    let sale = inside (found reason.Unknown (sale_in shop.items p.0)) _ a p.2 in
    resulted_came held p.0 sale.0 s.0.receipt merchant part sale.0.progress a sale.2

house_came : (held : List Item) (shop : Shop) (m : Message) (a : Answer) → table.heard_of_house shop m ≡ Ok a → AllCame held (Hears (OfHouse m) ∷ []) (table.listed a.keep)
house_came held shop (message.Result merchant part) a e = result_came held shop merchant part a e
house_came held shop other a e = absurd cc

again_came : (held : List Item) (shop : Shop) (p : Purchase) (before : Progress) (a : Answer) → table.unheard shop.stall p before ≡ Ok a → AllCame held (Hears (Nothing p) ∷ []) (table.listed a.keep)
again_came held shop p progress.Quoted a e = absurd cc
again_came held shop p (progress.Delivered epoid) a e = absurd cc
again_came held shop p (progress.Endorsed epoid order) a e = subst (λ (b : Answer). AllCame held (Hears (Nothing p) ∷ []) (table.listed b.keep)) (answer_is _ a e) tt
again_came held shop p (progress.Settled epoid order part) a e = subst (λ (b : Answer). AllCame held (Hears (Nothing p) ∷ []) (table.listed b.keep)) (answer_is _ a e) tt

silent_came : (held : List Item) (shop : Shop) (p : Purchase) (a : Answer) → table.silent shop p ≡ Ok a → AllCame held (Hears (Nothing p) ∷ []) (table.listed a.keep)
unfolding table.silent
silent_came held shop p a e =
    let sale = inside (found reason.Unknown (sale_in shop.items p)) _ a e in
    again_came held shop p sale.0.progress a sale.2

answer_came : (held : List Item) (shop : Shop) (w : Word) (a : Answer) → done_at shop w ≡ Ok a → AllCame held (Hears w ∷ []) (table.listed a.keep)
answer_came held shop (OfConsumer m moment) a e = no_result held (Hears (OfConsumer m moment)) a.keep (heard_served shop m moment a e).2.1
answer_came held shop (OfHouse m) a e = house_came held shop m a e
answer_came held shop (Nothing p) a e = silent_came held shop p a e

row_came : (held : List Item) (shop : Shop) (w : Word) (row : Result Answer Reason) → done_at shop w ≡ row → AllCame held (Hears w ∷ []) (table.kept_by row)
row_came held shop w (Ok a) e = answer_came held shop w a e
row_came held shop w (Err why) e = tt

leads_came : (held : List Item) (past : List Event) (old new : Shop) (e : Event) → IsKept old → Leads old e new → AllCame held past old.items → AllCame held (past ++ e ∷ []) new.items
leads_came held past old new (Hears w) kept leads all =
    subst (AllCame held (past ++ Hears w ∷ [])) (sym (ap (λ (s : Shop). s.items) leads.0)) (all_came held past (Hears w ∷ []) old.items (table.kept_by (done_at old w)) all (row_came held old w (done_at old w) refl))
leads_came held past old new (Starts products offers) kept leads all =
    let same : new.items ≡ old.items = ap (λ (s : Shop). s.items) (restart_same (new_shop old.stall products offers) old.items 0 new kept.all leads).0 in
    subst (AllCame held (past ++ Starts products offers ∷ [])) (append-nil old.items ∙ sym same) (all_came held past (Starts products offers ∷ []) old.items [] all tt)

runs_came : (held : List Item) (past events : List Event) (first shop : Shop) → IsKept first → Runs first events shop → AllCame held past first.items → AllCame held (past ++ events) shop.items
runs_came held past [] first shop kept runs all =
    subst (λ (events : List Event). AllCame held events shop.items) (sym (append-nil past)) (subst (AllCame held past) (sym (ap (λ (s : Shop). s.items) runs)) all)
runs_came held past (e ∷ events) first shop kept runs all =
    let next = leads_next first runs.0 e kept runs.1 in
    subst (λ (es : List Event). AllCame held es shop.items) (append_assoc past (e ∷ []) events)
    (runs_came held (past ++ e ∷ []) events runs.0 shop next.kept runs.2 (leads_came held past first runs.0 e kept runs.1 all))

pub passed_is_heard : PassedIsHeard
passed_is_heard first events shop w a transaction part kept runs done passed = by (part_says (CameWith first.items (events ++ Hears w ∷ [])) (shop.items ++ table.listed a.keep) sent.purchase sent.sale sent.epoid sent.order part all sent.kept sent.settled)
  where
    all : AllCame first.items (events ++ Hears w ∷ []) (shop.items ++ table.listed a.keep)
    all = all_came first.items events (Hears w ∷ []) shop.items (table.listed a.keep) (runs_came first.items [] events first shop kept runs (all_held [] first.items)) (answer_came first.items shop w a done)

    sent : PassesKept (table.after shop (Ok a)) a.to transaction part
    sent = subst (SentSo (table.after shop (Ok a)) a.to) passed (word_follows shop w a done).1

    by : CameWith first.items (events ++ Hears w ∷ []) sent.purchase part
        → ((merchant : List ℕ) × Contains (events ++ Hears w ∷ []) (Hears (OfHouse (message.Result merchant part))))
        ⊎ ((p : Purchase) × (transaction ≡ p.transaction) × (a.to ≡ to.Consumer p.consumer) × Contains first.items (item.Settled p part))
    by (inl came) = inl came
    by (inr there) = inr (sent.purchase, sent.number, sent.consumer, there)

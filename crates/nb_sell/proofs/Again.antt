-- What is served again with the same bytes, and what ends a link.
use Rattle.std.proofs.Common.{◌≡◌, ◌⊎◌, inl, inr, ⊎_elim, ℕ, ◌+◌, Bool, true, false, cond, List, [], ◌∷◌, ◌++◌, map, append_assoc, append-nil, Option, Some, None, Result, Ok, Err, refl, sym, ap, subst, ◌∙◌}
use Rattle.std.specs.Prelude.{IfOk}
use Rattle.std.specs.List.{AllByRecursion}
use Rattle.std.specs.Str.{bytes_eq}
use Rattle.std.proofs.lemmas.Slice.Eq.{bytes_eq-Decides}
use Rattle.nb_units.specs.Fields.{◌>>=◌, u8_at, u64_at, raw_at, done_at, or_place}
use Rattle.nb_units.specs.declared.epoid.Epoid.{Epoid}
use Rattle.nb_msgs.specs.Reading.{refusal_of, message_of}
use Rattle.nb_msgs.specs.declared.message.Message.{Message}
use Rattle.nb_msgs.specs.declared.message.Message.TheVariants as message
use Rattle.nb_msgs.specs.declared.node.Reason.{Reason}
use Rattle.nb_msgs.specs.declared.node.Reason.TheVariants as reason
use Rattle.nb_msgs.specs.declared.node.To.TheVariants as to
use Rattle.nb_stall.specs.declared.purchase.Purchase.{Purchase}
use Rattle.nb_stall.specs.declared.stall.Stall.{Stall}
use Rattle.nb_stall.specs.declared.item.Item.{Item}
use Rattle.nb_stall.specs.declared.item.Item.TheVariants as item
use Rattle.nb_stall.specs.declared.sale.Progress.{Progress}
use Rattle.nb_stall.specs.declared.sale.Progress.TheVariants as progress
use Rattle.nb_stall.specs.declared.sale.Sale.{Sale}
use Rattle.nb_stall.specs.Messages.{endorsed_message}
use Rattle.nb_stall.specs.Reading.{purchase_of}
use Rattle.nb_stall.specs.Sales.{is_same, progressed, moved, told, sale_from, sale_in}
use Rattle.nb_merchant.specs.declared.answer.Answer.{Answer}
use Rattle.nb_merchant.specs.Shop.{Shop, new_shop, with_item}
use Rattle.nb_merchant.specs.Table.{ordered, order_again, order_settled, endorses_again, passes_again, after}
use Rattle.nb_merchant.specs.Keeping.{AllFollow, IsKept, follows, or_bad, restarted, taken_up}
use Rattle.nb_merchant.specs.Laws.{Word, OfConsumer, OfHouse, done_at as row_at}
use Rattle.nb_merchant.specs.Sending.{MessageIs, Endorses, EndorsesKept}
use Rattle.nb_stall.specs.Spelling.{IsItem, item_bytes}
use Rattle.nb_stall.proofs.Layouts.{item_reads_back}
use Rattle.nb_merchant.proofs.Restarting.{shop_is}
use Rattle.nb_merchant.proofs.Running.{after_follows, word_follows, sent_follows}
use Rattle.nb_sell.specs.Run.{Act, Hears, Told, Way, heard_as, told_as, heard_row, told_row, act_row, awaited, outset, onward, behind, kept}
use Rattle.nb_sell.specs.Laws.{ServesAgain, EndorsesAgain, RefusalEnds}
use Rattle.nb_sell.proofs.Runs.{behind_both}
use Rattle.nb_sell.proofs.NextTime.{shop_items, same_stall, all_kept}

-- ---- a refusal

abbrev IsOfRefusal : Message → Type 0
IsOfRefusal (message.Refusal r) = Unit {0}
IsOfRefusal other = ⊥

always : {A : Type 0} (r : Result A ℕ) (k : A → Result Message ℕ) → ((x : A) → IfOk (k x) IsOfRefusal) → IfOk (r >>= k) IsOfRefusal
always (Ok x) k each = each x
always (Err place) k each = tt

refusal_only : (body : List ℕ) → IfOk (refusal_of body) IsOfRefusal
unfolding refusal_of
refusal_only body =
    always (or_place (u8_at body 0)) (λ code. or_place (u64_at body 1) >>= λ a. or_place (u64_at body 9) >>= λ b. or_place (raw_at 32 body 17) >>= λ x. or_place (done_at body 49) >>= λ end. last code a b x)
    (λ code. always (or_place (u64_at body 1)) (λ a. or_place (u64_at body 9) >>= λ b. or_place (raw_at 32 body 17) >>= λ x. or_place (done_at body 49) >>= λ end. last code a b x)
    (λ a. always (or_place (u64_at body 9)) (λ b. or_place (raw_at 32 body 17) >>= λ x. or_place (done_at body 49) >>= λ end. last code a b x)
    (λ b. always (or_place (raw_at 32 body 17)) (λ x. or_place (done_at body 49) >>= λ end. last code a b x)
    (λ x. always (or_place (done_at body 49)) (λ end. last code a b x)
    (λ end. tt)))))
  where
    last : ℕ → ℕ → ℕ → List ℕ → Result Message ℕ
    last code a b x = Ok (message.Refusal (record { code = code; a = a; b = b; x = x }))

refusal_heard : (shop : Shop) (moment : ℕ) (read : Result Message ℕ) → IfOk read IsOfRefusal → (awaited (heard_as shop moment read) ≡ None) × (awaited (told_as shop read) ≡ None)
refusal_heard shop moment (Err place) is = (refl, refl)
refusal_heard shop moment (Ok (message.Refusal r)) is = (refl, refl)
refusal_heard shop moment (Ok (message.PriceAsk ticket sealed)) is = absurd is
refusal_heard shop moment (Ok (message.Quote t sealed)) is = absurd is
refusal_heard shop moment (Ok (message.GoodsAsk ticket sealed)) is = absurd is
refusal_heard shop moment (Ok (message.Goods t head part)) is = absurd is
refusal_heard shop moment (Ok (message.Order ticket sealed)) is = absurd is
refusal_heard shop moment (Ok (message.Endorsed merchant sealed)) is = absurd is
refusal_heard shop moment (Ok (message.Result merchant consumer)) is = absurd is
refusal_heard shop moment (Ok (message.Passed t part)) is = absurd is
refusal_heard shop moment (Ok (message.StatusAsk query)) is = absurd is
refusal_heard shop moment (Ok (message.Status sealed)) is = absurd is
refusal_heard shop moment (Ok (message.TicketAsk ask)) is = absurd is
refusal_heard shop moment (Ok (message.Grant sealed)) is = absurd is
refusal_heard shop moment (Ok (message.Enrol enrolment)) is = absurd is
refusal_heard shop moment (Ok (message.Fund funding)) is = absurd is
refusal_heard shop moment (Ok (message.Done acct at balance)) is = absurd is

pub refusal_ends : RefusalEnds
unfolding heard_row told_row
refusal_ends shop f moment kind =
    subst (λ (k : ℕ). (awaited (heard_as shop moment (message_of k f.body)) ≡ None) × (awaited (told_as shop (message_of k f.body)) ≡ None)) (sym kind)
    (refusal_heard shop moment (refusal_of f.body) (refusal_only f.body))

-- ---- what may stand where it does, stays so

word_follow : (shop : Shop) (word : Word) → AllFollow shop → AllFollow (after shop (row_at shop word))
word_follow shop word follow = after_follows shop (row_at shop word) (word_follows shop word) follow

-- whose row is not that of a message
ignored_follow : (shop : Shop) (why : Reason) → AllFollow shop → AllFollow (after shop (Err why))
ignored_follow shop why follow = after_follows shop (Err why) (λ a e. absurd (apart a e)) follow
  where
    apart : (a : Answer) → (let r : Result Answer Reason = Err why in r ≡ Ok a) → ⊥
    apart a e = cc

heard_follow : (shop : Shop) (moment : ℕ) (read : Result Message ℕ) → AllFollow shop → AllFollow (after shop (heard_as shop moment read))
heard_follow shop moment (Ok m) follow = word_follow shop (OfConsumer m moment) follow
heard_follow shop moment (Err place) follow = ignored_follow shop reason.Kind follow

told_follow : (shop : Shop) (read : Result Message ℕ) → AllFollow shop → AllFollow (after shop (told_as shop read))
told_follow shop (Ok m) follow = word_follow shop (OfHouse m) follow
told_follow shop (Err place) follow = ignored_follow shop reason.Kind follow

act_follow : (shop : Shop) (a : Act) → AllFollow shop → AllFollow (after shop (act_row shop a))
unfolding heard_row told_row
act_follow shop (Hears f moment) follow = heard_follow shop moment (message_of f.kind f.body) follow
act_follow shop (Told f) follow = told_follow shop (message_of f.kind f.body) follow

all_follow_behind : (w : Way) (acts : List Act) → AllFollow w.shop → AllFollow (behind w acts).shop
all_follow_behind w [] follow = follow
all_follow_behind w (a ∷ acts) follow = all_follow_behind (onward w a) acts (act_follow w.shop a follow)

-- ---- what an act sent is as it was kept

heard_sent : (shop : Shop) (moment : ℕ) (read : Result Message ℕ) (a : Answer) → AllFollow shop → heard_as shop moment read ≡ Ok a → MessageIs (after shop (Ok a)) a.to a.message
heard_sent shop moment (Ok m) a follow is = (sent_follows shop (OfConsumer m moment) a follow is).1
heard_sent shop moment (Err place) a follow is = absurd cc

told_sent : (shop : Shop) (read : Result Message ℕ) (a : Answer) → AllFollow shop → told_as shop read ≡ Ok a → MessageIs (after shop (Ok a)) a.to a.message
told_sent shop (Ok m) a follow is = (sent_follows shop (OfHouse m) a follow is).1
told_sent shop (Err place) a follow is = absurd cc

act_sent : (shop : Shop) (act : Act) (a : Answer) → AllFollow shop → act_row shop act ≡ Ok a → MessageIs (after shop (Ok a)) a.to a.message
unfolding heard_row told_row
act_sent shop (Hears f moment) a follow is = heard_sent shop moment (message_of f.kind f.body) a follow is
act_sent shop (Told f) a follow is = told_sent shop (message_of f.kind f.body) a follow is

-- ---- an endorsed order stays endorsed

-- it was endorsed, or settled since
abbrev WasEndorsed : Epoid → List ℕ → Progress → Type 0
WasEndorsed epoid order how = (how ≡ progress.Endorsed epoid order) ⊎ ((part : List ℕ) × (how ≡ progress.Settled epoid order part))

progress_stays : (epoid : Epoid) (order : List ℕ) (how : Progress) (x : Item) → WasEndorsed epoid order how → WasEndorsed epoid order (progressed how x)
progress_stays epoid order how x (inl is) = subst (λ (h : Progress). WasEndorsed epoid order (progressed h x)) (sym is) (by x)
  where
    by : (x : Item) → WasEndorsed epoid order (progressed (progress.Endorsed epoid order) x)
    by (item.Quoted p product price request) = inl refl
    by (item.Delivered p name checksum) = inl refl
    by (item.Endorsed p text) = inl refl
    by (item.Settled p part) = inr (part, refl)
progress_stays epoid order how x (inr is) = inr (is.0, ap (λ (h : Progress). progressed h x) is.1)

-- what is known of a purchase behind items more
record Stays (p : Purchase) (known : Option Sale) (items : List Item) (epoid : Epoid) (order : List ℕ) : Type 0 where
  sale : Sale
  is : sale_from p known items ≡ Some sale
  was : WasEndorsed epoid order sale.progress

sale_stays : (p : Purchase) (sale : Sale) (items : List Item) (epoid : Epoid) (order : List ℕ) → WasEndorsed epoid order sale.progress → Stays p (Some sale) items epoid order
sale_stays p sale [] epoid order was = record { sale = sale; is = refl; was = was }
sale_stays p sale (x ∷ items) epoid order was = by (λ then was. sale_stays p then items epoid order was) (is_same (purchase_of x) p) refl
  where
    by : ((then : Sale) → WasEndorsed epoid order then.progress → Stays p (Some then) items epoid order) → (same : Bool) → is_same (purchase_of x) p ≡ same → Stays p (Some sale) (x ∷ items) epoid order
    by rest true same =
        let r = rest (record sale { progress = progressed sale.progress x }) (progress_stays epoid order sale.progress x was) in
        record { sale = r.sale; is = ap (λ (b : Bool). sale_from p (cond b (moved (Some sale) x) (Some sale)) items) same ∙ r.is; was = r.was }
    by rest false same =
        let r = rest sale was in
        record { sale = r.sale; is = ap (λ (b : Bool). sale_from p (cond b (moved (Some sale) x) (Some sale)) items) same ∙ r.is; was = r.was }

sale_from_both : (p : Purchase) (known : Option Sale) (items more : List Item) → sale_from p known (items ++ more) ≡ sale_from p (sale_from p known items) more
sale_from_both p known [] more = refl
sale_from_both p known (x ∷ items) more = sale_from_both p (told p known x) items more

-- ---- and is answered again

same_bytes : (order : List ℕ) → bytes_eq order order ≡ true
same_bytes order = (bytes_eq-Decides order order).1 refl

again_is : (stall : Stall) (epoid : Epoid) (order : List ℕ) → order_again stall epoid order order ≡ Ok (endorses_again stall epoid order)
unfolding order_again
again_is stall epoid order = rw (same_bytes order) refl

settled_is : (p : Purchase) (order part : List ℕ) → order_settled p order part order ≡ Ok (passes_again p part)
unfolding order_settled
settled_is p order part = rw (same_bytes order) refl

answers_again : (shop : Shop) (p : Purchase) (sale : Sale) (epoid : Epoid) (order : List ℕ) → WasEndorsed epoid order sale.progress
    → (ordered shop p sale order sale.progress ≡ Ok (endorses_again shop.stall epoid order)) ⊎ ((part : List ℕ) × (ordered shop p sale order sale.progress ≡ Ok (passes_again p part)))
answers_again shop p sale epoid order (inl is) = inl (ap (ordered shop p sale order) is ∙ again_is shop.stall epoid order)
answers_again shop p sale epoid order (inr is) = inr (is.0, ap (ordered shop p sale order) is.1 ∙ settled_is p order is.0)

serves : (shop : Shop) (p : Purchase) (sale : Sale) (epoid : Epoid) (order : List ℕ) (m : Message) → sale_in shop.items p ≡ Some sale → WasEndorsed epoid order sale.progress
    → m ≡ endorsed_message shop.stall epoid order → ServesAgain shop p order m
serves shop p sale epoid order m there was is = record {
  sale = sale;
  known = there;
  answers = ⊎_elim
      (λ again. inl (again ∙ ap (λ (x : Message). let r : Result Answer Reason = Ok (record { keep = None; to = to.Server; message = x }) in r) (sym is)))
      (λ passed. inr passed)
      (answers_again shop p sale epoid order was);
}

-- ---- with whatever shelf

-- a merchant that starts with the bytes of some items kept these
fresh_is : (start : Shop) (items : List Item) (i : ℕ) (fresh : Shop) → AllByRecursion IsItem items → restarted start i (map item_bytes items) ≡ Ok fresh → fresh ≡ record start { items = start.items ++ items }
fresh_is start [] i fresh all e = shop_is start fresh e ∙ ap (λ (xs : List Item). record start { items = xs }) (sym (append-nil start.items))
fresh_is start (x ∷ items) i fresh all e =
    by (λ rest. fresh_is (with_item start x) items (i + 1) fresh all.1 rest) (follows start x)
    (subst (λ (r : Result Item ℕ). or_bad i (λ next. restarted next (i + 1) (map item_bytes items)) (taken_up start r) ≡ Ok fresh) (item_reads_back x all.0) e)
  where
    by : (restarted (with_item start x) (i + 1) (map item_bytes items) ≡ Ok fresh → fresh ≡ record start { items = (start.items ++ x ∷ []) ++ items }) → (b : Bool)
        → or_bad i (λ next. restarted next (i + 1) (map item_bytes items)) (cond b (Some (with_item start x)) None) ≡ Ok fresh → fresh ≡ record start { items = start.items ++ x ∷ items }
    by rest true e = rest e ∙ ap (λ (xs : List Item). record start { items = xs }) (append_assoc start.items (x ∷ []) items)
    by rest false e = absurd cc

pub endorsed_again : EndorsesAgain
endorsed_again shop before later a answer merchant sealed is row sends =
    let w : Way = behind (outset shop) before in
    let now : Shop = after w.shop (act_row w.shop a) in
    let follow : AllFollow w.shop = all_follow_behind (outset shop) before is.follow in
    let sent : Endorses (after w.shop (Ok answer)) answer.to (message.Endorsed merchant sealed) =
    subst (λ (m : Message). MessageIs (after w.shop (Ok answer)) answer.to m) sends (act_sent w.shop a answer follow row) in
    let e : EndorsesKept (after w.shop (Ok answer)) answer.to (message.Endorsed merchant sealed) = sent.sent in
    let known : sale_in now.items e.purchase ≡ Some e.sale = ap (λ (r : Result Answer Reason). sale_in (after w.shop r).items e.purchase) row ∙ e.kept in
    let last : Way = behind (onward w a) later in
    let whole : behind (outset shop) (before ++ a ∷ later) ≡ last = behind_both (outset shop) before (a ∷ later) in
    let more : List Item = kept (onward w a) later in
    let r = sale_stays e.purchase e.sale more e.epoid e.order (inl e.endorsed) in
    let there : sale_in last.shop.items e.purchase ≡ Some r.sale =
    ap (λ (xs : List Item). sale_in xs e.purchase) (shop_items (onward w a) later) ∙ sale_from_both e.purchase None now.items more
    ∙ ap (λ (o : Option Sale). sale_from e.purchase o more) known ∙ r.is in
    let stall : last.shop.stall ≡ shop.stall = (same_stall (onward w a) later).0 ∙ (same_stall (outset shop) before).0 in
    let first : answer.message ≡ endorsed_message shop.stall e.epoid e.order =
    sends ∙ e.is ∙ ap (λ (s : Stall). endorsed_message s e.epoid e.order) (same_stall (outset shop) before).0 in
    let then : answer.message ≡ endorsed_message last.shop.stall e.epoid e.order = first ∙ ap (λ (s : Stall). endorsed_message s e.epoid e.order) (sym stall) in (
      e.purchase,
      (
        e.epoid,
        (
          e.order,
          first,
          subst (λ (x : Way). ServesAgain x.shop e.purchase e.order answer.message) (sym whole) (serves last.shop e.purchase r.sale e.epoid e.order answer.message there r.was then),
          λ other fresh items again.
              let items' : List Item = (behind (outset shop) (before ++ a ∷ later)).shop.items in
              let kept_then : IsKept (behind (outset shop) (before ++ a ∷ later)).shop = all_kept (outset shop) (before ++ a ∷ later) is items in
              let with_shelf : Shop = record { stall = shop.stall; products = other.products; offers = other.offers; items = items' } in
              subst (λ (x : Shop). ServesAgain x e.purchase e.order answer.message) (sym (fresh_is (new_shop shop.stall other.products other.offers) items' 0 fresh kept_then.all again))
              (serves with_shelf e.purchase r.sale e.epoid e.order answer.message (ap (λ (x : Way). sale_in x.shop.items e.purchase) whole ∙ there) r.was first),
        ),
      ),
    )

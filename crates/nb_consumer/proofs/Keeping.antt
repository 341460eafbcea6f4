-- What rows keep may stand behind what is known.
use Rattle.std.proofs.Common.{◌≡◌, ℕ, ◌+◌, ◌-◌, ◌<◌, ◌≤◌, min, Bool, true, false, cond, List, ◌++◌, length, Option, Some, None, Ok, Err, Result, refl, sym, ap, subst, ◌∙◌, arith}
use Rattle.std.specs.Prelude.{◌==◌, ◌&&◌, nat_lt, nat_le, is_some, is_none, is_ok, codes}
use Rattle.std.specs.Str.{bytes_eq}
use Rattle.std.proofs.lemmas.Bool.{eqb-true, eq-eqb, leb-true, le-leb, ltb-false}
use Rattle.std.proofs.lemmas.Slice.Eq.{bytes_eq-Decides}
use Rattle.sha2.specs.Sha256.{sha256}
use Rattle.sha2.proofs.Facts256.{length-sha256}
use Rattle.nb_units.specs.Fields.{◌>>=◌}
use Rattle.nb_units.specs.declared.ids.PartyId.{PartyId}
use Rattle.nb_units.specs.declared.ids.Price.{Price}
use Rattle.nb_seal.specs.Seal.{text_in}
use Rattle.nb_seal.proofs.Opening.{text_in_opens}
use Rattle.nb_body.specs.declared.goods_head.GoodsHead.{GoodsHead}
use Rattle.nb_body.specs.declared.quote.Quote.{Quote}
use Rattle.nb_body.specs.Reading.{quote_of, goods_head_of}
use Rattle.nb_ticket.specs.declared.granted.Granted.{Granted}
use Rattle.nb_ticket.specs.Reading.{granted_of}
use Rattle.nb_msgs.specs.declared.status.StatusText.{StatusText}
use Rattle.nb_epo.specs.declared.order.Order.{Order}
use Rattle.nb_epo.proofs.Placing.{checksum_is_spelled}
use Rattle.nb_endorse.specs.declared.receipt.Signed.{Signed}
use Rattle.nb_endorse.specs.Reading.{signed_of}
use Rattle.nb_goods.specs.Goods.{OpensTo}
use Rattle.nb_msgs.specs.StatusText.{text_of}
use Rattle.nb_msgs.specs.declared.message.Message.{Message}
use Rattle.nb_msgs.specs.declared.message.Message.TheVariants as message
use Rattle.nb_body.specs.declared.end.End.TheVariants as end
use Rattle.nb_msgs.specs.declared.node.Reason.{Reason}
use Rattle.nb_msgs.specs.declared.node.Reason.TheVariants as reason
use Rattle.nb_wallet.specs.declared.wallet.Start.{Start}
use Rattle.nb_wallet.specs.declared.item.SessionTicket.{SessionTicket}
use Rattle.nb_wallet.specs.declared.purchase.Stage.{Stage}
use Rattle.nb_wallet.specs.declared.purchase.Stage.TheVariants as stage
use Rattle.nb_wallet.specs.Purchases.{Purchase}
use Rattle.nb_consumer.specs.declared.rows.Wanting.{Wanting}
use Rattle.nb_consumer.specs.declared.rows.Owing.{Owing}
use Rattle.nb_consumer.specs.declared.deed.Deed.{Deed}
use Rattle.nb_wallet.specs.Stages.{end_with, end_opened}
use Rattle.nb_consumer.specs.State.{Buyer, place_of, purchase_of, ordered_with, epoid_bytes, number_of}
use Rattle.nb_msgs.specs.Tests.{unless, field, found, opened}
use Rattle.nb_units.specs.Epoid.{is_same_epoid}
use Rattle.nb_consumer.specs.Table.{started, granted, quoted, price_quoted, is_price, pass_of_asked, is_ticketing, delivered, goods_came, goods_wrong, goods_ordered, part_kept, head_told, part_fits, order_made, agrees, wanting_in, owing_in, passed, told_status, status_told, receipt_told, receipt_fits, silent, unheard, heard}
use Rattle.nb_consumer.specs.Restart.{holds_for, holds_at, part_follows, order_follows, order_names, is_rest, is_short}
use Rattle.nb_consumer.specs.Laws.{RowSo, RowsAreSo, PaidOpens}
use Rattle.nb_consumer.proofs.Purchases.{found_some, found_number}

-- ---- steps of a row

row_so : {A : Type 0} (b : Buyer) (r : Result A Reason) (next : A → Result Deed Reason) → ((x : A) → r ≡ Ok x → RowSo b (next x)) → RowSo b (r >>= next)
row_so b (Ok x) next each = each x refl
row_so b (Err why) next each = tt

bind_found : {A B : Type 0} (r : Result A Reason) (next : A → Result B Reason) (y : B) → (r >>= next) ≡ Ok y → (x : A) × (r ≡ Ok x) × (next x ≡ Ok y)
bind_found (Ok x) next y e = (x, refl, e)
bind_found (Err why) next y e = absurd cc

value_is : {A : Type 0} (x y : A) → (let one : Result A Reason = Ok x in one ≡ Ok y) → x ≡ y
value_is x y e = cc

passes : (test : Bool) (why : Reason) (u : Unit {0}) → unless test why ≡ Ok u → test ≡ true
passes true why u e = refl
passes false why u e = absurd cc

pub both : (a b : Bool) → (a && b) ≡ true → (a ≡ true) × (b ≡ true)
both true true e = (refl, refl)
both true false e = absurd cc
both false b e = absurd cc

and_true : (a b : Bool) → a ≡ true → b ≡ true → (a && b) ≡ true
and_true a b x y = rw (x, y) refl

same_number : (n : ℕ) → (n == n) ≡ true
same_number n = eq-eqb n n refl

same_bytes : (xs ys : List ℕ) → xs ≡ ys → bytes_eq xs ys ≡ true
same_bytes xs ys e = (bytes_eq-Decides xs ys).1 e

holds_known : (o : Option Purchase) (p : Purchase) (test : Purchase → Bool) → o ≡ Some p → test p ≡ true → holds_for o test ≡ true
holds_known o p test is so = ap (λ (x : Option Purchase). holds_for x test) is ∙ so

holds_there : {A : Type 0} (o : Option A) (x : A) (test : A → Bool) → o ≡ Some x → test x ≡ true → holds_at o test ≡ true
holds_there {A = A} o x test is so = ap (λ (y : Option A). holds_at y test) is ∙ so

-- ---- rows without goods

started_so : (b : Buyer) (s : Start) → RowSo b (started b s)
unfolding started
started_so b s = row_so b (unless (is_none (place_of b.purchases s.transaction)) reason.State) _ (λ u is. (passes (is_none (place_of b.purchases s.transaction)) reason.State u is, tt))

granted_so : (b : Buyer) (sealed : List ℕ) → RowSo b (granted b sealed)
unfolding granted
granted_so b sealed =
    row_so {A = Granted} b (opened granted_of b.wallet.key (codes "gran") sealed) _ (λ g first.
    row_so {A = Purchase} b (found reason.Unknown (purchase_of b g.nonce)) _ (λ p known.
    row_so {A = Unit {0}} b (unless (is_ticketing p.stage) reason.State) _ (λ u waits.
    row_so {A = Unit {0}} b (field 1 (g.merchant.0 == p.start.merchant.0)) _ (λ v merchant.
    (holds_known (purchase_of b g.nonce) p (λ q. is_ticketing q.stage) (found_some reason.Unknown (purchase_of b g.nonce) p known) (passes (is_ticketing p.stage) reason.State u waits), tt)))))

price_is : (s : Start) (pass : SessionTicket) (sealed : List ℕ) (price : Price) → price_quoted s pass sealed ≡ Ok price → is_price price s.limit ≡ true
unfolding price_quoted
price_is s pass sealed price e =
    let third : Quote → Unit {0} → Result Price Reason = λ q m. (field 3 (is_price q.price s.limit) >>= λ v. Ok q.price) in
    let second : Quote → Unit {0} → Result Price Reason = λ q n. (field 2 (q.product == s.product) >>= third q) in
    let a = bind_found {A = Quote} {B = Price} (opened quote_of pass.session (codes "m002") sealed) (λ q. field 1 (q.transaction == s.transaction) >>= second q) price e in
    let q : Quote = a.0 in
    let b = bind_found {A = Unit {0}} {B = Price} (field 1 (q.transaction == s.transaction)) (second q) price a.2 in
    let c = bind_found {A = Unit {0}} {B = Price} (field 2 (q.product == s.product)) (third q) price b.2 in
    let d = bind_found {A = Unit {0}} {B = Price} (field 3 (is_price q.price s.limit)) (λ v. Ok q.price) price c.2 in
    subst (λ (x : Price). is_price x s.limit ≡ true) (value_is q.price price d.2) (passes (is_price q.price s.limit) (reason.Field 3) d.0 d.1)

quoted_so : (b : Buyer) (transaction : ℕ) (sealed : List ℕ) → RowSo b (quoted b transaction sealed)
unfolding quoted
quoted_so b transaction sealed =
    row_so b (found reason.Unknown (purchase_of b transaction)) _ (λ p known.
    row_so b (found reason.State (pass_of_asked p.stage)) _ (λ pass asked.
    row_so b (price_quoted p.start pass sealed) _ (λ price is. (
      holds_known (purchase_of b transaction) p (λ q. is_some (pass_of_asked q.stage) && is_price price q.start.limit) (found_some reason.Unknown (purchase_of b transaction) p known)
          (and_true (is_some (pass_of_asked p.stage)) (is_price price p.start.limit) (ap is_some (found_some reason.State (pass_of_asked p.stage) pass asked)) (price_is p.start pass sealed price is)),
      tt,
    ))))

-- ---- ends

receipt_so : (b : Buyer) (transaction : ℕ) (p : Purchase) (o : Owing) (s : Signed) → purchase_of b transaction ≡ Some p → owing_in p.stage ≡ Some o → RowSo b (receipt_told transaction p o s)
unfolding receipt_told
receipt_so b transaction p o s known ordered =
    row_so b (receipt_fits o.order s.receipt) _ (λ u fits. (
      holds_known (purchase_of b transaction) p (λ q. holds_at (owing_in q.stage) (λ v. is_ok (receipt_fits v.order s.receipt))) known
          (holds_there (owing_in p.stage) o (λ v. is_ok (receipt_fits v.order s.receipt)) ordered (ap is_ok fits)),
      record { purchase = p; owing = o; known = known; ordered = ordered; fits = fits; end = refl },
    ))

passed_so : (b : Buyer) (transaction : ℕ) (part : List ℕ) → RowSo b (passed b transaction part)
unfolding passed
passed_so b transaction part =
    row_so b (found reason.Unknown (purchase_of b transaction)) _ (λ p known.
    row_so b (found reason.State (owing_in p.stage)) _ (λ o ordered.
    row_so {A = Signed} b (opened signed_of b.wallet.key (codes "rcpt") part) _ (λ s opens.
    receipt_so b transaction p o s (found_some reason.Unknown (purchase_of b transaction) p known) (found_some reason.State (owing_in p.stage) o ordered))))

told_so : (b : Buyer) (transaction : ℕ) (p : Purchase) (o : Owing) (place : ℕ) (told : Option Signed) → purchase_of b transaction ≡ Some p → owing_in p.stage ≡ Some o
    → RowSo b (status_told transaction p o place told)
told_so b transaction p o place (Some s) known ordered = receipt_so b transaction p o s known ordered
told_so b transaction p o place None known ordered = record { purchase = p; owing = o; known = known; ordered = ordered; again = λ told. refl }

status_so : (b : Buyer) (sealed : List ℕ) → RowSo b (told_status b sealed)
unfolding told_status
status_so b sealed =
    row_so {A = StatusText} b (opened text_of b.wallet.key (codes "stat") sealed) _ (λ t opens.
    row_so {A = ℕ} b (found reason.Unknown (ordered_with b.orders (epoid_bytes t.epoid))) _ (λ transaction first.
    row_so b (found reason.Unknown (purchase_of b transaction)) _ (λ p known.
    row_so b (found reason.State (owing_in p.stage)) _ (λ o ordered.
    told_so b transaction p o t.place t.receipt (found_some reason.Unknown (purchase_of b transaction) p known) (found_some reason.State (owing_in p.stage) o ordered)))))

-- ---- quiet times

unheard_so : (b : Buyer) (p : Purchase) (s : Stage) → RowSo b (unheard b.wallet p s)
unheard_so b p stage.Ticketing = tt
unheard_so b p (stage.Asked pass) = tt
unheard_so b p (stage.Wanted pass price head) = tt
unheard_so b p (stage.Ordered pass order least) = tt
unheard_so b p (stage.Paid key) = tt
unheard_so b p (stage.Refused code) = tt
unheard_so b p stage.Foul = tt

silent_so : (b : Buyer) (transaction : ℕ) → RowSo b (silent b transaction)
unfolding silent
silent_so b transaction = row_so b (found reason.Unknown (purchase_of b transaction)) _ (λ p known. unheard_so b p p.stage)

-- ---- a purchase that is paid

paid_is : (g h : List ℕ) → end.Paid g ≡ end.Paid h → g ≡ h
paid_is g h e = cc

pub paid_opens : PaidOpens
paid_opens r sealed goods e = by_code (r.code == 0) refl e
  where
    by_text : (key : List ℕ) (o : Option (List ℕ)) → text_in key (codes "good") sealed ≡ o → end_opened o ≡ end.Paid goods → text_in key (codes "good") sealed ≡ Some goods
    by_text key (Some g) is same = is ∙ ap Some (paid_is g goods same)
    by_text key None is same = absurd cc

    by_key : (o : Option (List ℕ)) → r.key ≡ o → end_with o sealed ≡ end.Paid goods → (key : List ℕ) × (r.key ≡ Some key) × (text_in key (codes "good") sealed ≡ Some goods)
    by_key (Some key) is same = (key, is, by_text key (text_in key (codes "good") sealed) refl same)
    by_key None is same = absurd cc

    by_code : (test : Bool) → (r.code == 0) ≡ test → cond test (end_with r.key sealed) (end.Refused r.code) ≡ end.Paid goods
        → (key : List ℕ) × (r.code ≡ 0) × (r.key ≡ Some key) × OpensTo key sealed goods
    by_code true is same =
        let k = by_key r.key refl same in
        (k.0, eqb-true r.code 0 is, k.1, (text_in_opens k.0 (codes "good") sealed goods).0 k.2)
    by_code false is same = absurd cc

-- ---- goods

-- what is known of a part whose head fits
pub record Fits (p : Purchase) (w : Wanting) (h : GoodsHead) (part : List ℕ) : Type 0 where
  pub number : h.transaction ≡ number_of p
  pub fits : part_fits p.start.merchant w.head p.held h part ≡ Ok tt

pub head_is : (p : Purchase) (w : Wanting) (head part : List ℕ) (h : GoodsHead) → head_told p w head part ≡ Ok h → Fits p w h part
unfolding head_told
head_is p w head part h e =
    let second : GoodsHead → Unit {0} → Result GoodsHead Reason = λ x n. (part_fits p.start.merchant w.head p.held x part >>= λ u. Ok x) in
    let a = bind_found {A = GoodsHead} {B = GoodsHead} (opened goods_head_of w.pass.session (codes "m004") head) (λ x. field 1 (x.transaction == p.start.transaction) >>= second x) h e in
    let x : GoodsHead = a.0 in
    let b = bind_found {A = Unit {0}} {B = GoodsHead} (field 1 (x.transaction == p.start.transaction)) (second x) h a.2 in
    let c = bind_found {A = Unit {0}} {B = GoodsHead} (part_fits p.start.merchant w.head p.held x part) (λ u. Ok x) h b.2 in
    subst (λ (y : GoodsHead). Fits p w y part) (value_is x h c.2)
    (record { number = eqb-true x.transaction p.start.transaction (passes (x.transaction == p.start.transaction) (reason.Field 1) b.0 b.1); fits = c.1 })

-- the tests of a part, one by one
pub record Tests (merchant : PartyId) (held : Option GoodsHead) (sealed : List ℕ) (h : GoodsHead) (part : List ℕ) : Type 0 where
  pub merchant_is : (h.epoid.merchant.0 == merchant.0) ≡ true
  pub identifier : agrees (λ k. is_same_epoid h.epoid k.epoid) held ≡ true
  pub place : h.place ≡ length sealed
  pub most : h.total ≤ 67108896
  pub total : agrees (λ k. h.total == k.total) held ≡ true
  pub within : h.place ≤ h.total
  pub long : length part ≡ min 1000000 (h.total - h.place)

pub tests_are : (merchant : PartyId) (held : Option GoodsHead) (sealed : List ℕ) (h : GoodsHead) (part : List ℕ) → part_fits merchant held sealed h part ≡ Ok tt → Tests merchant held sealed h part
unfolding part_fits
tests_are merchant held sealed h part e =
    let a = bind_found (field 2 (h.epoid.merchant.0 == merchant.0 && agrees (λ k. is_same_epoid h.epoid k.epoid) held)) _ tt e in
    let two = both (h.epoid.merchant.0 == merchant.0) (agrees (λ k. is_same_epoid h.epoid k.epoid) held) (passes _ (reason.Field 2) a.0 a.1) in
    let b = bind_found (field 3 (h.place == length sealed && nat_le h.total 67108896 && agrees (λ k. h.total == k.total) held && nat_le h.place h.total && length part == min 1000000 (h.total - h.place))) _ tt a.2 in
    let five = both (h.place == length sealed && nat_le h.total 67108896 && agrees (λ k. h.total == k.total) held && nat_le h.place h.total) (length part == min 1000000 (h.total - h.place)) (passes _ (reason.Field 3) b.0 b.1) in
    let four = both (h.place == length sealed && nat_le h.total 67108896 && agrees (λ k. h.total == k.total) held) (nat_le h.place h.total) five.0 in
    let three = both (h.place == length sealed && nat_le h.total 67108896) (agrees (λ k. h.total == k.total) held) four.0 in
    let front = both (h.place == length sealed) (nat_le h.total 67108896) three.0 in
    record {
      merchant_is = two.0;
      identifier = two.1;
      place = eqb-true h.place (length sealed) front.0;
      most = leb-true h.total 67108896 front.1;
      total = three.1;
      within = leb-true h.place h.total four.1;
      long = eqb-true (length part) (min 1000000 (h.total - h.place)) five.1;
    }

-- the part of a head is the rest of what is held
rest_is : (held : Option GoodsHead) (sealed : List ℕ) (o : Order) (h : GoodsHead) (part : List ℕ) (merchant : PartyId) → o.epoid ≡ h.epoid → Tests merchant held sealed h part
    → ¬ (h.place + length part < h.total) → is_rest held sealed o part ≡ true
rest_is None sealed o h part merchant same t last = refl
rest_is (Some k) sealed o h part merchant same t last =
    let total : h.total ≡ k.total = eqb-true h.total k.total t.total in
    let long : length part ≡ k.total - length sealed = omega (arith, total, t.place, t.within, t.long, last) in
    and_true (is_same_epoid o.epoid k.epoid) (length part == k.total - length sealed) (rw same t.identifier) (eq-eqb (length part) (k.total - length sealed) long)

ordered_allowed : (b : Buyer) (p : Purchase) (w : Wanting) (h : GoodsHead) (part : List ℕ) → Fits p w h part → ¬ (h.place + length part < h.total)
    → bytes_eq (sha256 (p.held ++ part)) h.checksum ≡ true → order_follows b.wallet p (order_made b p w h) part w ≡ true
ordered_allowed b p w h part f last same =
    let o : Order = order_made b p w h in
    let t = tests_are p.start.merchant w.head p.held h part f.fits in
    let checksum : bytes_eq o.checksum (sha256 (p.held ++ part)) ≡ true = same_bytes o.checksum (sha256 (p.held ++ part)) (sym ((bytes_eq-Decides (sha256 (p.held ++ part)) h.checksum).0 same)) in
    let short : is_short p.held part ≡ true = le-leb (length p.held + length part) 67108896 (omega (arith, t.place, t.within, t.long, t.most)) in
    let names : order_names b.wallet p w.price o (p.held ++ part) ≡ true =
    rw (same_number b.wallet.id.0, same_number p.start.merchant.0, same_number p.start.product, same_number w.price.0, same_bytes o.request o.request refl, checksum) t.merchant_is in
    and_true (order_names b.wallet p w.price o (p.held ++ part) && is_rest w.head p.held o part) (is_short p.held part)
    (and_true (order_names b.wallet p w.price o (p.held ++ part)) (is_rest w.head p.held o part) names (rest_is w.head p.held o h part p.start.merchant refl t last)) short

came_so : (b : Buyer) (transaction : ℕ) (p : Purchase) (w : Wanting) (h : GoodsHead) (part : List ℕ) → purchase_of b transaction ≡ Some p → wanting_in p.stage ≡ Some w → Fits p w h part
    → RowSo b (goods_came b transaction p w h part)
came_so b transaction p w h part known wanted f = by_place (nat_lt (h.place + length part) h.total) refl
  where
    same : h.transaction ≡ transaction
    same = f.number ∙ found_number b transaction p known

    wrong : (head : Option GoodsHead) → w.head ≡ head → RowSo b (goods_wrong transaction p w head)
    wrong None is = tt
    wrong (Some k) is = (
      holds_known (purchase_of b transaction) p (λ q. holds_at (wanting_in q.stage) (λ v. is_some v.head)) known
          (holds_there (wanting_in p.stage) w (λ v. is_some v.head) wanted (ap is_some is)),
      tt,
    )

    by_sum : (last : ¬ (h.place + length part < h.total)) (test : Bool) → bytes_eq (sha256 (p.held ++ part)) h.checksum ≡ test
        → RowSo b (cond test (Ok (goods_ordered b transaction p w h part)) (goods_wrong transaction p w w.head))
    by_sum last true is = (
      holds_known (purchase_of b transaction) p (λ q. holds_at (wanting_in q.stage) (order_follows b.wallet q (order_made b p w h) part)) known
          (holds_there (wanting_in p.stage) w (order_follows b.wallet p (order_made b p w h) part) wanted (ordered_allowed b p w h part f last is)),
      record {
        purchase = p;
        wanting = w;
        known = known;
        wanted = wanted;
        names = record { consumer = refl; merchant = refl; product = refl };
        price = refl;
        checksum = checksum_is_spelled (order_made b p w h) (ap length (sym ((bytes_eq-Decides (sha256 (p.held ++ part)) h.checksum).0 is)) ∙ length-sha256 (p.held ++ part))
            ∙ sym ((bytes_eq-Decides (sha256 (p.held ++ part)) h.checksum).0 is);
        message = refl;
      },
    )
    by_sum last false is = wrong w.head refl

    by_place : (test : Bool) → nat_lt (h.place + length part) h.total ≡ test
        → RowSo b (cond test (Ok (part_kept p w h part)) (cond (bytes_eq (sha256 (p.held ++ part)) h.checksum) (Ok (goods_ordered b transaction p w h part)) (goods_wrong transaction p w w.head)))
    by_place true is = (
      holds_known (purchase_of b h.transaction) p (λ q. holds_at (wanting_in q.stage) (part_follows q h part)) (ap (purchase_of b) same ∙ known)
          (holds_there (wanting_in p.stage) w (part_follows p h part) wanted
          (and_true (is_ok (part_fits p.start.merchant w.head p.held h part)) (nat_lt (h.place + length part) h.total) (ap is_ok f.fits) is)),
      tt,
    )
    by_place false is = by_sum (λ less. absurd (omega (arith, less, ltb-false (h.place + length part) h.total is))) (bytes_eq (sha256 (p.held ++ part)) h.checksum) refl

delivered_so : (b : Buyer) (transaction : ℕ) (head part : List ℕ) → RowSo b (delivered b transaction head part)
unfolding delivered
delivered_so b transaction head part =
    row_so b (found reason.Unknown (purchase_of b transaction)) _ (λ p known.
    row_so b (found reason.State (wanting_in p.stage)) _ (λ w wanted.
    row_so b (head_told p w head part) _ (λ h told.
    came_so b transaction p w h part (found_some reason.Unknown (purchase_of b transaction) p known) (found_some reason.State (wanting_in p.stage) w wanted) (head_is p w head part h told))))

-- ---- all messages

heard_so : (b : Buyer) (m : Message) → RowSo b (heard b m)
heard_so b (message.Grant sealed) = granted_so b sealed
heard_so b (message.Quote transaction sealed) = quoted_so b transaction sealed
heard_so b (message.Goods transaction head part) = delivered_so b transaction head part
heard_so b (message.Passed transaction part) = passed_so b transaction part
heard_so b (message.Status sealed) = status_so b sealed
heard_so b (message.Refusal refusal) = tt
heard_so b (message.PriceAsk ticket sealed) = tt
heard_so b (message.GoodsAsk ticket sealed) = tt
heard_so b (message.Order ticket sealed) = tt
heard_so b (message.Endorsed merchant sealed) = tt
heard_so b (message.Result merchant consumer) = tt
heard_so b (message.StatusAsk query) = tt
heard_so b (message.TicketAsk ask) = tt
heard_so b (message.Enrol enrolment) = tt
heard_so b (message.Fund funding) = tt
heard_so b (message.Done acct at balance) = tt

pub rows_are_so : RowsAreSo
rows_are_so b = (started_so b, heard_so b, silent_so b)

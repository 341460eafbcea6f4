-- What is sent with an item is what is said again behind it, and how an end is told afterwards.
use Rattle.std.proofs.Common.{◌≡◌, ℕ, zero, suc, ◌+◌, ◌-◌, ◌≤◌, Bool, true, false, cond, List, [], ◌∷◌, ◌++◌, map, set, length, Option, Some, None, Ok, Err, Result, refl, sym, ap, subst, ◌∙◌, arith, length-append}
use Rattle.std.specs.Prelude.{slice_get, position, nat_eq, nat_lt, not, is_none, codes, ◌==◌, IfOk}
use Rattle.std.specs.List.{position_or_len, prefix_len}
use Rattle.std.specs.Str.{bytes_eq}
use Rattle.std.proofs.lemmas.Bool.{eqb-true, eq-eqb, lt-ltb, ltb-false, le-leb}
use Rattle.std.proofs.lemmas.Result.{IfOk-weaker}
use Rattle.sha2.specs.Sha256.{sha256}
use Rattle.nb_units.specs.Fields.{◌>>=◌}
use Rattle.nb_seal.specs.Seal.{text_in}
use Rattle.nb_seal.proofs.Opening.{text_in_opens, length-seal_of}
use Rattle.nb_body.specs.declared.goods_head.GoodsHead.{GoodsHead}
use Rattle.nb_endorse.specs.declared.receipt.Receipt.{Receipt}
use Rattle.nb_endorse.specs.declared.receipt.Signed.{Signed}
use Rattle.nb_endorse.specs.Reading.{signed_of}
use Rattle.nb_goods.specs.Goods.{OpensTo, OpensToNothing}
use Rattle.nb_msgs.specs.declared.message.Message.{Message}
use Rattle.nb_msgs.specs.declared.message.Message.TheVariants as message
use Rattle.nb_body.specs.declared.end.End.TheVariants as end
use Rattle.nb_msgs.specs.declared.node.Reason.{Reason}
use Rattle.nb_msgs.specs.declared.node.Reason.TheVariants as reason
use Rattle.nb_msgs.specs.declared.node.To.TheVariants as to
use Rattle.nb_msgs.specs.declared.status.StatusText.{StatusText}
use Rattle.nb_msgs.specs.StatusText.{text_of}
use Rattle.nb_ticket.specs.declared.granted.Granted.{Granted}
use Rattle.nb_ticket.specs.Reading.{granted_of}
use Rattle.nb_units.specs.declared.ids.Price.{Price}
use Rattle.nb_units.specs.declared.memory.NoMemory.{NoMemory}
use Rattle.nb_wallet.specs.declared.wallet.Start.{Start}
use Rattle.nb_wallet.specs.declared.item.Item.TheVariants as item
use Rattle.nb_wallet.specs.declared.item.SessionTicket.{SessionTicket}
use Rattle.nb_wallet.specs.declared.purchase.Stage.{Stage}
use Rattle.nb_wallet.specs.declared.purchase.Stage.TheVariants as stage
use Rattle.nb_wallet.specs.Purchases.{Purchase}
use Rattle.nb_asking.specs.Messages.{goods_request}
use Rattle.nb_wallet.specs.Stages.{wanted_from, with_head, ordered_from, stage_ended, stage_with, stage_opened, end_of, end_with, end_opened}
use Rattle.nb_msgs.specs.Tests.{unless, field, found, opened}
use Rattle.nb_consumer.specs.declared.deed.Deed.{Deed}
use Rattle.nb_consumer.specs.declared.deed.Deed.TheVariants as deed
use Rattle.nb_consumer.specs.declared.phase.Phase.{Phase}
use Rattle.nb_consumer.specs.declared.phase.Phase.TheVariants as phase
use Rattle.nb_consumer.specs.declared.rows.Wanting.{Wanting}
use Rattle.nb_consumer.specs.declared.rows.Owing.{Owing}
use Rattle.nb_consumer.specs.Goods.{phase_of, phase_in, goods_of, goods_in, phase_at, goods_at, AreGoodsAt, TellsGoods}
use Rattle.nb_consumer.specs.State.{Buyer, number_of, place_of, purchase_at, purchase_of, ordered_with, epoid_bytes, changed, changed_at, changed_with, behind_item, fresh, remembered}
use Rattle.nb_consumer.specs.Table.{started, granted, quoted, price_quoted, pass_of, is_ticketing, pass_of_asked, delivered, head_told, goods_came, goods_wrong, goods_ordered, part_kept, order_made, wanting_in, owing_in, passed, told_status, status_told, receipt_told, receipt_fits, silent, unheard, heard}
use Rattle.nb_units.specs.Epoid.{is_same_epoid}
use Rattle.nb_consumer.specs.Restart.{is_rest, is_short, HasKept}
use Rattle.nb_epo.specs.declared.order.Order.{Order}
use Rattle.nb_consumer.specs.Known.{HeldSo, AllSo}
use Rattle.nb_consumer.specs.Runs.{Starts, Hears, Waits}
use Rattle.nb_consumer.specs.Laws.{RowSaysAgain, SaysAgain, EndIsTold, EndsAre, PaidHasGoods, RestIsShort}
use Rattle.nb_consumer.proofs.Purchases.{no_some, found_some, found_number, numbers_set}
use Rattle.nb_consumer.proofs.Keeping.{Fits, head_is, tests_are, both}
use Rattle.nb_consumer.proofs.Knowing.{wanting_is, so_of, known_is_so}

-- ---- the purchase of a number, behind a change of it

get_set : (ps : List Purchase) (i : ℕ) (p q : Purchase) → slice_get ps i ≡ Some p → slice_get (set ps i q) i ≡ Some q
get_set [] i p q e = no_some p e
get_set (r ∷ ps) zero p q e = refl
get_set (r ∷ ps) (suc i) p q e = get_set ps i p q e

pub found_behind : (b : Buyer) (t : ℕ) (p : Purchase) (f : Purchase → Purchase) → purchase_of b t ≡ Some p → number_of (f p) ≡ number_of p
    → purchase_at (changed b.purchases t f) (place_of (changed b.purchases t f) t) ≡ Some (f p)
found_behind b t p f known same = by (place_of b.purchases t) refl
  where
    by : (o : Option ℕ) → place_of b.purchases t ≡ o → purchase_at (changed_at b.purchases o f) (place_of (changed_at b.purchases o f) t) ≡ Some (f p)
    by None e = no_some p (sym (ap (purchase_at b.purchases) e) ∙ known)
    by (Some i) e =
        let got : slice_get b.purchases i ≡ Some p = sym (ap (purchase_at b.purchases) e) ∙ known in
        let place : place_of (set b.purchases i (f p)) t ≡ Some i = ap (position (nat_eq t)) (numbers_set b.purchases i p (f p) got same) ∙ e in
        subst (λ (qs : List Purchase). purchase_at qs (place_of qs t) ≡ Some (f p)) (sym (ap (changed_with b.purchases i f) got))
        (ap (purchase_at (set b.purchases i (f p))) place ∙ get_set b.purchases i p (f p) got)

-- a purchase that was started behind those of other numbers is found
abbrev misses : ℕ → ℕ → Bool
misses t n = not (nat_eq t n)

last_place : (t : ℕ) (ns : List ℕ) → length ns ≤ prefix_len (misses t) ns → prefix_len (misses t) (ns ++ t ∷ []) ≡ length ns
last_place t [] h = ap (λ (b : Bool). cond (not b) (1 + 0) 0) (eq-eqb t t refl)
last_place t (n ∷ ns) h = by (last_place t ns) (misses t n) refl h
  where
    by : (length ns ≤ prefix_len (misses t) ns → prefix_len (misses t) (ns ++ t ∷ []) ≡ length ns) → (b : Bool) → misses t n ≡ b
        → suc (length ns) ≤ cond (misses t n) (1 + prefix_len (misses t) ns) 0 → cond (misses t n) (1 + prefix_len (misses t) (ns ++ t ∷ [])) 0 ≡ suc (length ns)
    by rest true is h =
        let short : suc (length ns) ≤ 1 + prefix_len (misses t) ns = subst (λ (b : Bool). suc (length ns) ≤ cond b (1 + prefix_len (misses t) ns) 0) is h in
        let next : prefix_len (misses t) (ns ++ t ∷ []) ≡ length ns = rest (omega (arith, short)) in
        let last : 1 + prefix_len (misses t) (ns ++ t ∷ []) ≡ suc (length ns) = omega (arith, next) in
        ap (λ (b : Bool). cond b (1 + prefix_len (misses t) (ns ++ t ∷ [])) 0) is ∙ last
    by rest false is h = absurd (omega (arith, subst (λ (b : Bool). suc (length ns) ≤ cond b (1 + prefix_len (misses t) ns) 0) is h))

last_get : (ps : List Purchase) (q : Purchase) → slice_get (ps ++ q ∷ []) (length (map number_of ps)) ≡ Some q
last_get [] q = refl
last_get (p ∷ ps) q = last_get ps q

numbers_push : (ps : List Purchase) (q : Purchase) → map number_of (ps ++ q ∷ []) ≡ map number_of ps ++ number_of q ∷ []
numbers_push [] q = refl
numbers_push (p ∷ ps) q = ap (λ (ns : List ℕ). number_of p ∷ ns) (numbers_push ps q)

pub found_started : (ps : List Purchase) (q : Purchase) → place_of ps (number_of q) ≡ None → purchase_at (ps ++ q ∷ []) (place_of (ps ++ q ∷ []) (number_of q)) ≡ Some q
found_started ps q none =
    let t : ℕ = number_of q in
    let ns : List ℕ = map number_of ps in
    let long : length ns ≤ prefix_len (misses t) ns = ltb-false (position_or_len (nat_eq t) ns) (length ns) (by (nat_lt (position_or_len (nat_eq t) ns) (length ns)) (position_or_len (nat_eq t) ns) none) in
    let at : prefix_len (misses t) (ns ++ t ∷ []) ≡ length ns = last_place t ns long in
    let within : nat_lt (prefix_len (misses t) (ns ++ t ∷ [])) (length (ns ++ t ∷ [])) ≡ true =
    lt-ltb (prefix_len (misses t) (ns ++ t ∷ [])) (length (ns ++ t ∷ [])) (omega (arith, at, length-append ns (t ∷ []))) in
    let place : place_of (ps ++ q ∷ []) t ≡ Some (length ns) =
    ap (position (nat_eq t)) (numbers_push ps q)
    ∙ ap (λ (b : Bool). cond b (Some (prefix_len (misses t) (ns ++ t ∷ []))) None) within ∙ ap Some at in
    ap (purchase_at (ps ++ q ∷ [])) place ∙ last_get ps q
  where
    by : (b : Bool) (n : ℕ) → cond b (Some n) None ≡ None → b ≡ false
    by true n e = no_some n (sym e)
    by false n e = refl

-- ---- what is said again

pub silent_is : (b : Buyer) (t : ℕ) (p : Purchase) → purchase_of b t ≡ Some p → silent b t ≡ unheard b.wallet p p.stage
unfolding silent
silent_is b t p known = ap (λ (o : Option Purchase). found reason.Unknown o >>= λ q. unheard b.wallet q q.stage) known

again_row : {A : Type 0} (b : Buyer) (r : Result A Reason) (next : A → Result Deed Reason) → ((x : A) → r ≡ Ok x → RowSaysAgain b (next x)) → RowSaysAgain b (r >>= next)
again_row b (Ok x) next each = each x refl
again_row b (Err why) next each = tt

passes : (test : Bool) (why : Reason) (u : Unit {0}) → unless test why ≡ Ok u → test ≡ true
passes true why u e = refl
passes false why u e = absurd cc

none_is : (o : Option ℕ) → is_none o ≡ true → o ≡ None
none_is None e = refl
none_is (Some n) e = absurd cc

started_again : (b : Buyer) (s : Start) → RowSaysAgain b (started b s)
unfolding started
started_again b s = again_row b (unless (is_none (place_of b.purchases s.transaction)) reason.State) _ (λ u is.
    silent_is (remembered b (item.Started s)) s.transaction (fresh s)
    (found_started b.purchases (fresh s) (none_is (place_of b.purchases s.transaction) (passes (is_none (place_of b.purchases s.transaction)) reason.State u is))))

granted_again : (b : Buyer) (sealed : List ℕ) → RowSaysAgain b (granted b sealed)
unfolding granted
granted_again b sealed =
    again_row {A = Granted} b (opened granted_of b.wallet.key (codes "gran") sealed) _ (λ g first.
    again_row {A = Purchase} b (found reason.Unknown (purchase_of b g.nonce)) _ (λ p known.
    again_row {A = Unit {0}} b (unless (is_ticketing p.stage) reason.State) _ (λ u waits.
    again_row {A = Unit {0}} b (field 1 (g.merchant.0 == p.start.merchant.0)) _ (λ v merchant.
    silent_is (remembered b (item.Granted g.nonce (pass_of g))) g.nonce (behind_item (item.Granted g.nonce (pass_of g)) p)
    (found_behind b g.nonce p (behind_item (item.Granted g.nonce (pass_of g))) (found_some reason.Unknown (purchase_of b g.nonce) p known) refl)))))

asked_is : (s : Stage) (pass : SessionTicket) → pass_of_asked s ≡ Some pass → s ≡ stage.Asked pass
asked_is stage.Ticketing pass e = absurd cc
asked_is (stage.Asked old) pass e = cc
asked_is (stage.Wanted old price head) pass e = absurd cc
asked_is (stage.Ordered old order least) pass e = absurd cc
asked_is (stage.Paid key) pass e = absurd cc
asked_is (stage.Refused code) pass e = absurd cc
asked_is stage.Foul pass e = absurd cc

-- the last part is the rest of what is held
rest_short : (head : Option GoodsHead) (pass : SessionTicket) (price : Price) (held : List ℕ) (o : Order) (part : List ℕ) → HeldSo (stage.Wanted pass price head) held
    → is_rest head held o part ≡ true → length part ≤ 1000000 → is_short held part ≡ true
rest_short None pass price held o part so rest long = le-leb (length held + length part) 67108896 (omega (arith, ap length so, long))
rest_short (Some k) pass price held o part so rest long =
    let same : length part ≡ k.total - length held = eqb-true (length part) (k.total - length held) (both (is_same_epoid o.epoid k.epoid) (length part == k.total - length held) rest).1 in
    le-leb (length held + length part) 67108896 (omega (arith, same, so.1, so.2))

pub rest_is_short : RestIsShort
rest_is_short items b t p v o part kept known wanted rest long =
    rest_short v.head v.pass v.price p.held o part (subst (λ (s : Stage). HeldSo s p.held) (wanting_is p.stage v wanted) (so_of b t p (known_is_so items b kept) known).0) rest long

-- goods are asked for from the place where what is held ends
asks_again : (c : Buyer) (t : ℕ) (p q : Purchase) (pass : SessionTicket) (price : Price) (head : Option GoodsHead) (n : ℕ) → purchase_of c t ≡ Some q
    → q.start ≡ p.start → q.stage ≡ stage.Wanted pass price head → length q.held ≡ n → silent c t ≡ Ok (deed.Sends (to.Merchant p.start.merchant) (goods_request pass p.start n))
asks_again c t p q pass price head n known start at long =
    silent_is c t q known ∙ ap (unheard c.wallet q) at
    ∙ ap (λ (s : Start). let x : Result Deed Reason = Ok (deed.Sends (to.Merchant s.merchant) (goods_request pass s (length q.held))) in x) start
    ∙ ap (λ (m : ℕ). let x : Result Deed Reason = Ok (deed.Sends (to.Merchant p.start.merchant) (goods_request pass p.start m)) in x) long

quoted_again : (b : Buyer) (t : ℕ) (sealed : List ℕ) → AllSo b → RowSaysAgain b (quoted b t sealed)
unfolding quoted
quoted_again b t sealed all =
    again_row b (found reason.Unknown (purchase_of b t)) _ (λ p first.
    again_row b (found reason.State (pass_of_asked p.stage)) _ (λ pass second.
    again_row b (price_quoted p.start pass sealed) _ (λ price is.
    let known : purchase_of b t ≡ Some p = found_some reason.Unknown (purchase_of b t) p first in
    let at : p.stage ≡ stage.Asked pass = asked_is p.stage pass (found_some reason.State (pass_of_asked p.stage) pass second) in
    let none : p.held ≡ [] = subst (λ (s : Stage). HeldSo s p.held) at (so_of b t p all known).0 in
    asks_again (remembered b (item.Wanted t price)) t p (behind_item (item.Wanted t price) p) pass price None 0
    (found_behind b t p (behind_item (item.Wanted t price)) known refl) refl (ap (λ (s : Stage). wanted_from s price) at) (ap length none))))

came_again : (b : Buyer) (t : ℕ) (p : Purchase) (w : Wanting) (h : GoodsHead) (part : List ℕ) → purchase_of b t ≡ Some p → wanting_in p.stage ≡ Some w → Fits p w h part
    → RowSaysAgain b (goods_came b t p w h part)
came_again b t p w h part known wanted f = by_place (nat_lt (h.place + length part) h.total)
  where
    at : p.stage ≡ stage.Wanted w.pass w.price w.head
    at = wanting_is p.stage w wanted

    same : h.transaction ≡ t
    same = f.number ∙ found_number b t p known

    wrong : (head : Option GoodsHead) → RowSaysAgain b (goods_wrong t p w head)
    wrong None = tt
    wrong (Some k) =
        asks_again (remembered b (item.Forgotten t)) t p (behind_item (item.Forgotten t) p) w.pass w.price None 0
        (found_behind b t p (behind_item (item.Forgotten t)) known refl) refl (ap (λ (s : Stage). with_head s None) at) refl

    by_sum : (test : Bool) → RowSaysAgain b (cond test (Ok (goods_ordered b t p w h part)) (goods_wrong t p w w.head))
    by_sum true =
        let o = order_made b p w h in
        record {
          purchase = behind_item (item.Ordered t o part) p;
          owing = record { pass = w.pass; order = o; least = 0 };
          known = found_behind b t p (behind_item (item.Ordered t o part)) known refl;
          ordered = ap (λ (s : Stage). owing_in (ordered_from s o)) at;
          again = λ place. refl;
        }
    by_sum false = wrong w.head

    by_place : (test : Bool)
        → RowSaysAgain b (cond test (Ok (part_kept p w h part)) (cond (bytes_eq (sha256 (p.held ++ part)) h.checksum) (Ok (goods_ordered b t p w h part)) (goods_wrong t p w w.head)))
    by_place true =
        let tests = tests_are p.start.merchant w.head p.held h part f.fits in
        let held : length (p.held ++ part) ≡ h.place + length part = omega (arith, length-append p.held part, tests.place) in
        asks_again (remembered b (item.Part h part)) h.transaction p (behind_item (item.Part h part) p) w.pass w.price (Some h) (h.place + length part)
        (found_behind b h.transaction p (behind_item (item.Part h part)) (ap (purchase_of b) same ∙ known) refl) refl (ap (λ (s : Stage). with_head s (Some h)) at) held
    by_place false = by_sum (bytes_eq (sha256 (p.held ++ part)) h.checksum)

delivered_again : (b : Buyer) (t : ℕ) (head part : List ℕ) → RowSaysAgain b (delivered b t head part)
unfolding delivered
delivered_again b t head part =
    again_row b (found reason.Unknown (purchase_of b t)) _ (λ p known.
    again_row b (found reason.State (wanting_in p.stage)) _ (λ w wanted.
    again_row b (head_told p w head part) _ (λ h told.
    came_again b t p w h part (found_some reason.Unknown (purchase_of b t) p known) (found_some reason.State (wanting_in p.stage) w wanted) (head_is p w head part h told))))

receipt_again : (b : Buyer) (t : ℕ) (p : Purchase) (o : Owing) (s : Signed) → RowSaysAgain b (receipt_told t p o s)
unfolding receipt_told
receipt_again b t p o s = again_row b (receipt_fits o.order s.receipt) _ (λ u fits. tt)

passed_again : (b : Buyer) (t : ℕ) (part : List ℕ) → RowSaysAgain b (passed b t part)
unfolding passed
passed_again b t part =
    again_row b (found reason.Unknown (purchase_of b t)) _ (λ p known.
    again_row b (found reason.State (owing_in p.stage)) _ (λ o ordered.
    again_row {A = Signed} b (opened signed_of b.wallet.key (codes "rcpt") part) _ (λ s opens. receipt_again b t p o s)))

told_again : (b : Buyer) (t : ℕ) (p : Purchase) (o : Owing) (place : ℕ) (told : Option Signed) → RowSaysAgain b (status_told t p o place told)
told_again b t p o place (Some s) = receipt_again b t p o s
told_again b t p o place None = tt

status_again : (b : Buyer) (sealed : List ℕ) → RowSaysAgain b (told_status b sealed)
unfolding told_status
status_again b sealed =
    again_row {A = StatusText} b (opened text_of b.wallet.key (codes "stat") sealed) _ (λ x opens.
    again_row {A = ℕ} b (found reason.Unknown (ordered_with b.orders (epoid_bytes x.epoid))) _ (λ t first.
    again_row b (found reason.Unknown (purchase_of b t)) _ (λ p known.
    again_row b (found reason.State (owing_in p.stage)) _ (λ o ordered. told_again b t p o x.place x.receipt))))

unheard_again : (b : Buyer) (p : Purchase) (s : Stage) → RowSaysAgain b (unheard b.wallet p s)
unheard_again b p stage.Ticketing = tt
unheard_again b p (stage.Asked pass) = tt
unheard_again b p (stage.Wanted pass price head) = tt
unheard_again b p (stage.Ordered pass order least) = tt
unheard_again b p (stage.Paid key) = tt
unheard_again b p (stage.Refused code) = tt
unheard_again b p stage.Foul = tt

silent_again : (b : Buyer) (t : ℕ) → RowSaysAgain b (silent b t)
unfolding silent
silent_again b t = again_row b (found reason.Unknown (purchase_of b t)) _ (λ p known. unheard_again b p p.stage)

heard_again : (b : Buyer) (m : Message) → AllSo b → RowSaysAgain b (heard b m)
heard_again b (message.Grant sealed) all = granted_again b sealed
heard_again b (message.Quote t sealed) all = quoted_again b t sealed all
heard_again b (message.Goods t head part) all = delivered_again b t head part
heard_again b (message.Passed t part) all = passed_again b t part
heard_again b (message.Status sealed) all = status_again b sealed
heard_again b (message.Refusal refusal) all = tt
heard_again b (message.PriceAsk ticket sealed) all = tt
heard_again b (message.GoodsAsk ticket sealed) all = tt
heard_again b (message.Order ticket sealed) all = tt
heard_again b (message.Endorsed merchant sealed) all = tt
heard_again b (message.Result merchant consumer) all = tt
heard_again b (message.StatusAsk query) all = tt
heard_again b (message.TicketAsk ask) all = tt
heard_again b (message.Enrol enrolment) all = tt
heard_again b (message.Fund funding) all = tt
heard_again b (message.Done acct at balance) all = tt

pub says_again : SaysAgain
says_again items b (Starts start) kept = started_again b start
says_again items b (Hears message) kept = heard_again b message (known_is_so items b kept)
says_again items b (Waits t) kept = silent_again b t

-- ---- how an end is told

key_opens : (key sealed goods : List ℕ) → OpensTo key sealed goods → text_in key (codes "good") sealed ≡ Some goods
key_opens key sealed goods opens = (text_in_opens key (codes "good") sealed goods).1 opens

refused_is : (r : Receipt) (sealed : List ℕ) → ¬ (r.code ≡ 0) → end_of r sealed ≡ end.Refused r.code
refused_is r sealed differs = by (r.code == 0) refl
  where
    by : (test : Bool) → (r.code == 0) ≡ test → cond test (end_with r.key sealed) (end.Refused r.code) ≡ end.Refused r.code
    by true is = absurd (differs (eqb-true r.code 0 is))
    by false is = refl

with_key : (r : Receipt) (sealed key : List ℕ) → r.code ≡ 0 → r.key ≡ Some key → end_of r sealed ≡ end_opened (text_in key (codes "good") sealed)
with_key r sealed key code is =
    ap (λ (test : Bool). cond test (end_with r.key sealed) (end.Refused r.code)) (eq-eqb r.code 0 code) ∙ ap (λ (o : Option (List ℕ)). end_with o sealed) is

paid_is : (r : Receipt) (sealed key goods : List ℕ) → r.code ≡ 0 → r.key ≡ Some key → OpensTo key sealed goods → end_of r sealed ≡ end.Paid goods
paid_is r sealed key goods code is opens = with_key r sealed key code is ∙ ap end_opened (key_opens key sealed goods opens)

foul_is : (r : Receipt) (sealed key : List ℕ) → r.code ≡ 0 → r.key ≡ Some key → OpensToNothing key sealed → end_of r sealed ≡ end.Foul
foul_is r sealed key code is none = with_key r sealed key code is ∙ by (text_in key (codes "good") sealed) refl
  where
    by : (o : Option (List ℕ)) → text_in key (codes "good") sealed ≡ o → end_opened o ≡ end.Foul
    by (Some goods) e = absurd (none goods ((text_in_opens key (codes "good") sealed goods).0 e))
    by None e = refl

pub ends_are : EndsAre
ends_are r sealed = (refused_is r sealed, paid_is r sealed, foul_is r sealed)

-- the goods have 32 bytes less than what they were sealed to
paid_long : (key sealed goods : List ℕ) → text_in key (codes "good") sealed ≡ Some goods → length sealed - 32 ≡ length goods
paid_long key sealed goods e =
    let opens : OpensTo key sealed goods = (text_in_opens key (codes "good") sealed goods).0 e in
    omega (arith, ap length opens, length-seal_of key (codes "good") goods)

-- the stage behind a receipt tells the end
pub stage_tells : (r : Receipt) (held : List ℕ) → (phase_of (stage_ended r held) held ≡ phase_at (end_of r held)) × (goods_of (stage_ended r held) held ≡ goods_at (end_of r held))
stage_tells r held = by_code (r.code == 0)
  where
    by_text : (key : List ℕ) (o : Option (List ℕ)) → text_in key (codes "good") held ≡ o
        → (phase_of (stage_opened key o) held ≡ phase_at (end_opened o)) × (goods_of (stage_opened key o) held ≡ goods_at (end_opened o))
    by_text key (Some goods) e = (ap phase.Paid (paid_long key held goods e), e)
    by_text key None e = (refl, refl)

    by_key : (o : Option (List ℕ)) → (phase_of (stage_with o held) held ≡ phase_at (end_with o held)) × (goods_of (stage_with o held) held ≡ goods_at (end_with o held))
    by_key (Some key) = by_text key (text_in key (codes "good") held) refl
    by_key None = (refl, refl)

    by_code : (test : Bool) → (phase_of (cond test (stage_with r.key held) (stage.Refused r.code)) held ≡ phase_at (cond test (end_with r.key held) (end.Refused r.code)))
        × (goods_of (cond test (stage_with r.key held) (stage.Refused r.code)) held ≡ goods_at (cond test (end_with r.key held) (end.Refused r.code)))
    by_code true = by_key r.key
    by_code false = (refl, refl)

pub end_is_told : EndIsTold
end_is_told b t s how so =
    let f : Purchase → Purchase = behind_item (item.Ended t s) in
    let known = found_behind b t so.purchase f so.known refl in
    let tells = stage_tells s.receipt so.purchase.held in (
      ap phase_in known ∙ ap Some (tells.0 ∙ sym (ap phase_at so.end)),
      ap goods_in known ∙ tells.1 ∙ sym (ap goods_at so.end),
    )

-- a purchase that is paid has its goods
paid_has : (s : Stage) (held : List ℕ) (n : ℕ) → HeldSo s held → phase_of s held ≡ phase.Paid n → (goods : List ℕ) × (goods_of s held ≡ Some goods) × (length goods ≡ n)
paid_has stage.Ticketing held n so e = absurd cc
paid_has (stage.Asked pass) held n so e = absurd cc
paid_has (stage.Wanted pass price head) held n so e = absurd cc
paid_has (stage.Ordered pass order least) held n so e = absurd cc
paid_has (stage.Paid key) held n so e = (so.0, key_opens key held so.0 so.1, sym (paid_long key held so.0 (key_opens key held so.0 so.1)) ∙ number e)
  where
    number : phase.Paid (length held - 32) ≡ phase.Paid n → length held - 32 ≡ n
    number e = cc
paid_has (stage.Refused code) held n so e = absurd cc
paid_has stage.Foul held n so e = absurd cc

has_paid : (s : Stage) (held goods : List ℕ) → goods_of s held ≡ Some goods → phase_of s held ≡ phase.Paid (length goods)
has_paid stage.Ticketing held goods e = no_some goods e
has_paid (stage.Asked pass) held goods e = no_some goods e
has_paid (stage.Wanted pass price head) held goods e = no_some goods e
has_paid (stage.Ordered pass order least) held goods e = no_some goods e
has_paid (stage.Paid key) held goods e = ap phase.Paid (paid_long key held goods e)
has_paid (stage.Refused code) held goods e = no_some goods e
has_paid stage.Foul held goods e = no_some goods e

pub paid_has_goods : PaidHasGoods
paid_has_goods items b t kept = by (purchase_of b t) refl
  where
    phase_is : (x y : Phase) → ◌≡◌ {A = Option Phase} (Some x) (Some y) → x ≡ y
    phase_is x y e = cc

    by : (o : Option Purchase) → purchase_of b t ≡ o
        → ((n : ℕ) → phase_in o ≡ Some (phase.Paid n) → (goods : List ℕ) × (goods_in o ≡ Some goods) × (length goods ≡ n))
        × ((goods : List ℕ) → goods_in o ≡ Some goods → phase_in o ≡ Some (phase.Paid (length goods)))
    by None e = (λ n is. no_some (phase.Paid n) is, λ goods is. no_some goods is)
    by (Some p) e = (
      λ n is. paid_has p.stage p.held n (so_of b t p (known_is_so items b kept) e).0 (phase_is (phase_of p.stage p.held) (phase.Paid n) is),
      λ goods is. ap Some (has_paid p.stage p.held goods is),
    )

-- ---- the goods that are told

goods_at_stage : (s : Stage) (held : List ℕ) → HeldSo s held → AreGoodsAt s held (goods_of s held)
goods_at_stage stage.Ticketing held so = refl
goods_at_stage (stage.Asked pass) held so = refl
goods_at_stage (stage.Wanted pass price head) held so = refl
goods_at_stage (stage.Ordered pass order least) held so = refl
goods_at_stage (stage.Paid key) held so = (so.0, key_opens key held so.0 so.1, so.1)
goods_at_stage (stage.Refused code) held so = refl
goods_at_stage stage.Foul held so = refl

tells_goods : (b : Buyer) (t : ℕ) → HasKept b → TellsGoods (purchase_of b t) (goods_in (purchase_of b t))
unfolding HasKept
tells_goods b t kept = by (purchase_of b t) refl
  where
    by : (o : Option Purchase) → purchase_of b t ≡ o → TellsGoods o (goods_in o)
    by None e = refl
    by (Some p) e = goods_at_stage p.stage p.held (so_of b t p (known_is_so kept.0 b kept.1) e).0

pub goods_told : (b : Buyer) (t : ℕ) (result : Result (Option (List ℕ)) NoMemory) → HasKept b → IfOk result (λ told. told ≡ goods_in (purchase_of b t))
    → IfOk result (TellsGoods (purchase_of b t))
goods_told b t result kept =
    IfOk-weaker result (λ told. told ≡ goods_in (purchase_of b t)) (TellsGoods (purchase_of b t)) (λ told is. subst (TellsGoods (purchase_of b t)) (sym is) (tells_goods b t kept))

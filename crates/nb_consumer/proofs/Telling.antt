-- What the items that were kept say of orders and of purchases.
use Rattle.std.proofs.Common.{◌≡◌, ℕ, ◌+◌, Bool, true, false, cond, List, [], ◌∷◌, ◌++◌, Option, Some, None, Ok, Result, refl, sym, ap, subst, ◌∙◌, append-nil, append_assoc}
use Rattle.std.specs.Prelude.{nat_eq, is_some, is_ok, flat_map, ◌&&◌}
use Rattle.std.specs.Option.{option_map}
use Rattle.std.specs.Cmp.Lexicographic.{pointwise}
use Rattle.std.specs.Map.{lookup}
use Rattle.std.proofs.lemmas.Slice.Eq.{bytes_eq-Decides}
use Rattle.nb_units.specs.declared.ids.Price.{Price}
use Rattle.nb_wallet.specs.declared.item.Item.{Item}
use Rattle.nb_wallet.specs.declared.item.Item.TheVariants as item
use Rattle.nb_wallet.specs.declared.purchase.Stage.{Stage}
use Rattle.nb_wallet.specs.declared.purchase.Stage.TheVariants as stage
use Rattle.nb_wallet.specs.Purchases.{Purchase}
use Rattle.nb_wallet.specs.Stages.{wanted_from, with_head, ordered_from}
use Rattle.nb_wallet.specs.Reading.{item_of}
use Rattle.nb_consumer.specs.declared.phase.Phase.TheVariants as phase
use Rattle.nb_consumer.specs.declared.rows.Wanting.{Wanting}
use Rattle.nb_consumer.specs.Goods.{phase_of}
use Rattle.nb_consumer.specs.State.{Buyer, new_buyer, place_of, purchase_of, ordered_with, epoid_bytes, noted, behind_item, fresh, number_in, remembered}
use Rattle.nb_consumer.specs.Table.{is_ticketing, is_price, pass_of_asked, wanting_in, owing_in, receipt_fits}
use Rattle.nb_consumer.specs.Restart.{allows, holds_at, part_follows, order_follows, restarted_from, untold_stage, untold_purchase, untold}
use Rattle.nb_consumer.specs.Laws.{order_in, FirstOrderFound, phase_behind, NoneOf, LastItemTells}
use Rattle.nb_consumer.proofs.Purchases.{no_some}
use Rattle.nb_consumer.proofs.Keeping.{both}
use Rattle.nb_consumer.proofs.Restoring.{buyer_is, same_found}
use Rattle.nb_consumer.proofs.Running.{first_item}
use Rattle.nb_consumer.proofs.Knowing.{known_for, wanted_so, split, item_is}
use Rattle.nb_consumer.proofs.Again.{found_behind, found_started, stage_tells}
use Rattle.nb_consumer.proofs.Staying.{unknown, item_other}

-- ---- orders

-- one that is found among those in front
found_front : (test : List ℕ → Bool) (orders xs ys : List (List ℕ × ℕ)) → is_some (lookup test orders) ≡ true → lookup test (orders ++ xs) ≡ lookup test (orders ++ ys)
found_front test [] xs ys e = absurd cc
found_front test (o ∷ orders) xs ys e = by (test o.0) (found_front test orders xs ys) e
  where
    by : (b : Bool) → (is_some (lookup test orders) ≡ true → lookup test (orders ++ xs) ≡ lookup test (orders ++ ys)) → is_some (cond b (Some o.1) (lookup test orders)) ≡ true
        → cond b (Some o.1) (lookup test (orders ++ xs)) ≡ cond b (Some o.1) (lookup test (orders ++ ys))
    by true rest e = refl
    by false rest e = rest e

-- one of another identifier is passed over
passed_over : (test : List ℕ → Bool) (orders rest : List (List ℕ × ℕ)) (epoid : List ℕ) (t : ℕ) → test epoid ≡ false → lookup test (orders ++ rest) ≡ lookup test (orders ++ (epoid, t) ∷ rest)
passed_over test [] rest epoid t fails = sym (ap (λ (b : Bool). cond b (Some t) (lookup test rest)) fails)
passed_over test (o ∷ orders) rest epoid t fails = ap (λ (x : Option ℕ). cond (test o.0) (Some o.1) x) (passed_over test orders rest epoid t fails)

repeated : (orders rest : List (List ℕ × ℕ)) (old : List ℕ) (t : ℕ) (epoid : List ℕ) → is_some (ordered_with orders old) ≡ true
    → ordered_with (orders ++ rest) epoid ≡ ordered_with (orders ++ (old, t) ∷ rest) epoid
repeated orders rest old t epoid known = by (pointwise nat_eq epoid old) refl
  where
    by : (b : Bool) → pointwise nat_eq epoid old ≡ b → ordered_with (orders ++ rest) epoid ≡ ordered_with (orders ++ (old, t) ∷ rest) epoid
    by true is =
        let same : epoid ≡ old = (bytes_eq-Decides epoid old).0 is in
        found_front (pointwise nat_eq epoid) orders rest ((old, t) ∷ rest) (subst (λ (e : List ℕ). is_some (ordered_with orders e) ≡ true) (sym same) known)
    by false is = passed_over (pointwise nat_eq epoid) orders rest old t is

noted_is : (orders rest : List (List ℕ × ℕ)) (old : List ℕ) (t : ℕ) (epoid : List ℕ) → ordered_with (noted orders old t ++ rest) epoid ≡ ordered_with (orders ++ (old, t) ∷ rest) epoid
noted_is orders rest old t epoid = by (is_some (ordered_with orders old)) refl
  where
    by : (b : Bool) → is_some (ordered_with orders old) ≡ b → ordered_with (cond b orders (orders ++ (old, t) ∷ []) ++ rest) epoid ≡ ordered_with (orders ++ (old, t) ∷ rest) epoid
    by true is = repeated orders rest old t epoid is
    by false is = ap (λ (os : List (List ℕ × ℕ)). ordered_with os epoid) (append_assoc orders ((old, t) ∷ []) rest)

abbrev read_order : List ℕ → List (List ℕ × ℕ)
read_order bytes = order_in (item_of bytes)

item_orders : (b : Buyer) (x : Item) (rest : List (List ℕ × ℕ)) (epoid : List ℕ) → ordered_with ((remembered b x).orders ++ rest) epoid ≡ ordered_with (b.orders ++ (order_in (Ok x) ++ rest)) epoid
item_orders b (item.Started s) rest epoid = refl
item_orders b (item.Granted t pass) rest epoid = refl
item_orders b (item.Wanted t price) rest epoid = refl
item_orders b (item.Part h part) rest epoid = refl
item_orders b (item.Forgotten t) rest epoid = refl
item_orders b (item.Ordered t o part) rest epoid = noted_is b.orders rest (epoid_bytes o.epoid) t epoid
item_orders b (item.Ended t r) rest epoid = refl

orders_from : (n : ℕ) (b c : Buyer) (items : List (List ℕ)) (epoid : List ℕ) → restarted_from n b items ≡ Ok c
    → ordered_with c.orders epoid ≡ ordered_with (b.orders ++ flat_map read_order items) epoid
orders_from n b c [] epoid e = ap (λ (d : Buyer). ordered_with d.orders epoid) (sym (buyer_is b c e)) ∙ ap (λ (os : List (List ℕ × ℕ)). ordered_with os epoid) (sym (append-nil b.orders))
orders_from n b c (bytes ∷ items) epoid e =
    let f = first_item n b c bytes items e in
    orders_from (n + 1) (remembered b f.0) c items epoid f.3 ∙ item_orders b f.0 (flat_map read_order items) epoid
    ∙ ap (λ (r : Result Item ℕ). ordered_with (b.orders ++ (order_in r ++ flat_map read_order items)) epoid) (sym f.1)

pub first_order_found : FirstOrderFound
first_order_found items b epoid kept = orders_from 0 (new_buyer b.wallet) (untold b) items epoid kept

-- ---- purchases

quoted_phase : (s : Stage) (price : Price) (held : List ℕ) → is_some (pass_of_asked s) ≡ true → phase_of (wanted_from s price) held ≡ phase.Wanted
quoted_phase stage.Ticketing price held e = absurd cc
quoted_phase (stage.Asked pass) price held e = refl
quoted_phase (stage.Wanted pass old head) price held e = absurd cc
quoted_phase (stage.Ordered pass order least) price held e = absurd cc
quoted_phase (stage.Paid key) price held e = absurd cc
quoted_phase (stage.Refused code) price held e = absurd cc
quoted_phase stage.Foul price held e = absurd cc

-- a purchase that is found so, at the phase of an item
record Told (o : Option Purchase) (x : Item) : Type 0 where
  purchase : Purchase
  known : o ≡ Some purchase
  tells : phase_of purchase.stage purchase.held ≡ phase_behind x purchase.held

item_tells : (b : Buyer) (x : Item) → allows b x ≡ true → Told (purchase_of (remembered b x) (number_in x)) x
item_tells b (item.Started s) allowed =
    record { purchase = fresh s; known = found_started b.purchases (fresh s) (unknown (place_of b.purchases s.transaction) allowed); tells = refl }
item_tells b (item.Granted t pass) allowed =
    let k = known_for (purchase_of b t) (λ p. is_ticketing p.stage) allowed in
    record { purchase = behind_item (item.Granted t pass) k.0; known = found_behind b t k.0 (behind_item (item.Granted t pass)) k.1 refl; tells = refl }
item_tells b (item.Wanted t price) allowed =
    let k = known_for (purchase_of b t) (λ p. is_some (pass_of_asked p.stage) && is_price price p.start.limit) allowed in
    record {
      purchase = behind_item (item.Wanted t price) k.0;
      known = found_behind b t k.0 (behind_item (item.Wanted t price)) k.1 refl;
      tells = quoted_phase k.0.stage price k.0.held (both (is_some (pass_of_asked k.0.stage)) (is_price price k.0.start.limit) k.2).0;
    }
item_tells b (item.Part h part) allowed =
    let k = known_for (purchase_of b h.transaction) (λ p. holds_at (wanting_in p.stage) (part_follows p h part)) allowed in
    record {
      purchase = behind_item (item.Part h part) k.0;
      known = found_behind b h.transaction k.0 (behind_item (item.Part h part)) k.1 refl;
      tells = ap (λ (s : Stage). phase_of (with_head s (Some h)) (k.0.held ++ part)) (wanted_so k.0.stage (part_follows k.0 h part) k.2).is;
    }
item_tells b (item.Forgotten t) allowed =
    let k = known_for (purchase_of b t) (λ p. holds_at (wanting_in p.stage) (λ w. is_some w.head)) allowed in
    record {
      purchase = behind_item (item.Forgotten t) k.0;
      known = found_behind b t k.0 (behind_item (item.Forgotten t)) k.1 refl;
      tells = ap (λ (s : Stage). phase_of (with_head s None) []) (wanted_so k.0.stage (λ (w : Wanting). is_some w.head) k.2).is;
    }
item_tells b (item.Ordered t o part) allowed =
    let k = known_for (purchase_of b t) (λ p. holds_at (wanting_in p.stage) (order_follows b.wallet p o part)) allowed in
    record {
      purchase = behind_item (item.Ordered t o part) k.0;
      known = found_behind b t k.0 (behind_item (item.Ordered t o part)) k.1 refl;
      tells = ap (λ (s : Stage). phase_of (ordered_from s o) (k.0.held ++ part)) (wanted_so k.0.stage (order_follows b.wallet k.0 o part) k.2).is;
    }
item_tells b (item.Ended t r) allowed =
    let k = known_for (purchase_of b t) (λ p. holds_at (owing_in p.stage) (λ o. is_ok (receipt_fits o.order r.receipt))) allowed in
    record {
      purchase = behind_item (item.Ended t r) k.0;
      known = found_behind b t k.0 (behind_item (item.Ended t r)) k.1 refl;
      tells = (stage_tells r.receipt k.0.held).0;
    }

-- items of others leave it
others_leave : (n : ℕ) (b c : Buyer) (items : List (List ℕ)) (t : ℕ) → NoneOf t items → restarted_from n b items ≡ Ok c → purchase_of c t ≡ purchase_of b t
others_leave n b c [] t none e = ap (λ (d : Buyer). purchase_of d t) (sym (buyer_is b c e))
others_leave n b c (bytes ∷ items) t none e =
    let f = first_item n b c bytes items e in
    others_leave (n + 1) (remembered b f.0) c items t none.1 f.3 ∙ item_other b f.0 t (λ (same : t ≡ number_in f.0). none.0 f.0 f.1 (sym same))

untold_phase : (s : Stage) (held : List ℕ) → phase_of (untold_stage s) held ≡ phase_of s held
untold_phase stage.Ticketing held = refl
untold_phase (stage.Asked pass) held = refl
untold_phase (stage.Wanted pass price head) held = refl
untold_phase (stage.Ordered pass order least) held = refl
untold_phase (stage.Paid key) held = refl
untold_phase (stage.Refused code) held = refl
untold_phase stage.Foul held = refl

some_is : (p q : Purchase) → ◌≡◌ {A = Option Purchase} (Some p) (Some q) → p ≡ q
some_is p q e = cc

told_before : (o : Option Purchase) (x : Item) → Told (option_map untold_purchase o) x → (p : Purchase) × (o ≡ Some p) × (phase_of p.stage p.held ≡ phase_behind x p.held)
told_before None x told = no_some told.purchase told.known
told_before (Some p) x told =
    let same : untold_purchase p ≡ told.purchase = some_is (untold_purchase p) told.purchase told.known in
    (p, refl, sym (untold_phase p.stage p.held) ∙ subst (λ (q : Purchase). phase_of q.stage q.held ≡ phase_behind x q.held) (sym same) told.tells)

none_before : (o : Option Purchase) → option_map untold_purchase o ≡ None → o ≡ None
none_before None e = refl
none_before (Some p) e = no_some (untold_purchase p) (sym e)

pub last_item_tells : LastItemTells
last_item_tells b = (last, λ items t kept none. none_before (purchase_of b t) (sym (same_found b t) ∙ others_leave 0 (new_buyer b.wallet) (untold b) items t none kept))
  where
    last : (front back : List (List ℕ)) (bytes : List ℕ) (x : Item) → restarted_from 0 (new_buyer b.wallet) (front ++ bytes ∷ back) ≡ Ok (untold b) → item_of bytes ≡ Ok x → NoneOf (number_in x) back
        → (p : Purchase) × (purchase_of b (number_in x) ≡ Some p) × (phase_of p.stage p.held ≡ phase_behind x p.held)
    last front back bytes x kept read none =
        let s = split 0 (new_buyer b.wallet) (untold b) front (bytes ∷ back) kept in
        let f = first_item s.0 s.1 (untold b) bytes back s.3 in
        let same : f.0 ≡ x = item_is f.0 x (sym f.1 ∙ read) in
        let allowed : allows s.1 x ≡ true = subst (λ (y : Item). allows s.1 y ≡ true) same f.2 in
        let more : restarted_from (s.0 + 1) (remembered s.1 x) back ≡ Ok (untold b) = subst (λ (y : Item). restarted_from (s.0 + 1) (remembered s.1 y) back ≡ Ok (untold b)) same f.3 in
        let there : option_map untold_purchase (purchase_of b (number_in x)) ≡ purchase_of (remembered s.1 x) (number_in x) =
        sym (same_found b (number_in x)) ∙ others_leave (s.0 + 1) (remembered s.1 x) (untold b) back (number_in x) none more in
        told_before (purchase_of b (number_in x)) x (subst (λ (o : Option Purchase). Told o x) (sym there) (item_tells s.1 x allowed))

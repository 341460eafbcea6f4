-- A purchase that is over stays as it is.
use Rattle.std.proofs.Common.{◌≡◌, ℕ, ◌+◌, ◌≤◌, Bool, true, false, cond, List, [], ◌∷◌, ◌++◌, map, set, length, Option, Some, None, Ok, Err, Result, refl, sym, ap, subst, ◌∙◌, arith}
use Rattle.std.specs.Prelude.{slice_get, get_or, nat_eq, nat_lt, not, is_none, is_some, is_ok, ◌&&◌}
use Rattle.std.specs.List.{find, position_or_len}
use Rattle.std.specs.Option.{option_map, option_or}
use Rattle.std.proofs.lemmas.Bool.{eqb-true, ltb-false, false≢true}
use Rattle.std.proofs.lemmas.List.{length-map}
use Rattle.std.proofs.lemmas.List.Folds.{find_at, find_past, find-append}
use Rattle.std.proofs.lemmas.Option.{slice_get_past, get_or_from_slice_get}
use Rattle.nb_units.specs.declared.memory.NoMemory.{NoMemory}
use Rattle.nb_msgs.specs.declared.node.Reason.{Reason}
use Rattle.nb_msgs.specs.declared.node.Step.{Step}
use Rattle.nb_wallet.specs.declared.item.Item.{Item}
use Rattle.nb_wallet.specs.declared.item.Item.TheVariants as item
use Rattle.nb_wallet.specs.declared.purchase.Stage.{Stage}
use Rattle.nb_wallet.specs.declared.purchase.Stage.TheVariants as stage
use Rattle.nb_wallet.specs.Purchases.{Purchase}
use Rattle.nb_consumer.specs.declared.deed.Deed.{Deed}
use Rattle.nb_consumer.specs.declared.deed.Deed.TheVariants as deed
use Rattle.nb_consumer.specs.declared.rows.Wanting.{Wanting}
use Rattle.nb_consumer.specs.declared.rows.Owing.{Owing}
use Rattle.nb_consumer.specs.Deeds.{Answers}
use Rattle.nb_consumer.specs.Goods.{phase_of, phase_in, HasEnded}
use Rattle.nb_consumer.specs.State.{Buyer, number_of, place_of, purchase_at, purchase_of, changed, changed_at, changed_with, behind_item, fresh, number_in, remembered, raised}
use Rattle.nb_consumer.specs.Table.{after, is_ticketing, is_price, pass_of_asked, wanting_in, owing_in, receipt_fits}
use Rattle.nb_consumer.specs.Restart.{allows, holds_for, holds_at, part_follows, order_follows, Kept, untold_stage, untold_purchase, untold}
use Rattle.nb_consumer.specs.Runs.{Call, row_of, kept_of, Event, Called, Restarted, Runs}
use Rattle.nb_consumer.specs.Laws.{RowSo, EndedStays, RunsKeepEnded}
use Rattle.nb_consumer.proofs.Purchases.{no_some, found_number}
use Rattle.nb_consumer.proofs.Restoring.{buyer_is, same_found, call_so, keeps_restarting}
use Rattle.nb_consumer.proofs.Running.{again_kept}
use Rattle.nb_consumer.proofs.Knowing.{test_of}

-- ---- a purchase, where another changes or is started

abbrev is_of : ℕ → Purchase → Bool
is_of t p = nat_eq t (number_of p)

first_number : (t : ℕ) (ps : List Purchase) → position_or_len (nat_eq t) (map number_of ps) ≡ position_or_len (is_of t) ps
first_number t [] = refl
first_number t (p ∷ ps) = ap (λ (n : ℕ). cond (not (nat_eq t (number_of p))) (1 + n) 0) (first_number t ps)

-- it is the first of its number
pub found_first : (ps : List Purchase) (t : ℕ) → purchase_at ps (place_of ps t) ≡ find (is_of t) ps
found_first ps t =
    by (nat_lt (position_or_len (nat_eq t) (map number_of ps)) (length (map number_of ps))) refl
    ∙ ap (slice_get ps) (first_number t ps) ∙ sym (find_at (is_of t) ps)
  where
    by : (test : Bool) → nat_lt (position_or_len (nat_eq t) (map number_of ps)) (length (map number_of ps)) ≡ test
        → purchase_at ps (cond test (Some (position_or_len (nat_eq t) (map number_of ps))) None) ≡ slice_get ps (position_or_len (nat_eq t) (map number_of ps))
    by true is = refl
    by false is =
        let past : length ps ≤ position_or_len (nat_eq t) (map number_of ps) =
        omega (arith, ltb-false (position_or_len (nat_eq t) (map number_of ps)) (length (map number_of ps)) is, length-map ps number_of) in
        sym (slice_get_past ps (position_or_len (nat_eq t) (map number_of ps)) past)

other_number : (t n : ℕ) → ¬ (t ≡ n) → nat_eq t n ≡ false
other_number t n apart = by (nat_eq t n) refl
  where
    by : (test : Bool) → nat_eq t n ≡ test → test ≡ false
    by true is = absurd (apart (eqb-true t n is))
    by false is = refl

pub changed_other : (b : Buyer) (n t : ℕ) (f : Purchase → Purchase) → ¬ (t ≡ n) → ((p : Purchase) → number_of (f p) ≡ number_of p)
    → purchase_at (changed b.purchases n f) (place_of (changed b.purchases n f) t) ≡ purchase_of b t
changed_other b n t f apart same = by (place_of b.purchases n) refl
  where
    by_got : (i : ℕ) (o : Option Purchase) → place_of b.purchases n ≡ Some i → slice_get b.purchases i ≡ o
        → purchase_at (changed_with b.purchases i f o) (place_of (changed_with b.purchases i f o) t) ≡ purchase_of b t
    by_got i None is got = refl
    by_got i (Some q) is got =
        let number : number_of q ≡ n = found_number b n q (ap (purchase_at b.purchases) is ∙ got) in
        let other : nat_eq t n ≡ false = other_number t n apart in
        let old : is_of t (get_or b.purchases i q) ≡ false = ap (is_of t) (get_or_from_slice_get b.purchases i q q got) ∙ ap (nat_eq t) number ∙ other in
        let new : is_of t (f q) ≡ false = ap (nat_eq t) (same q ∙ number) ∙ other in
        found_first (set b.purchases i (f q)) t ∙ find_past (is_of t) b.purchases i (f q) q old new ∙ sym (found_first b.purchases t)

    by : (o : Option ℕ) → place_of b.purchases n ≡ o → purchase_at (changed_at b.purchases o f) (place_of (changed_at b.purchases o f) t) ≡ purchase_of b t
    by None is = refl
    by (Some i) is = by_got i (slice_get b.purchases i) is refl

or_none : (o : Option Purchase) → option_or o None ≡ o
or_none None = refl
or_none (Some p) = refl

pub pushed_other : (ps : List Purchase) (q : Purchase) (t : ℕ) → ¬ (t ≡ number_of q) → purchase_at (ps ++ q ∷ []) (place_of (ps ++ q ∷ []) t) ≡ purchase_at ps (place_of ps t)
pushed_other ps q t apart =
    found_first (ps ++ q ∷ []) t ∙ find-append (is_of t) ps (q ∷ [])
    ∙ ap (λ (test : Bool). option_or (find (is_of t) ps) (cond test (Some q) None)) (other_number t (number_of q) apart)
    ∙ or_none (find (is_of t) ps) ∙ sym (found_first ps t)

-- ---- no row is of a purchase that is over

record Over (s : Stage) : Type 0 where
  ticketing : is_ticketing s ≡ false
  asked : pass_of_asked s ≡ None
  wanting : wanting_in s ≡ None
  owing : owing_in s ≡ None
  untold : untold_stage s ≡ s

over_is : (s : Stage) (held : List ℕ) → HasEnded (Some (phase_of s held)) → Over s
over_is stage.Ticketing held over = absurd over
over_is (stage.Asked pass) held over = absurd over
over_is (stage.Wanted pass price head) held over = absurd over
over_is (stage.Ordered pass order least) held over = absurd over
over_is (stage.Paid key) held over = record { ticketing = refl; asked = refl; wanting = refl; owing = refl; untold = refl }
over_is (stage.Refused code) held over = record { ticketing = refl; asked = refl; wanting = refl; owing = refl; untold = refl }
over_is stage.Foul held over = record { ticketing = refl; asked = refl; wanting = refl; owing = refl; untold = refl }

-- a purchase that fails a test is not the one that passes it
apart_from : (b : Buyer) (t n : ℕ) (p : Purchase) (test : Purchase → Bool) → purchase_of b t ≡ Some p → test p ≡ false → holds_for (purchase_of b n) test ≡ true → ¬ (t ≡ n)
apart_from b t n p test known fails allowed same = false≢true (sym fails ∙ test_of (purchase_of b n) p test (ap (purchase_of b) (sym same) ∙ known) allowed)

pub unknown : (o : Option ℕ) → is_none o ≡ true → o ≡ None
unknown None e = refl
unknown (Some i) e = absurd cc

item_apart : (b : Buyer) (x : Item) (t : ℕ) (p : Purchase) → purchase_of b t ≡ Some p → Over p.stage → allows b x ≡ true → ¬ (t ≡ number_in x)
item_apart b (item.Started s) t p known over allowed = λ (same : t ≡ s.transaction).
    no_some p (sym (ap (purchase_at b.purchases) (unknown (place_of b.purchases s.transaction) allowed)) ∙ sym (ap (purchase_of b) same) ∙ known)
item_apart b (item.Granted n pass) t p known over allowed = apart_from b t n p (λ q. is_ticketing q.stage) known over.ticketing allowed
item_apart b (item.Wanted n price) t p known over allowed =
    apart_from b t n p (λ q. is_some (pass_of_asked q.stage) && is_price price q.start.limit) known (ap (λ o. is_some o && is_price price p.start.limit) over.asked) allowed
item_apart b (item.Part h part) t p known over allowed =
    apart_from b t h.transaction p (λ q. holds_at (wanting_in q.stage) (part_follows q h part)) known (ap (λ o. holds_at o (part_follows p h part)) over.wanting) allowed
item_apart b (item.Forgotten n) t p known over allowed =
    apart_from b t n p (λ q. holds_at (wanting_in q.stage) (λ w. is_some w.head)) known (ap (λ o. holds_at o (λ (w : Wanting). is_some w.head)) over.wanting) allowed
item_apart b (item.Ordered n o part) t p known over allowed =
    apart_from b t n p (λ q. holds_at (wanting_in q.stage) (order_follows b.wallet q o part)) known (ap (λ v. holds_at v (order_follows b.wallet p o part)) over.wanting) allowed
item_apart b (item.Ended n r) t p known over allowed =
    apart_from b t n p (λ q. holds_at (owing_in q.stage) (λ o. is_ok (receipt_fits o.order r.receipt))) known
    (ap (λ v. holds_at v (λ (o : Owing). is_ok (receipt_fits o.order r.receipt))) over.owing) allowed

-- ---- behind an item, a row and a restart

pub item_other : (b : Buyer) (x : Item) (t : ℕ) → ¬ (t ≡ number_in x) → purchase_of (remembered b x) t ≡ purchase_of b t
item_other b (item.Started s) t apart = pushed_other b.purchases (fresh s) t apart
item_other b (item.Granted n pass) t apart = changed_other b n t (behind_item (item.Granted n pass)) apart (λ q. refl)
item_other b (item.Wanted n price) t apart = changed_other b n t (behind_item (item.Wanted n price)) apart (λ q. refl)
item_other b (item.Part h part) t apart = changed_other b h.transaction t (behind_item (item.Part h part)) apart (λ q. refl)
item_other b (item.Forgotten n) t apart = changed_other b n t (behind_item (item.Forgotten n)) apart (λ q. refl)
item_other b (item.Ordered n o part) t apart = changed_other b n t (behind_item (item.Ordered n o part)) apart (λ q. refl)
item_other b (item.Ended n r) t apart = changed_other b n t (behind_item (item.Ended n r)) apart (λ q. refl)

item_keeps : (b : Buyer) (x : Item) (t : ℕ) (p : Purchase) → purchase_of b t ≡ Some p → Over p.stage → allows b x ≡ true → purchase_of (remembered b x) t ≡ purchase_of b t
item_keeps b x t p known over allowed = item_other b x t (item_apart b x t p known over allowed)

row_keeps : (b : Buyer) (t : ℕ) (p : Purchase) (row : Result Deed Reason) → purchase_of b t ≡ Some p → Over p.stage → RowSo b row → purchase_of (after b row) t ≡ purchase_of b t
row_keeps b t p (Err why) known over so = refl
row_keeps b t p (Ok (deed.Sends whom sent)) known over so = refl
row_keeps b t p (Ok (deed.Hears n place whom sent)) known over so =
    let owed : holds_for (purchase_of b n) (λ q. is_some (owing_in q.stage)) ≡ true = ap (λ (o : Option Purchase). holds_for o (λ q. is_some (owing_in q.stage))) so.known ∙ ap is_some so.ordered in
    changed_other b n t (raised place) (apart_from b t n p (λ q. is_some (owing_in q.stage)) known (ap is_some over.owing) owed) (λ q. refl)
row_keeps b t p (Ok (deed.Keeps x whom sent)) known over so = item_keeps b x t p known over so.0
row_keeps b t p (Ok (deed.Ends n r how)) known over so = item_keeps b (item.Ended n r) t p known over so.0

abbrev at_stage : Purchase → Stage → Purchase
at_stage p s = record { start = p.start; stage = s; held = p.held }

again_keeps : (b : Buyer) (t : ℕ) (p : Purchase) → purchase_of b t ≡ Some p → Over p.stage → purchase_of (untold b) t ≡ purchase_of b t
again_keeps b t p known over = same_found b t ∙ ap (option_map untold_purchase) known ∙ ap (λ (s : Stage). Some (at_stage p s)) over.untold ∙ sym known

pub ended_stays : EndedStays
ended_stays b t over = by (purchase_of b t) refl over
  where
    by : (o : Option Purchase) → purchase_of b t ≡ o → HasEnded (phase_in o)
        → ((call : Call) → purchase_of (after b (row_of b call)) t ≡ purchase_of b t) × (purchase_of (untold b) t ≡ purchase_of b t)
    by None is over = absurd over
    by (Some p) is over = (λ call. row_keeps b t p (row_of b call) is (over_is p.stage p.held over) (call_so b call), again_keeps b t p is (over_is p.stage p.held over))

-- ---- behind a run

call_keeps : (old new : Buyer) (call : Call) (result : Result Step NoMemory) (t : ℕ) → Answers old new (row_of old call) result → HasEnded (phase_in (purchase_of old t))
    → purchase_of new t ≡ purchase_of old t
call_keeps old new call (Ok step) t answers over = ap (λ (b : Buyer). purchase_of b t) answers.after ∙ (ended_stays old t over).0 call
call_keeps old new call (Err none) t answers over = ap (λ (b : Buyer). purchase_of b t) answers.err

run_keeps : (events : List Event) (old new : Buyer) (items kept : List (List ℕ)) (t : ℕ) → Kept items old → Runs old items events new kept → HasEnded (phase_in (purchase_of old t))
    → purchase_of new t ≡ purchase_of old t
run_keeps [] old new items kept t stands run over = ap (λ (b : Buyer). purchase_of b t) run.0
run_keeps (Called call result next ∷ events) old new items kept t stands run over =
    let same : purchase_of next t ≡ purchase_of old t = call_keeps old next call result t run.0 over in
    run_keeps events next new (items ++ kept_of result) kept t (keeps_restarting old next call result items run.0 stands) run.1
    (subst (λ (o : Option Purchase). HasEnded (phase_in o)) (sym same) over) ∙ same
run_keeps (Restarted next ∷ events) old new items kept t stands run over =
    let is : untold old ≡ next = buyer_is (untold old) next (sym stands ∙ run.0) in
    let same : purchase_of next t ≡ purchase_of old t = ap (λ (b : Buyer). purchase_of b t) (sym is) ∙ (ended_stays old t over).1 in
    run_keeps events next new items kept t (again_kept old.wallet items next run.0).1 run.1 (subst (λ (o : Option Purchase). HasEnded (phase_in o)) (sym same) over) ∙ same

pub runs_keep_ended : RunsKeepEnded
runs_keep_ended old items events new kept t stands run over = run_keeps events old new items kept t stands run over

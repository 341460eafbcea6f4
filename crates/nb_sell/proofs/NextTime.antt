-- A merchant goes on next time: what a stop leaves, and what starts again with it.
use Rattle.std.proofs.Common.{◌≡◌, ◌⊎◌, inl, inr, ⊎_elim, ℕ, zero, suc, ◌+◌, ◌-◌, ◌≤◌, List, [], ◌∷◌, ◌++◌, map, length, take, Option, Some, None, Result, Ok, Err, refl, sym, ap, subst, ◌∙◌, append_assoc, append-nil, length-append, arith}
use Rattle.std.specs.List.{AllByRecursion}
use Rattle.std.proofs.lemmas.List.{map-append, take-append-le}
use Rattle.std.proofs.Math.Seq.{take-append-add}
use Rattle.nb_port.specs.Tells.{DiskTells}
use Rattle.nb_journal.specs.declared.journal.Journal.{Journal}
use Rattle.nb_journal.specs.Stands.{Stands}
use Rattle.nb_journal.specs.States.{AtRest}
use Rattle.nb_journal.specs.Growing.{StandsAmong}
use Rattle.nb_msgs.specs.Reading.{message_of}
use Rattle.nb_msgs.specs.declared.message.Message.{Message}
use Rattle.nb_msgs.specs.declared.node.Reason.{Reason}
use Rattle.nb_stall.specs.declared.item.Item.{Item}
use Rattle.nb_stall.specs.Spelling.{IsItem, item_bytes}
use Rattle.nb_merchant.specs.declared.answer.Answer.{Answer}
use Rattle.nb_merchant.specs.Shop.{Shop, new_shop}
use Rattle.nb_merchant.specs.Table.{kept_by, listed, after}
use Rattle.nb_merchant.specs.Keeping.{IsKept, restarted}
use Rattle.nb_merchant.specs.Laws.{Word, OfConsumer, OfHouse, done_at, kept_bytes}
use Rattle.nb_merchant.specs.Laws as laws
use Rattle.nb_merchant.proofs.Running.{runs_are_kept}
use Rattle.nb_merchant.proofs.Restarting.{restart_gives_back}
use Rattle.nb_trade.specs.declared.lost.Lost.{Lost}
use Rattle.nb_trade.specs.declared.lost.Lost.TheVariants as lost
use Rattle.nb_trade.proofs.Stopping.{lost_stops, stops_leave}
use Rattle.nb_sell.specs.declared.ended.SellEnd.{SellEnd}
use Rattle.nb_sell.specs.declared.ended.SellEnd.TheVariants as ends
use Rattle.nb_sell.specs.Run.{Act, Hears, Told, Way, heard_as, told_as, heard_row, told_row, act_row, outset, onward, behind, kept, AreItems}
use Rattle.nb_sell.specs.declared.peer.Over.{Over}
use Rattle.nb_sell.specs.Sold.{Point, Went, Stopped, SellLost, EndsAt, Around, IsLast, NothingLost, Sold, first_point}
use Rattle.nb_sell.specs.Laws.{acts_at, acts_of, StopLeavesFirst, GoesOn, GoesOnNextTime, StaysKept}
use Rattle.nb_sell.proofs.Over.{over_journal, over_shop}
use Rattle.nb_sell.proofs.Runs.{kept_both, items_both}

-- ---- the merchant behind acts

-- it kept what the acts keep, behind what it had kept
pub shop_items : (w : Way) (acts : List Act) → (behind w acts).shop.items ≡ w.shop.items ++ kept w acts
shop_items w [] = sym (append-nil w.shop.items)
shop_items w (a ∷ acts) = shop_items (onward w a) acts ∙ append_assoc w.shop.items (kept_by (act_row w.shop a)) (kept (onward w a) acts)

pub same_stall : (w : Way) (acts : List Act) → ((behind w acts).shop.stall ≡ w.shop.stall) × ((behind w acts).shop.products ≡ w.shop.products) × ((behind w acts).shop.offers ≡ w.shop.offers)
same_stall w [] = (refl, refl, refl)
same_stall w (a ∷ acts) = same_stall (onward w a) acts

pub shop_bytes : (w : Way) (acts : List Act) → kept_bytes (behind w acts).shop ≡ kept_bytes w.shop ++ map item_bytes (kept w acts)
shop_bytes w acts = ap (map item_bytes) (shop_items w acts) ∙ map-append item_bytes w.shop.items (kept w acts)

word_kept : (shop : Shop) (word : Word) → IsKept shop → AllByRecursion IsItem (kept_by (done_at shop word)) → IsKept (after shop (done_at shop word))
word_kept shop word is items =
    let next = after shop (done_at shop word) in
    (runs_are_kept shop (laws.Hears word ∷ []) next is (next, (refl, items), refl)).0

ignored_kept : (shop : Shop) → IsKept shop → IsKept (record shop { items = shop.items ++ [] })
ignored_kept shop is = subst (λ (xs : List Item). IsKept (record shop { items = xs })) (sym (append-nil shop.items)) is

heard_kept : (shop : Shop) (moment : ℕ) (read : Result Message ℕ) → IsKept shop → AllByRecursion IsItem (kept_by (heard_as shop moment read)) → IsKept (after shop (heard_as shop moment read))
heard_kept shop moment (Ok m) is items = word_kept shop (OfConsumer m moment) is items
heard_kept shop moment (Err place) is items = ignored_kept shop is

told_kept : (shop : Shop) (read : Result Message ℕ) → IsKept shop → AllByRecursion IsItem (kept_by (told_as shop read)) → IsKept (after shop (told_as shop read))
told_kept shop (Ok m) is items = word_kept shop (OfHouse m) is items
told_kept shop (Err place) is items = ignored_kept shop is

act_kept : (shop : Shop) (a : Act) → IsKept shop → AllByRecursion IsItem (kept_by (act_row shop a)) → IsKept (after shop (act_row shop a))
unfolding heard_row told_row
act_kept shop (Hears f moment) is items = heard_kept shop moment (message_of f.kind f.body) is items
act_kept shop (Told f) is items = told_kept shop (message_of f.kind f.body) is items

pub all_kept : (w : Way) (acts : List Act) → IsKept w.shop → AreItems w acts → IsKept (behind w acts).shop
all_kept w [] is items = is
all_kept w (a ∷ acts) is items = all_kept (onward w a) acts (act_kept w.shop a is items.0) items.1

items_first : (w : Way) (acts : List Act) (k : ℕ) → AreItems w acts → AreItems w (take k acts)
items_first w [] zero items = tt
items_first w [] (suc k) items = tt
items_first w (a ∷ acts) zero items = tt
items_first w (a ∷ acts) (suc k) items = (items.0, items_first (onward w a) acts k items.1)

-- ---- the first acts that keep the first n items

record First (w : Way) (acts : List Act) (n : ℕ) : Type 0 where
  k : ℕ
  within : k ≤ length acts
  is : take n (map item_bytes (kept w acts)) ≡ map item_bytes (kept w (take k acts))

one_kept : (row : Result Answer Reason) → length (map item_bytes (kept_by row)) ≤ 1
one_kept (Err why) = omega arith
one_kept (Ok answer) = by answer.keep
  where
    by : (keep : Option Item) → length (map item_bytes (listed keep)) ≤ 1
    by None = omega arith
    by (Some x) = omega arith

first_of : (w : Way) (acts : List Act) (n : ℕ) → n ≤ length (map item_bytes (kept w acts)) → First w acts n
first_of w [] n le = record { k = 0; within = omega arith; is = none n }
  where
    none : (m : ℕ) → take m (map item_bytes (kept w [])) ≡ []
    none zero = refl
    none (suc m) = refl
first_of w (a ∷ acts) zero le = record { k = 0; within = omega arith; is = refl }
first_of w (a ∷ acts) (suc n) le =
    let one = map item_bytes (kept_by (act_row w.shop a)) in
    let rest = map item_bytes (kept (onward w a) acts) in
    let m = suc n - length one in
    let both : map item_bytes (kept w (a ∷ acts)) ≡ one ++ rest = map-append item_bytes (kept_by (act_row w.shop a)) (kept (onward w a) acts) in
    let most : length one ≤ suc n = omega (arith, one_kept (act_row w.shop a)) in
    let long : length (map item_bytes (kept w (a ∷ acts))) ≡ length one + length rest = ap length both ∙ length-append one rest in
    let r = first_of (onward w a) acts m (omega (arith, le, most, long)) in
    record {
      k = suc r.k;
      within = omega (arith, r.within);
      is = ap (take (suc n)) both ∙ ap (λ (k : ℕ). take k (one ++ rest)) (sum (suc n) (length one) most) ∙ take-append-add one rest m ∙ ap (λ (xs : List (List ℕ)). one ++ xs) r.is
          ∙ sym (map-append item_bytes (kept_by (act_row w.shop a)) (kept (onward w a) (take r.k acts)));
    }
  where
    sum : (m k : ℕ) → k ≤ m → m ≡ k + (m - k)
    sum m k le = omega (arith, le)

goes_on : (shop : Shop) (acts : List Act) (front image : List ℕ) → IsKept shop → AreItems (outset shop) acts → StandsAmong front (kept_bytes shop) (map item_bytes (kept (outset shop) acts)) image
    → GoesOn shop acts front image
goes_on shop acts front image is items some =
    let r = first_of (outset shop) acts some.0 some.1 in
    let w = behind (outset shop) (take r.k acts) in
    let kept_now : IsKept w.shop = all_kept (outset shop) (take r.k acts) is (items_first (outset shop) acts r.k items) in
    let same = same_stall (outset shop) (take r.k acts) in
    record {
      k = r.k;
      within = r.within;
      then = w.shop;
      is = refl;
      stands = subst (λ (xs : List (List ℕ)). Stands front xs image) (ap (λ (xs : List (List ℕ)). kept_bytes shop ++ xs) r.is ∙ sym (shop_bytes (outset shop) (take r.k acts))) some.2;
      again = ap (λ (fresh : Shop). restarted fresh 0 (kept_bytes w.shop)) (λ i. new_shop (sym same.0 i) (sym same.1 i) (sym same.2 i)) ∙ restart_gives_back w.shop kept_now;
    }

-- with an act more, of which nothing was kept
goes_on_more : (shop : Shop) (acts more : List Act) (front image : List ℕ) → GoesOn shop acts front image → GoesOn shop (acts ++ more) front image
goes_on_more shop acts more front image g = record {
  k = g.k;
  within = omega (arith, g.within, length-append acts more);
  then = g.then;
  is = g.is ∙ ap (λ (done : List Act). (behind (outset shop) done).shop) (sym (take-append-le g.k acts more g.within));
  stands = g.stands;
  again = g.again;
}

-- ---- what a stop leaves

module _ {D : Type 0} (tells : DiskTells D) (only_now : (d : D) (c : List ℕ) → tells.left d (tells.moment d) c → tells.allowed d c) where
  went_leaves : (p q : Point D) (acts : List Act) → Went tells p q acts → (front : List ℕ) (items : List (List ℕ)) → AtRest tells front items p.journal
      → (image : List ℕ) → tells.left q.journal.disk (tells.moment p.journal.disk) image → StandsAmong front items (map item_bytes (kept p.way acts)) image
  went_leaves p q acts went front items rest image left =
      stops_leave tells only_now p.journal q.journal front items (map item_bytes (kept p.way acts)) rest (went.journal.stops front items rest) image left

  -- where nothing more was done behind the acts
  stopped_leaves : (p q : Point D) (why : Over) (s : Stopped tells p q why) (front : List ℕ) (items : List (List ℕ)) → AtRest tells front items p.journal
      → (image : List ℕ) → tells.left q.journal.disk (tells.moment p.journal.disk) image → StandsAmong front items (map item_bytes (kept p.way s.served.acts)) image
  stopped_leaves p q why s front items rest image left =
      went_leaves p s.mid s.served.acts s.served.went front items rest image
      (subst (λ (j : Journal D). tells.left j.disk (tells.moment p.journal.disk) image) (over_journal tells p s.mid q s.served.acts why s.over) left)

  lost_leaves : (p q : Point D) (why : Lost) (t : SellLost tells p q why) (front : List ℕ) (items : List (List ℕ)) → AtRest tells front items p.journal
      → (image : List ℕ) → tells.left q.journal.disk (tells.moment p.journal.disk) image → StandsAmong front items (map item_bytes (kept p.way (t.served.acts ++ t.last))) image
  lost_leaves p q why t front items rest image left =
      let first = map item_bytes (kept p.way t.served.acts) in
      let more = map item_bytes (kept t.mid.way t.last) in
      let all : map item_bytes (kept p.way (t.served.acts ++ t.last)) ≡ first ++ more =
      kept_both p.way t.served.acts t.last ∙ ap (λ (w : Way). first ++ map item_bytes (kept w t.last)) (sym t.served.went.way) in
      subst (λ (xs : List (List ℕ)). StandsAmong front items xs image) (sym all)
      (stops_leave tells only_now p.journal q.journal front items (first ++ more) rest
      (lost_stops tells p.journal t.mid.journal q.journal first more why t.served.went.journal t.loses.journal front items rest) image left)

  leaves_at : (p q : Point D) (end : SellEnd) (e : EndsAt tells p q end) (front : List ℕ) (items : List (List ℕ)) → AtRest tells front items p.journal
      → (image : List ℕ) → tells.left q.journal.disk (tells.moment p.journal.disk) image → StandsAmong front items (map item_bytes (kept p.way (acts_at tells p q end e))) image
  leaves_at p q ends.Ended e = stopped_leaves p q e.why e.stopped
  leaves_at p q ends.ServerFault e = stopped_leaves p q e.why e.stopped
  leaves_at p q (ends.DiskFault before after) e = lost_leaves p q (lost.DiskFault before after) e
  leaves_at p q (ends.Full cap) e = lost_leaves p q (lost.Full cap) e
  leaves_at p q ends.NoMemory e = lost_leaves p q lost.NoMemory e

  pub stop_leaves_first : StopLeavesFirst tells
  stop_leaves_first old new end s front items rest image left =
      leaves_at (first_point old) s.last end s.ended front items rest image (subst (λ (j : Journal D). tells.left j.disk (tells.moment old.journal.disk) image) s.last_is.journal left)

  -- ---- and what starts again

  went_goes_on : (shop : Shop) (p q : Point D) (acts : List Act) → p.way ≡ outset shop → Went tells p q acts → (front : List ℕ) → AtRest tells front (kept_bytes shop) p.journal → IsKept shop
      → (image : List ℕ) → tells.left q.journal.disk (tells.moment p.journal.disk) image → GoesOn shop acts front image
  went_goes_on shop p q acts way went front rest is image left =
      goes_on shop acts front image is (subst (λ (w : Way). AreItems w acts) way went.items)
      (subst (λ (w : Way). StandsAmong front (kept_bytes shop) (map item_bytes (kept w acts)) image) way (went_leaves p q acts went front (kept_bytes shop) rest image left))

  stopped_goes_on : (shop : Shop) (p q : Point D) (why : Over) (s : Stopped tells p q why) → p.way ≡ outset shop → (front : List ℕ) → AtRest tells front (kept_bytes shop) p.journal → IsKept shop
      → (image : List ℕ) → tells.left q.journal.disk (tells.moment p.journal.disk) image → GoesOn shop s.served.acts front image
  stopped_goes_on shop p q why s way front rest is image left =
      went_goes_on shop p s.mid s.served.acts way s.served.went front rest is image
      (subst (λ (j : Journal D). tells.left j.disk (tells.moment p.journal.disk) image) (over_journal tells p s.mid q s.served.acts why s.over) left)

  -- where the journal is as it was behind the last act
  same_goes_on : (shop : Shop) (p q : Point D) (why : Lost) (t : SellLost tells p q why) → q.journal ≡ t.mid.journal → p.way ≡ outset shop → (front : List ℕ) → AtRest tells front (kept_bytes shop) p.journal → IsKept shop
      → (image : List ℕ) → tells.left q.journal.disk (tells.moment p.journal.disk) image → GoesOn shop (t.served.acts ++ t.last) front image
  same_goes_on shop p q why t same way front rest is image left =
      goes_on_more shop t.served.acts t.last front image
      (went_goes_on shop p t.mid t.served.acts way t.served.went front rest is image (subst (λ (j : Journal D). tells.left j.disk (tells.moment p.journal.disk) image) same left))

  fault_goes_on : (shop : Shop) (p q : Point D) (before after : ℕ) (t : SellLost tells p q (lost.DiskFault before after)) → p.way ≡ outset shop → (front : List ℕ) → AtRest tells front (kept_bytes shop) p.journal → IsKept shop
      → (image : List ℕ) → tells.left q.journal.disk (tells.moment p.journal.disk) image → GoesOn shop (t.served.acts ++ t.last) front image
  fault_goes_on shop p q before after t way front rest is image left =
      let items : AreItems p.way (t.served.acts ++ t.last) =
      items_both p.way t.served.acts t.last t.served.went.items (subst (λ (w : Way). AreItems w t.last) t.served.went.way t.loses.shop.1) in
      goes_on shop (t.served.acts ++ t.last) front image is (subst (λ (w : Way). AreItems w (t.served.acts ++ t.last)) way items)
      (subst (λ (w : Way). StandsAmong front (kept_bytes shop) (map item_bytes (kept w (t.served.acts ++ t.last))) image) way
      (lost_leaves p q (lost.DiskFault before after) t front (kept_bytes shop) rest image left))

  goes_on_at : (shop : Shop) (p q : Point D) (end : SellEnd) (e : EndsAt tells p q end) → p.way ≡ outset shop → (front : List ℕ) → AtRest tells front (kept_bytes shop) p.journal → IsKept shop
      → (image : List ℕ) → tells.left q.journal.disk (tells.moment p.journal.disk) image → GoesOn shop (acts_at tells p q end e) front image
  goes_on_at shop p q ends.Ended e way = stopped_goes_on shop p q e.why e.stopped way
  goes_on_at shop p q ends.ServerFault e way = stopped_goes_on shop p q e.why e.stopped way
  goes_on_at shop p q (ends.DiskFault before after) e way = fault_goes_on shop p q before after e way
  goes_on_at shop p q (ends.Full cap) e way = same_goes_on shop p q (lost.Full cap) e e.loses.journal.0 way
  goes_on_at shop p q ends.NoMemory e way = same_goes_on shop p q lost.NoMemory e e.loses.journal way

  pub goes_on_next_time : GoesOnNextTime tells
  goes_on_next_time old new end s front rest is image left =
      goes_on_at old.shop (first_point old) s.last end s.ended refl front rest is image
      (subst (λ (j : Journal D). tells.left j.disk (tells.moment old.journal.disk) image) s.last_is.journal left)

-- ---- a stop since any moment before

module _ {D : Type 0} (tells : DiskTells D) where
  went_since : (shop : Shop) (p q : Point D) (acts : List Act) → p.way ≡ outset shop → Went tells p q acts → (front : List ℕ) → AtRest tells front (kept_bytes shop) p.journal → IsKept shop
      → (t : ℕ) (image : List ℕ) → t ≤ tells.moment p.journal.disk → tells.left q.journal.disk t image → tells.left p.journal.disk t image ⊎ GoesOn shop acts front image
  went_since shop p q acts way went front rest is t image le left =
      ⊎_elim (λ past. inl past)
      (λ some. inr
      (goes_on shop acts front image is (subst (λ (w : Way). AreItems w acts) way went.items)
      (subst (λ (w : Way). StandsAmong front (kept_bytes shop) (map item_bytes (kept w acts)) image) way some)))
      ((went.journal.stops front (kept_bytes shop) rest).since t image le left)

  stopped_since : (shop : Shop) (p q : Point D) (why : Over) (s : Stopped tells p q why) → p.way ≡ outset shop → (front : List ℕ) → AtRest tells front (kept_bytes shop) p.journal → IsKept shop
      → (t : ℕ) (image : List ℕ) → t ≤ tells.moment p.journal.disk → tells.left q.journal.disk t image → tells.left p.journal.disk t image ⊎ GoesOn shop s.served.acts front image
  stopped_since shop p q why s way front rest is t image le left =
      went_since shop p s.mid s.served.acts way s.served.went front rest is t image le
      (subst (λ (j : Journal D). tells.left j.disk t image) (over_journal tells p s.mid q s.served.acts why s.over) left)

  -- where the journal is as it was behind the last act
  same_since : (shop : Shop) (p q : Point D) (why : Lost) (x : SellLost tells p q why) → q.journal ≡ x.mid.journal → p.way ≡ outset shop → (front : List ℕ) → AtRest tells front (kept_bytes shop) p.journal → IsKept shop
      → (t : ℕ) (image : List ℕ) → t ≤ tells.moment p.journal.disk → tells.left q.journal.disk t image → tells.left p.journal.disk t image ⊎ GoesOn shop (x.served.acts ++ x.last) front image
  same_since shop p q why x same way front rest is t image le left =
      ⊎_elim (λ past. inl past) (λ on. inr (goes_on_more shop x.served.acts x.last front image on))
      (went_since shop p x.mid x.served.acts way x.served.went front rest is t image le (subst (λ (j : Journal D). tells.left j.disk t image) same left))

  fault_since : (shop : Shop) (p q : Point D) (before after : ℕ) (x : SellLost tells p q (lost.DiskFault before after)) → p.way ≡ outset shop → (front : List ℕ) → AtRest tells front (kept_bytes shop) p.journal → IsKept shop
      → (t : ℕ) (image : List ℕ) → t ≤ tells.moment p.journal.disk → tells.left q.journal.disk t image → tells.left p.journal.disk t image ⊎ GoesOn shop (x.served.acts ++ x.last) front image
  fault_since shop p q before after x way front rest is t image le left =
      let first = map item_bytes (kept p.way x.served.acts) in
      let more = map item_bytes (kept x.mid.way x.last) in
      let all : map item_bytes (kept p.way (x.served.acts ++ x.last)) ≡ first ++ more =
      kept_both p.way x.served.acts x.last ∙ ap (λ (w : Way). first ++ map item_bytes (kept w x.last)) (sym x.served.went.way) in
      let items : AreItems p.way (x.served.acts ++ x.last) =
      items_both p.way x.served.acts x.last x.served.went.items (subst (λ (w : Way). AreItems w x.last) x.served.went.way x.loses.shop.1) in
      ⊎_elim (λ past. inl past)
      (λ some. inr
      (goes_on shop (x.served.acts ++ x.last) front image is (subst (λ (w : Way). AreItems w (x.served.acts ++ x.last)) way items)
      (subst (λ (w : Way). StandsAmong front (kept_bytes shop) (map item_bytes (kept w (x.served.acts ++ x.last))) image) way
      (subst (λ (xs : List (List ℕ)). StandsAmong front (kept_bytes shop) xs image) (sym all) some))))
      ((lost_stops tells p.journal x.mid.journal q.journal first more (lost.DiskFault before after) x.served.went.journal x.loses.journal front (kept_bytes shop) rest).since t image le left)

  since_at : (shop : Shop) (p q : Point D) (end : SellEnd) (e : EndsAt tells p q end) → p.way ≡ outset shop → (front : List ℕ) → AtRest tells front (kept_bytes shop) p.journal → IsKept shop
      → (t : ℕ) (image : List ℕ) → t ≤ tells.moment p.journal.disk → tells.left q.journal.disk t image → tells.left p.journal.disk t image ⊎ GoesOn shop (acts_at tells p q end e) front image
  since_at shop p q ends.Ended e way = stopped_since shop p q e.why e.stopped way
  since_at shop p q ends.ServerFault e way = stopped_since shop p q e.why e.stopped way
  since_at shop p q (ends.DiskFault before after) e way = fault_since shop p q before after e way
  since_at shop p q (ends.Full cap) e way = same_since shop p q (lost.Full cap) e e.loses.journal.0 way
  since_at shop p q ends.NoMemory e way = same_since shop p q lost.NoMemory e e.loses.journal way

  -- what a stop since any moment up to the start of a link leaves
  pub goes_on_since : (old new : Around D) (end : SellEnd) (s : Sold tells old new end) (front : List ℕ) → AtRest tells front (kept_bytes old.shop) old.journal → IsKept old.shop
      → (t : ℕ) (image : List ℕ) → t ≤ tells.moment old.journal.disk → tells.left new.journal.disk t image → tells.left old.journal.disk t image ⊎ GoesOn old.shop (acts_of tells old new end s) front image
  goes_on_since old new end s front rest is t image le left =
      since_at old.shop (first_point old) s.last end s.ended refl front rest is t image le (subst (λ (j : Journal D). tells.left j.disk t image) s.last_is.journal left)

-- ---- the journal holds what was kept

module _ {D : Type 0} (tells : DiskTells D) where
  went_stays : (old new : Around D) (q : Point D) (acts : List Act) → Went tells (first_point old) q acts → new.journal ≡ q.journal → new.shop ≡ q.way.shop → (front : List ℕ)
      → AtRest tells front (kept_bytes old.shop) old.journal → IsKept old.shop → AtRest tells front (kept_bytes new.shop) new.journal × IsKept new.shop
  went_stays old new q acts went journal shop front rest is =
      let w = outset old.shop in
      let now : new.shop ≡ (behind w acts).shop = shop ∙ ap (λ (x : Way). x.shop) went.way in (
        subst (λ (x : Journal D × List (List ℕ)). AtRest tells front x.1 x.0) (λ i. (sym journal i, (sym (shop_bytes w acts) ∙ ap kept_bytes (sym now)) i))
            (went.journal.items front (kept_bytes old.shop) rest),
        subst IsKept (sym now) (all_kept w acts is went.items),
      )

  -- the journal is that behind the last act, and so is the merchant
  pub last_journal : (old new : Around D) (q : Point D) (why : Over) → IsLast q new → (s : Stopped tells (first_point old) q why) → new.journal ≡ s.mid.journal
  last_journal old new q why last s = last.journal ∙ over_journal tells (first_point old) s.mid q s.served.acts why s.over

  stopped_stays : (old new : Around D) (q : Point D) (why : Over) → IsLast q new → Stopped tells (first_point old) q why → (front : List ℕ)
      → AtRest tells front (kept_bytes old.shop) old.journal → IsKept old.shop → AtRest tells front (kept_bytes new.shop) new.journal × IsKept new.shop
  stopped_stays old new q why last s =
      went_stays old new s.mid s.served.acts s.served.went (last_journal old new q why last s) (last.shop ∙ over_shop tells (first_point old) s.mid q s.served.acts why s.over)

  -- its disk's time goes on
  pub moves_on : (old new : Around D) → Sold tells old new ends.Ended → (front : List ℕ) → AtRest tells front (kept_bytes old.shop) old.journal → tells.moment old.journal.disk ≤ tells.moment new.journal.disk
  moves_on old new s front rest =
      subst (λ (j : Journal D). tells.moment old.journal.disk ≤ tells.moment j.disk) (sym (last_journal old new s.last s.ended.why s.last_is s.ended.stopped))
      (s.ended.stopped.served.went.journal.stops front (kept_bytes old.shop) rest).later

  pub stays_kept : StaysKept tells
  stays_kept old new ends.Ended s done = stopped_stays old new s.last s.ended.why s.last_is s.ended.stopped
  stays_kept old new ends.ServerFault s done = stopped_stays old new s.last s.ended.why s.last_is s.ended.stopped
  stays_kept old new (ends.DiskFault before after) s done = absurd done
  stays_kept old new (ends.Full cap) s done = absurd done
  stays_kept old new ends.NoMemory s done = absurd done

  -- and it has the room that it had
  pub room_stays : (old new : Around D) (end : SellEnd) → Sold tells old new end → NothingLost end → new.journal.room ≡ old.journal.room
  room_stays old new ends.Ended s done = ap (λ (j : Journal D). j.room) (last_journal old new s.last s.ended.why s.last_is s.ended.stopped) ∙ s.ended.stopped.served.went.journal.room
  room_stays old new ends.ServerFault s done = ap (λ (j : Journal D). j.room) (last_journal old new s.last s.ended.why s.last_is s.ended.stopped) ∙ s.ended.stopped.served.went.journal.room
  room_stays old new (ends.DiskFault before after) s done = absurd done
  room_stays old new (ends.Full cap) s done = absurd done
  room_stays old new ends.NoMemory s done = absurd done

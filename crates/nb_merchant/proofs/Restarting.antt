-- Restarts over what was kept, and over any items.
use Rattle.std.proofs.Common.{◌≡◌, ℕ, ◌+◌, Bool, true, false, cond, List, [], ◌∷◌, ◌++◌, map, Some, None, Result, Ok, Err, refl, sym, ap, subst, ◌∙◌, append_assoc, append-nil}
use Rattle.std.specs.List.{AllByRecursion}
use Rattle.nb_units.specs.Frames.{AreBytes}
use Rattle.nb_stall.specs.declared.item.Item.{Item}
use Rattle.nb_stall.specs.Spelling.{IsItem, item_bytes}
use Rattle.nb_stall.specs.Reading.{item_of}
use Rattle.nb_merchant.specs.Shop.{Shop, new_shop, unkept, with_item}
use Rattle.nb_merchant.specs.Keeping.{follows, all_follow, taken_up, or_bad, restarted, IsKept}
use Rattle.nb_merchant.specs.Laws.{RestartGivesBack, RestartKeepsItems}
use Rattle.nb_stall.proofs.Layouts.{item_reads_back, item_spells_back}
use Rattle.nb_stall.proofs.Serials.{both_true}

-- ---- a restart over what was kept

restarts : (start : Shop) (items : List Item) (i : ℕ) → AllByRecursion IsItem items → all_follow start items ≡ true
    → restarted start i (map item_bytes items) ≡ Ok (record start { items = start.items ++ items })
restarts start [] i all follow = ap (λ (xs : List Item). let r : Result Shop ℕ = Ok (record start { items = xs }) in r) (sym (append-nil start.items))
restarts start (x ∷ items) i all follow =
    let parts = both_true (follows start x) (all_follow (with_item start x) items) follow in
    let up : taken_up start (item_of (item_bytes x)) ≡ Some (with_item start x) = rw (item_reads_back x all.0, parts.0) refl in
    ap (or_bad i (λ next. restarted next (i + 1) (map item_bytes items))) up ∙ restarts (with_item start x) items (i + 1) all.1 parts.1
    ∙ ap (λ (xs : List Item). let r : Result Shop ℕ = Ok (record start { items = xs }) in r) (append_assoc start.items (x ∷ []) items)

pub restart_gives_back : RestartGivesBack
restart_gives_back shop kept = restarts (unkept shop) shop.items 0 kept.all kept.follow

-- ---- a restart over any items

-- the items that a restart took up behind those that it had
record Took (start : Shop) (journal : List (List ℕ)) (shop : Shop) : Type 0 where
  items : List Item
  is : shop ≡ record start { items = start.items ++ items }
  spelled : map item_bytes items ≡ journal
  all : AllByRecursion IsItem items
  follow : all_follow start items ≡ true

pub shop_is : (a b : Shop) → (let r : Result Shop ℕ = Ok a in r ≡ Ok b) → b ≡ a
shop_is a b e = cc

took : (start : Shop) (journal : List (List ℕ)) (i : ℕ) (shop : Shop) → AllByRecursion AreBytes journal → restarted start i journal ≡ Ok shop → Took start journal shop
took start [] i shop are e =
    record { items = []; is = shop_is start shop e ∙ ap (λ (xs : List Item). record start { items = xs }) (sym (append-nil start.items)); spelled = refl; all = tt; follow = refl }
took start (bytes ∷ more) i shop are e = by (λ next rest. took next more (i + 1) shop are.1 rest) (item_of bytes) refl e
  where
    up : (x : Item) → item_of bytes ≡ Ok x → follows start x ≡ true → Took (with_item start x) more shop → Took start (bytes ∷ more) shop
    up x is next rest =
        let spells = item_spells_back bytes x are.0 is in
        record {
          items = x ∷ rest.items;
          is = rest.is ∙ ap (λ (xs : List Item). record start { items = xs }) (append_assoc start.items (x ∷ []) rest.items);
          spelled = rw (← spells.1, rest.spelled) refl;
          all = (spells.0, rest.all);
          follow = rw (next, rest.follow) refl;
        }

    may : ((next : Shop) → restarted next (i + 1) more ≡ Ok shop → Took next more shop) → (x : Item) → item_of bytes ≡ Ok x → (b : Bool) → follows start x ≡ b
        → or_bad i (λ next. restarted next (i + 1) more) (cond b (Some (with_item start x)) None) ≡ Ok shop → Took start (bytes ∷ more) shop
    may rest x is true next e = up x is next (rest (with_item start x) e)
    may rest x is false next e = absurd cc

    by : ((next : Shop) → restarted next (i + 1) more ≡ Ok shop → Took next more shop) → (read : Result Item ℕ) → item_of bytes ≡ read
        → or_bad i (λ next. restarted next (i + 1) more) (taken_up start read) ≡ Ok shop → Took start (bytes ∷ more) shop
    by rest (Ok x) is e = may rest x is (follows start x) refl e
    by rest (Err place) is e = absurd cc

pub restart_keeps_items : RestartKeepsItems
restart_keeps_items stall products offers journal shop are e =
    let t = took (new_shop stall products offers) journal 0 shop are e in
    let spells : map item_bytes shop.items ≡ journal = ap (λ (s : Shop). map item_bytes s.items) t.is ∙ t.spelled in (
      ap (λ (s : Shop). s.stall) t.is,
      ap (λ (s : Shop). s.products) t.is,
      ap (λ (s : Shop). s.offers) t.is,
      spells,
      subst IsKept (sym t.is) (record { all = t.all; follow = t.follow }),
    )

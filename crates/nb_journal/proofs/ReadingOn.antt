-- Records that are read one behind the other.
use Rattle.std.proofs.Common.{◌≡◌, inl, inr, ℕ, zero, suc, ◌+◌, ◌-◌, ◌<◌, ◌≤◌, List, [], ◌∷◌, ◌++◌, length, take, drop, arith, sym, ap, ◌∙◌, length-append}
use Rattle.std.specs.List.{flat_map, AllByRecursion}
use Rattle.std.proofs.lemmas.List.{append_assoc}
use Rattle.nb_units.specs.Fields.{be4}
use Rattle.nb_journal.specs.Layout.{open_gate, IsItem, item_bytes}
use Rattle.nb_journal.specs.Reading.{Seen, Shut, Item, Broken, first_of, Whole, Fault, reads_on, items_from}
use Rattle.nb_journal.specs.Scanning.{ItemAt, ReadSoFar, AllRead, AreItems}
use Rattle.nb_journal.proofs.Layouts.{item_length, flat_more}
use Rattle.nb_journal.proofs.Records.{lead_seen, item_reads, short_reads}
use Rattle.nb_journal.proofs.Tearing.{order}

-- ---- what is still to be read

-- behind an item
pub items_step : (left : ℕ) (items : List (List ℕ)) (place : ℕ) (bytes item rest : List ℕ) → first_of bytes ≡ Item item rest
    → items_from (suc left) items place bytes ≡ items_from left (items ++ item ∷ []) (place + (length item + 5)) rest
unfolding items_from
items_step left items place bytes item rest seen = ap (λ (s : Seen). reads_on (items_from left) items place s) seen

-- at a gate that is not open
pub items_shut : (left : ℕ) (items : List (List ℕ)) (place : ℕ) (bytes : List ℕ) → first_of bytes ≡ Shut → items_from left items place bytes ≡ Whole items
unfolding items_from
items_shut zero items place bytes seen = ap (λ (s : Seen). reads_on (λ more place' rest. Fault (length items) place) items place s) seen
items_shut (suc left) items place bytes seen = ap (λ (s : Seen). reads_on (items_from left) items place s) seen

-- at what is broken
pub items_broken : (left : ℕ) (items : List (List ℕ)) (place : ℕ) (bytes : List ℕ) → first_of bytes ≡ Broken → items_from left items place bytes ≡ Fault (length items) place
unfolding items_from
items_broken zero items place bytes seen = ap (λ (s : Seen). reads_on (λ more place' rest. Fault (length items) place) items place s) seen
items_broken (suc left) items place bytes seen = ap (λ (s : Seen). reads_on (items_from left) items place s) seen

-- at an item where no more may follow
pub items_full : (items : List (List ℕ)) (place : ℕ) (bytes item rest : List ℕ) → first_of bytes ≡ Item item rest → items_from zero items place bytes ≡ Fault (length items) place
unfolding items_from
items_full items place bytes item rest seen = ap (λ (s : Seen). reads_on (λ more place' rest'. Fault (length items) place) items place s) seen

-- ---- one item more

-- one more of a right length
fit_more : (items : List (List ℕ)) (item : List ℕ) → AllByRecursion IsItem items → IsItem item → AllByRecursion IsItem (items ++ item ∷ [])
fit_more [] item fit is = (is, tt)
fit_more (x ∷ items) item fit is = (fit.0, fit_more items item fit.1 is)

-- where the next gate stands
pub more_items : (cap : ℕ) (items : List (List ℕ)) (place : ℕ) (item : List ℕ) → AreItems cap items place → IsItem item → length items < cap → AreItems cap (items ++ item ∷ []) (place + (length item + 5))
more_items cap items place item are is below = record {
  count = omega (arith, below, length-append items (item ∷ []));
  at = omega (arith, are.at, ap length (flat_more items item), length-append (flat_map item_bytes items) (item_bytes item), item_length item);
  near = omega (arith, are.near, is, length-append items (item ∷ []));
  fit = fit_more items item are.fit is;
}

-- what is left behind the item
pub more_read : (cap : ℕ) (items : List (List ℕ)) (place : ℕ) (item image : List ℕ) → length items < cap → ReadSoFar image cap items place → ItemAt image place item → ReadSoFar image cap (items ++ item ∷ []) (place + (length item + 5))
more_read cap items place item image below so_far there = record {
  left =
      sym (items_step (cap - length (items ++ item ∷ [])) items place (drop place image) item (drop (place + (length item + 5)) image) there.seen)
      ∙ ap (λ (n : ℕ). items_from n items place (drop place image)) fewer
      ∙ so_far.left;
  bytes =
      so_far.bytes
      ∙ ap (λ (xs : List ℕ). flat_map item_bytes items ++ xs) there.bytes
      ∙ sym (append_assoc (flat_map item_bytes items) (item_bytes item) (drop (place + (length item + 5)) image))
      ∙ ap (λ (xs : List ℕ). xs ++ drop (place + (length item + 5)) image) (sym (flat_more items item));
}
  where
    fewer : suc (cap - length (items ++ item ∷ [])) ≡ cap - length items
    fewer = omega (arith, below, length-append items (item ∷ []))

-- ---- the end

-- a gate that is not open ends the items
pub ends_shut : (cap : ℕ) (items : List (List ℕ)) (place : ℕ) (image : List ℕ) → ReadSoFar image cap items place → first_of (drop place image) ≡ Shut → AllRead image cap items place
ends_shut cap items place image so_far shut = record {
  found = sym so_far.left ∙ items_shut (cap - length items) items place (drop place image) shut;
  bytes = so_far.bytes;
  shut = shut;
}

-- a record that is broken is the first fault
pub ends_broken : (cap : ℕ) (items : List (List ℕ)) (place n : ℕ) (image : List ℕ) → n ≡ length items → ReadSoFar image cap items place → first_of (drop place image) ≡ Broken → items_from cap [] 96 (drop 96 image) ≡ Fault n place
ends_broken cap items place n image count so_far broken =
    sym so_far.left ∙ items_broken (cap - length items) items place (drop place image) broken ∙ ap (λ (m : ℕ). Fault m place) (sym count)

-- one item too many
pub ends_full : (cap : ℕ) (items : List (List ℕ)) (place n : ℕ) (image : List ℕ) → cap ≡ length items → n ≤ 2097152 → ReadSoFar image cap items place → take 5 (drop place image) ≡ open_gate ∷ be4 n
    → items_from cap [] 96 (drop 96 image) ≡ Fault cap place
ends_full cap items place n image count most so_far lead =
    let ys = drop (place + 5) image in
    let none : cap - length items ≡ 0 = omega arith in
    elim (order (length ys) n) [
      | inl short ↦ ends_broken cap items place cap image count so_far (lead_seen image place n lead most ∙ short_reads n ys most short)
      | inr there ↦ sym so_far.left ∙ ap (λ (m : ℕ). items_from m items place (drop place image)) none
          ∙ items_full items place (drop place image) (take n ys) (drop n ys) (lead_seen image place n lead most ∙ item_reads n ys most there) ∙ ap (λ (m : ℕ). Fault m place) (sym count)
    ]

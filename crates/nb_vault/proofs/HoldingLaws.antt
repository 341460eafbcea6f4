-- An image stands for one list, and what stands for a list is read as it.
use Rattle.std.proofs.Common.{◌≡◌, ℕ, zero, suc, ◌<◌, List, [], ◌∷◌, ◌++◌, length, take, get_or, refl, sym, ap, subst, ◌∙◌, append_assoc, arith, length-append}
use Rattle.std.specs.Prelude.{map}
use Rattle.std.specs.List.{flat_map, AllByRecursion}
use Rattle.std.proofs.lemmas.List.{map-append, length-map, take_at, get_or_at}
use Rattle.std.proofs.lemmas.Grind.{flat_map-append}
use Rattle.nb_units.specs.declared.charter.Charter.{Charter}
use Rattle.nb_entry.specs.declared.entry.Entry.{Entry}
use Rattle.nb_book.specs.Legal.{LegalUnder}
use Rattle.nb_entry.specs.Spelling.{Spells, entries_bytes}
use Rattle.nb_entry.proofs.Layouts.{one_spelling}
use Rattle.nb_journal.specs.Layout.{IsItem}
use Rattle.nb_journal.specs.Reading.{Holds, IsUnborn, IsDamaged}
use Rattle.nb_journal.proofs.ReadingLaws.{stands_read, one_journal, whole_not_damaged, unborn_is_neither}
use Rattle.nb_vault.specs.Holdings.{Joins, StandsFor, OneList}
use Rattle.nb_vault.specs.Opens.{IsBadEntry}
use Rattle.nb_vault.specs.Restoring.{FirstBad}
use Rattle.nb_vault.proofs.Joining.{few_items, short_entries, under_front}

abbrev AreGroups : List (List Entry) → Type 0
AreGroups groups = AllByRecursion (λ (group : List Entry). Spells (entries_bytes group) group) groups

abbrev joined : List (List Entry) → List Entry
joined groups = flat_map (λ (group : List Entry). group) groups

-- ---- the entries that items spell

same_head : (x y : List ℕ) (xs ys : List (List ℕ)) → x ∷ xs ≡ y ∷ ys → (x ≡ y) × (xs ≡ ys)
same_head x y xs ys e = (cc, cc)

groups_one : (gs hs : List (List Entry)) → AreGroups gs → AreGroups hs → map entries_bytes gs ≡ map entries_bytes hs → gs ≡ hs
groups_one [] [] all each same = refl
groups_one [] (h ∷ hs) all each same = absurd cc
groups_one (g ∷ gs) [] all each same = absurd cc
groups_one (g ∷ gs) (h ∷ hs) all each same =
    let both = same_head (entries_bytes g) (entries_bytes h) (map entries_bytes gs) (map entries_bytes hs) same in
    let one : g ≡ h = one_spelling.1 (entries_bytes g) g h all.0 (subst (λ (x : List ℕ). Spells x h) (sym both.0) each.0) in
    ap (λ (x : List Entry). x ∷ gs) one ∙ ap (λ (xs : List (List Entry)). h ∷ xs) (groups_one gs hs all.1 each.1 both.1)

pub joins_one : (items : List (List ℕ)) (entries others : List Entry) → Joins items entries → Joins items others → entries ≡ others
joins_one items entries others first second = first.joined ∙ ap joined (groups_one first.groups second.groups first.each second.each (sym first.spelled ∙ second.spelled)) ∙ sym second.joined

-- ---- items are short

items_short : (groups : List (List Entry)) → AreGroups groups → AllByRecursion IsItem (map entries_bytes groups)
items_short [] each = tt
items_short (g ∷ gs) each = (omega (arith, short_entries g each.0.each, each.0.most), items_short gs each.1)

-- ---- what stands for a list is read as its journal

pub holds_of : (charter : Charter) (cap : ℕ) (entries : List Entry) (image : List ℕ) (s : StandsFor charter cap entries image) → Holds image cap charter s.items
holds_of charter cap entries image s =
    stands_read image charter cap s.items s.terms (subst (AllByRecursion IsItem) (sym s.joins.spelled) (items_short s.joins.groups s.joins.each)) (omega (arith, few_items s.items entries s.joins, s.within)) s.stands

pub one_list : OneList
one_list image charter charter' cap cap' entries entries' first second =
    let same = one_journal image charter charter' cap cap' first.items second.items (holds_of charter cap entries image first) (holds_of charter' cap' entries' image second) in
    (same.0, same.1, joins_one first.items entries entries' first.joins (subst (λ (items : List (List ℕ)). Joins items entries') (sym same.2) second.joins))

pub no_unborn : (charter : Charter) (cap : ℕ) (entries : List Entry) (image found : List ℕ) → StandsFor charter cap entries image → IsUnborn image found → ⊥
no_unborn charter cap entries image found s unborn = (unborn_is_neither image found charter cap 0 0 s.items unborn).0 (holds_of charter cap entries image s)

pub no_damage : (charter : Charter) (cap : ℕ) (entries : List Entry) (image : List ℕ) (item place : ℕ) → StandsFor charter cap entries image → IsDamaged image item place → ⊥
no_damage charter cap entries image item place s damaged = whole_not_damaged image charter cap item place s.items (holds_of charter cap entries image s) damaged

-- ---- each of its items is good

record SplitAt (groups : List (List Entry)) (n : ℕ) : Type 0 where
  front : List (List Entry)
  group : List Entry
  back : List (List Entry)
  is : groups ≡ front ++ group ∷ back
  at : n ≡ length front

split_groups : (groups : List (List Entry)) (n : ℕ) → n < length groups → SplitAt groups n
split_groups [] n inside = absurd (omega (arith, inside))
split_groups (g ∷ gs) zero inside = record { front = []; group = g; back = gs; is = refl; at = refl }
split_groups (g ∷ gs) (suc n) inside =
    let more = split_groups gs n (omega (arith, inside)) in
    record { front = g ∷ more.front; group = more.group; back = more.back; is = ap (λ (xs : List (List Entry)). g ∷ xs) more.is; at = omega (arith, more.at) }

groups_front : (front : List (List Entry)) (group : List Entry) (back : List (List Entry)) → AreGroups (front ++ group ∷ back) → AreGroups front × Spells (entries_bytes group) group
groups_front [] group back each = (tt, each.0)
groups_front (f ∷ fs) group back each = let more = groups_front fs group back each.1 in ((each.0, more.0), more.1)

pub no_bad : (charter : Charter) (cap : ℕ) (entries : List Entry) (image : List ℕ) (item : ℕ) → StandsFor charter cap entries image → IsBadEntry image item → ⊥
no_bad charter cap entries image item s bad =
    let same = one_journal image charter bad.charter cap bad.cap s.items bad.items (holds_of charter cap entries image s) bad.holds in
    first_bad (subst (λ (ch : Charter). FirstBad ch cap s.items item) (sym same.1) (subst (λ (c : ℕ). FirstBad bad.charter c s.items item) (sym same.0)
    (subst (λ (items : List (List ℕ)). FirstBad bad.charter bad.cap items item) (sym same.2) bad.first)))
  where
    first_bad : FirstBad charter cap s.items item → ⊥
    first_bad first =
        let groups = s.joins.groups in
        let split = split_groups groups item (omega (arith, first.inside, ap length s.joins.spelled, length-map groups entries_bytes)) in
        let parts = groups_front split.front split.group split.back (subst AreGroups split.is s.joins.each) in
        let items_are : s.items ≡ map entries_bytes split.front ++ entries_bytes split.group ∷ map entries_bytes split.back =
        s.joins.spelled ∙ ap (map entries_bytes) split.is ∙ map-append entries_bytes split.front (split.group ∷ split.back) in
        let at : length (map entries_bytes split.front) ≡ item = length-map split.front entries_bytes ∙ sym split.at in
        let front_is : take item s.items ≡ map entries_bytes split.front =
        ap (take item) items_are ∙ take_at (map entries_bytes split.front) (entries_bytes split.group ∷ map entries_bytes split.back) item at in
        let item_is : get_or s.items item [] ≡ entries_bytes split.group =
        ap (λ (xs : List (List ℕ)). get_or xs item []) items_are ∙ get_or_at (map entries_bytes split.front) (entries_bytes split.group) (map entries_bytes split.back) [] item at in
        let before_is : first.before ≡ joined split.front =
        joins_one (take item s.items) first.before (joined split.front) first.joins (record { groups = split.front; spelled = front_is; each = parts.0; joined = refl }) in
        let whole : entries ≡ (first.before ++ split.group) ++ joined split.back =
        s.joins.joined ∙ ap joined split.is ∙ flat_map-append (λ (group : List Entry). group) split.front (split.group ∷ split.back)
        ∙ ap (λ (xs : List Entry). xs ++ (split.group ++ joined split.back)) (sym before_is) ∙ sym (append_assoc first.before split.group (joined split.back)) in
        first.bad split.group (subst (λ (x : List ℕ). Spells x split.group) (sym item_is) parts.1)
        (record { legal = under_front charter.version charter.rate (first.before ++ split.group) (joined split.back) (subst (LegalUnder charter.version charter.rate) whole s.legal); within = omega (arith, s.within, ap length whole, length-append (first.before ++ split.group) (joined split.back)) })

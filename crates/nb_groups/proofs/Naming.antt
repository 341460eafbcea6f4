-- The groups that a word names, number by number.
use Rattle.std.proofs.Common.{◌≡◌, ℕ, ◌+◌, ◌<◌, ◌≤◌, ◌^◌, Bool, true, false, List, [], ◌∷◌, ◌++◌, length, inl, refl, sym, ap, subst, ◌∙◌, append_assoc, append-nil, length-append, arith}
use Rattle.std.specs.Prelude.{◌&&◌, nat_lt, nat_le}
use Rattle.std.specs.List.{AllByRecursion}
use Rattle.std.specs.Fmt.{decimal}
use Rattle.std.proofs.lemmas.Bool.{false≢true, leb-true}
use Rattle.nb_price.proofs.Numerals.{one_number}
use Rattle.nb_price.proofs.Once.{one_numeral}
use Rattle.nb_groups.specs.Groups.{rise, AreGroups, groups_text}
use Rattle.nb_groups.specs.Laws.{OneNaming}

-- a number fits four bytes
abbrev pub Fits : ℕ → Type 0
Fits g = g < 2 ^ 32

-- no number is one with a comma behind it
not_led : (g h : ℕ) (behind : List ℕ) → Fits g → Fits h → decimal g ≡ decimal h ++ 44 ∷ behind → ⊥
not_led g h behind few less e =
    let both : decimal g ++ 44 ∷ [] ≡ decimal h ++ 44 ∷ (behind ++ 44 ∷ []) = ap (λ (xs : List ℕ). xs ++ 44 ∷ []) e ∙ append_assoc (decimal h) (44 ∷ behind) (44 ∷ []) in
    let rest = (one_numeral 44 g h [] (behind ++ 44 ∷ []) (inl (omega arith)) few less both).1 in
    omega (arith, ap length rest, length-append behind (44 ∷ []))

-- ---- two lists of groups

one_text : (a b : List ℕ) → AllByRecursion Fits a → AllByRecursion Fits b → 0 < length a → 0 < length b → groups_text a ≡ groups_text b → a ≡ b
one_text [] b p q some other e = absurd (omega (arith, some))
one_text (g ∷ a) [] p q some other e = absurd (omega (arith, other))
one_text (g ∷ []) (h ∷ []) p q some other e =
    ap (λ (n : ℕ). n ∷ []) (one_number g h p.0 q.0 (sym (append-nil (decimal g)) ∙ e ∙ append-nil (decimal h)))
one_text (g ∷ []) (h ∷ i ∷ b) p q some other e = absurd (not_led g h (groups_text (i ∷ b)) p.0 q.0 (sym (append-nil (decimal g)) ∙ e))
one_text (g ∷ i ∷ a) (h ∷ []) p q some other e = absurd (not_led h g (groups_text (i ∷ a)) q.0 p.0 (sym (append-nil (decimal h)) ∙ sym e))
one_text (g ∷ i ∷ a) (h ∷ j ∷ b) p q some other e =
    let first = one_numeral 44 g h (groups_text (i ∷ a)) (groups_text (j ∷ b)) (inl (omega arith)) p.0 q.0 e in
    let behind = one_text (i ∷ a) (j ∷ b) p.1 q.1 (omega arith) (omega arith) first.1 in
    ap (λ (n : ℕ). n ∷ i ∷ a) first.0 ∙ ap (λ (ns : List ℕ). h ∷ ns) behind

-- there is one at least, and at most four
some_groups : (groups : List ℕ) → AreGroups groups → 0 < length groups
some_groups [] are = absurd (false≢true are.0)
some_groups (g ∷ groups) are = omega arith

few_groups : (groups : List ℕ) → AreGroups groups → length groups ≤ 4
few_groups groups are = by (nat_lt 0 (length groups)) (nat_le (length groups) 4) (rise groups) refl are.0
  where
    by : (a b c : Bool) → nat_le (length groups) 4 ≡ b → (a && b && c) ≡ true → length groups ≤ 4
    by true true c few is = leb-true (length groups) 4 few
    by true false c few is = absurd (false≢true is)
    by false b c few is = absurd (false≢true is)

pub one_naming : OneNaming
one_naming a b p q e = one_text a b p.1 q.1 (some_groups a p) (some_groups b q) e

-- ---- what was named so far

-- the groups of the word are these numbers and those that the rest names, one at least
pub record Tail (groups numbers rest : List ℕ) : Type 0 where
  pub tail : List ℕ
  pub some : 0 < length tail
  pub are : groups ≡ numbers ++ tail
  pub rest_is : rest ≡ groups_text tail

pub record SoFar (word numbers rest : List ℕ) : Type 0 where
  pub few : length numbers < 4
  pub fit : AllByRecursion Fits numbers
  pub names : (tail : List ℕ) → 0 < length tail → rest ≡ groups_text tail → word ≡ groups_text (numbers ++ tail)
  pub each : (groups : List ℕ) → AreGroups groups → word ≡ groups_text groups → Tail groups numbers rest

pub nothing_named : (word : List ℕ) → SoFar word [] word
nothing_named word = record {
  few = omega arith;
  fit = tt;
  names = λ tail some e. e;
  each = λ groups are e. record { tail = groups; some = some_groups groups are; are = refl; rest_is = e };
}

all_more : (numbers : List ℕ) (g : ℕ) → AllByRecursion Fits numbers → Fits g → AllByRecursion Fits (numbers ++ g ∷ [])
all_more [] g all fits = (fits, tt)
all_more (n ∷ numbers) g all fits = (all.0, all_more numbers g all.1 fits)

in_tail : (numbers more : List ℕ) (g : ℕ) → AllByRecursion Fits (numbers ++ g ∷ more) → Fits g
in_tail [] more g all = all.0
in_tail (n ∷ numbers) more g all = in_tail numbers more g all.1

-- behind a number and its comma others are named
record Others (groups numbers : List ℕ) (g : ℕ) (behind : List ℕ) : Type 0 where
  next : ℕ
  more : List ℕ
  are : groups ≡ numbers ++ g ∷ next ∷ more
  behind_is : behind ≡ groups_text (next ∷ more)

others : (groups numbers rest behind : List ℕ) (g : ℕ) → Tail groups numbers rest → AllByRecursion Fits groups → rest ≡ decimal g ++ 44 ∷ behind → Fits g → Others groups numbers g behind
others groups numbers rest behind g t all is fits = by t.tail t.some t.are t.rest_is
  where
    by : (tail : List ℕ) → 0 < length tail → groups ≡ numbers ++ tail → rest ≡ groups_text tail → Others groups numbers g behind
    by [] some are rest_is = absurd (omega (arith, some))
    by (h ∷ []) some are rest_is =
        absurd (not_led h g behind (in_tail numbers [] h (subst (AllByRecursion Fits) are all)) fits (sym (append-nil (decimal h)) ∙ sym rest_is ∙ is))
    by (h ∷ i ∷ more) some are rest_is =
        let one = one_numeral 44 h g (groups_text (i ∷ more)) behind (inl (omega arith)) (in_tail numbers (i ∷ more) h (subst (AllByRecursion Fits) are all)) fits (sym rest_is ∙ is) in
        record { next = i; more = more; are = are ∙ ap (λ (n : ℕ). numbers ++ n ∷ i ∷ more) one.0; behind_is = sym one.1 }

pub one_more : (word numbers rest behind : List ℕ) (g : ℕ) → SoFar word numbers rest → rest ≡ decimal g ++ 44 ∷ behind → Fits g → length numbers + 1 < 4 → SoFar word (numbers ++ g ∷ []) behind
one_more word numbers rest behind g so is fits room = record {
  few = omega (arith, room, length-append numbers (g ∷ []));
  fit = all_more numbers g so.fit fits;
  names = names;
  each = each;
}
  where
    names : (tail : List ℕ) → 0 < length tail → behind ≡ groups_text tail → word ≡ groups_text ((numbers ++ g ∷ []) ++ tail)
    names [] some e = absurd (omega (arith, some))
    names (h ∷ more) some e =
        so.names (g ∷ h ∷ more) (omega arith) (is ∙ ap (λ (xs : List ℕ). decimal g ++ 44 ∷ xs) e) ∙ ap groups_text (sym (append_assoc numbers (g ∷ []) (h ∷ more)))

    each : (groups : List ℕ) → AreGroups groups → word ≡ groups_text groups → Tail groups (numbers ++ g ∷ []) behind
    each groups are e =
        let o = others groups numbers rest behind g (so.each groups are e) are.1 is fits in
        record { tail = o.next ∷ o.more; some = omega arith; are = o.are ∙ sym (append_assoc numbers (g ∷ []) (o.next ∷ o.more)); rest_is = o.behind_is }

-- with a fourth number that has a comma behind it the word names too many
pub too_many : (word numbers rest behind : List ℕ) (g : ℕ) → SoFar word numbers rest → rest ≡ decimal g ++ 44 ∷ behind → Fits g → length numbers + 1 ≡ 4
    → (groups : List ℕ) → AreGroups groups → word ≡ groups_text groups → ⊥
too_many word numbers rest behind g so is fits full groups are e =
    let o = others groups numbers rest behind g (so.each groups are e) are.1 is fits in
    omega (arith, few_groups groups are, ap length o.are, length-append numbers (g ∷ o.next ∷ o.more), full)

-- where no comma follows, the rest is the last number
pub record Last (groups numbers rest : List ℕ) : Type 0 where
  pub last : ℕ
  pub fits : Fits last
  pub are : groups ≡ numbers ++ last ∷ []
  pub rest_is : rest ≡ decimal last

pub last_of : (word numbers rest : List ℕ) → SoFar word numbers rest → ((n : ℕ) (behind : List ℕ) → Fits n → rest ≡ decimal n ++ 44 ∷ behind → ⊥)
    → (groups : List ℕ) → AreGroups groups → word ≡ groups_text groups → Last groups numbers rest
last_of word numbers rest so none groups are e = by t.tail t.some t.are t.rest_is
  where
    t : Tail groups numbers rest
    t = so.each groups are e

    by : (tail : List ℕ) → 0 < length tail → groups ≡ numbers ++ tail → rest ≡ groups_text tail → Last groups numbers rest
    by [] some is rest_is = absurd (omega (arith, some))
    by (h ∷ []) some is rest_is = record { last = h; fits = in_tail numbers [] h (subst (AllByRecursion Fits) is are.1); are = is; rest_is = rest_is ∙ append-nil (decimal h) }
    by (h ∷ i ∷ more) some is rest_is = absurd (none h (groups_text (i ∷ more)) (in_tail numbers (i ∷ more) h (subst (AllByRecursion Fits) is are.1)) rest_is)

-- with it the word names the numbers
pub named_so : (word numbers rest : List ℕ) (last : ℕ) → SoFar word numbers rest → rest ≡ decimal last → Fits last
    → (word ≡ groups_text (numbers ++ last ∷ [])) × AllByRecursion Fits (numbers ++ last ∷ [])
named_so word numbers rest last so is fits = (so.names (last ∷ []) (omega arith) (is ∙ sym (append-nil (decimal last))), all_more numbers last so.fit fits)

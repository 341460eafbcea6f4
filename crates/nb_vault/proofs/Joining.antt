-- Items, and the lists that they spell.
use Rattle.std.proofs.Common.{◌≡◌, ◌⊎◌, inl, inr, ⊎_elim, ℕ, suc, ◌+◌, ◌*◌, ◌<◌, ◌≤◌, Bool, ltb, false, true, List, [], ◌∷◌, ◌++◌, length, take, drop, get_or, refl, sym, ap, subst, ◌∙◌, append_assoc, arith}
use Rattle.std.specs.Prelude.{map}
use Rattle.std.specs.List.{flat_map, AllByRecursion}
use Rattle.std.proofs.lemmas.List.{map-append, append-nil, length-append, take-append-le, take-append-drop, take_at, get_or_append_left}
use Rattle.std.proofs.Math.Seq.{drop-cons, take-append_seam, get_or-append_seam}
use Rattle.std.proofs.lemmas.Bool.{ltb-true, ltb-false}
use Rattle.std.proofs.lemmas.Grind.{flat_map-append}
use Rattle.nb_units.specs.Charter.{MayRule, AreVersionAndRate}
use Rattle.nb_entry.specs.declared.entry.Entry.{Entry}
use Rattle.nb_book.specs.Legal.{IsOfRate, LegalAfter, Legal, LegalUnder, NextUnder}
use Rattle.nb_entry.specs.Spelling.{entry_bytes, entries_bytes, IsEntry, Spells}
use Rattle.nb_book.proofs.Growing.{front_legal}
use Rattle.nb_entry.proofs.Layouts.{entry_layout}
use Rattle.nb_turns.proofs.Lists.{all_at, all_parts}
use Rattle.nb_vault.specs.Holdings.{Joins}

-- ---- lists

pub all_more : {A : Type 0} (P : A → Type 0) (xs : List A) (x : A) → AllByRecursion P xs → P x → AllByRecursion P (xs ++ x ∷ [])
all_more P [] x all one = (one, tt)
all_more P (y ∷ ys) x all one = (all.0, all_more P ys x all.1 one)

pub no_both : (b : Bool) → b ≡ false → b ≡ true → ⊥
no_both true e f = cc
no_both false e f = cc

pub by_list : {A : Type 0} (P : Type 0) (xs : List A) → (xs ≡ [] → P) → ((x : A) (more : List A) → xs ≡ x ∷ more → P) → P
by_list P [] none some = none refl
by_list P (x ∷ xs) none some = some x xs refl

pub some_of : {A : Type 0} (xs ys : List A) → (length ys ≡ 0 → ⊥) → ys ≡ xs → xs ≡ [] → ⊥
some_of xs ys some is none = some (ap length (is ∙ none))

pub some_length : {A : Type 0} (xs : List A) → (xs ≡ [] → ⊥) → 1 ≤ length xs
some_length [] some = absurd (some refl)
some_length (x ∷ xs) some = omega arith

-- ---- items

-- there are no more items than entries
pub few_items : (items : List (List ℕ)) (entries : List Entry) → Joins items entries → length items ≤ length entries
few_items items entries joins = omega (arith, ap length joins.spelled, ap length joins.joined, count joins.groups joins.each)
  where
    count : (groups : List (List Entry)) → AllByRecursion (λ (group : List Entry). Spells (entries_bytes group) group) groups → length (map entries_bytes groups) ≤ length (flat_map (λ (group : List Entry). group) groups)
    count [] each = omega arith
    count (g ∷ gs) each = omega (arith, each.0.some, count gs each.1, length-append g (flat_map (λ (group : List Entry). group) gs))

-- one item more
pub joins_item : (items : List (List ℕ)) (item : List ℕ) (entries more : List Entry) → Joins items entries → Spells item more → Joins (items ++ item ∷ []) (entries ++ more)
joins_item items item entries more joins spells = record {
  groups = joins.groups ++ more ∷ [];
  spelled = ap (λ (xs : List (List ℕ)). xs ++ item ∷ []) joins.spelled ∙ ap (λ (x : List ℕ). map entries_bytes joins.groups ++ x ∷ []) spells.bytes ∙ sym (map-append entries_bytes joins.groups (more ∷ []));
  each = all_more (λ (group : List Entry). Spells (entries_bytes group) group) joins.groups more joins.each (subst (λ (x : List ℕ). Spells x more) spells.bytes spells);
  joined = ap (λ (xs : List Entry). xs ++ more) joins.joined ∙ ap (λ (xs : List Entry). flat_map (λ (group : List Entry). group) joins.groups ++ xs) (sym (append-nil more)) ∙ sym (flat_map-append (λ (group : List Entry). group) joins.groups (more ∷ []));
}

-- entries are short
pub short_entries : (es : List Entry) → AllByRecursion IsEntry es → length (entries_bytes es) ≤ 125 * length es
short_entries [] each = omega arith
short_entries (e ∷ es) each = omega (arith, (entry_layout.0 e each.0).1, short_entries es each.1, length-append (entry_bytes e) (entries_bytes es))

-- ---- Legal lists

split : (i n : ℕ) → i < n + 1 → (i < n) ⊎ (i ≡ n)
split i n le = order (ltb i n) refl
  where
    order : (test : Bool) → ltb i n ≡ test → (i < n) ⊎ (i ≡ n)
    order true is = inl (ltb-true i n is)
    order false is = inr (omega (arith, le, ltb-false i n is))

-- one legal entry more
pub legal_more : (H : List Entry) (e : Entry) → Legal H → LegalAfter H e → Legal (H ++ e ∷ [])
legal_more H e legal next = record {
  each = λ k inside d. ⊎_elim
      (λ within. rw (take-append-le k H (e ∷ []) (omega (arith, within)), get_or_append_left H (e ∷ []) d k within) (legal.each k within d))
      (λ last. subst (λ (n : ℕ). LegalAfter (take n (H ++ e ∷ [])) (get_or (H ++ e ∷ []) n d)) (sym last) (rw (take-append_seam H (e ∷ []), get_or-append_seam H e [] d) next))
      (below k inside);
}
  where
    below : (k : ℕ) → k < length (H ++ e ∷ []) → (k < length H) ⊎ (k ≡ length H)
    below k inside = split k (length H) (omega (arith, inside, length-append H (e ∷ [])))

-- each entry of a Legal list is legal behind those before it
pub legal_at : (xs : List Entry) (e : Entry) (more : List Entry) → Legal (xs ++ e ∷ more) → LegalAfter xs e
legal_at xs e more legal =
    let at = legal.each (length xs) (omega (arith, length-append xs (e ∷ more))) e in
    subst (λ (H : List Entry). LegalAfter H e) (take-append_seam xs (e ∷ more)) (subst (LegalAfter (take (length xs) (xs ++ e ∷ more))) (get_or-append_seam xs e more e) at)

-- so is each of those that come behind a front, one after another
pub legal_next : (front entries now : List Entry) (i : ℕ) (d : Entry) → Legal (front ++ entries) → now ≡ front ++ take i entries → i < length entries → LegalAfter now (get_or entries i d)
legal_next front entries now i d legal is inside =
    let whole : front ++ entries ≡ now ++ get_or entries i d ∷ drop (suc i) entries =
    ap (λ (es : List Entry). front ++ es) (sym (take-append-drop i entries) ∙ ap (λ (es : List Entry). take i entries ++ es) (drop-cons entries i d inside))
    ∙ sym (append_assoc front (take i entries) (get_or entries i d ∷ drop (suc i) entries)) ∙ ap (λ (es : List Entry). es ++ get_or entries i d ∷ drop (suc i) entries) (sym is) in
    legal_at now (get_or entries i d) (drop (suc i) entries) (subst Legal whole legal)

-- ---- under a version and a rate

-- what a journal may have a house may decide under
pub may_rule : (version rate : ℕ) → AreVersionAndRate version rate → MayRule version rate
may_rule version rate (inl first) = (inl first.0, omega (arith, first.1))
may_rule version rate (inr fee) = (inr fee.0, fee.1)

module _ (version rate : ℕ) where
  pub under_more : (H : List Entry) (e : Entry) → LegalUnder version rate H → NextUnder version rate H e → LegalUnder version rate (H ++ e ∷ [])
  under_more H e under next = record { legal = legal_more H e under.legal next.0; each = all_more (IsOfRate version rate) H e under.each next.1 }

  pub under_at : (xs : List Entry) (e : Entry) (more : List Entry) → LegalUnder version rate (xs ++ e ∷ more) → NextUnder version rate xs e
  under_at xs e more under = (legal_at xs e more under.legal, all_at (IsOfRate version rate) xs e more under.each)

  pub under_front : (xs more : List Entry) → LegalUnder version rate (xs ++ more) → LegalUnder version rate xs
  under_front xs more under = record {
    legal = subst Legal (take_at xs more (length xs) refl) (front_legal (xs ++ more) (length xs) under.legal);
    each = (all_parts (IsOfRate version rate) xs more under.each).0;
  }

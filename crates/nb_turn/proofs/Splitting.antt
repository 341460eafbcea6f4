-- A table at its start has the rule, and the split of a seat, the setting of a bit and the load keep it.
use Rattle.std.proofs.Common.{◌≡◌, ◌≢◌, ℕ, zero, suc, ◌^◌, Bool, false, true≢false, cond, eqb, eq-eqb, ne_eqb, List, [], ◌∷◌, ◌++◌, slice_index, set, bit_or, Option, Some, sym, refl, ap, ◌∙◌, subst, ⊎_elim, arith}
use Rattle.std.specs.Int.{bit_at}
use Rattle.std.proofs.lemmas.Nat.Bits.{bit_at_or, bit_at-pow_same}
use Rattle.std.proofs.lemmas.Option.{same_Some}
use mathlib.Core.Logic.{dite}
use native.Mathlib.Decide.{ℕ_discrete}
use mathlib.Core.Option.{some, none, some-ne-none, some-injective}
use mathlib.Core.Option as maybe
use lib.ListN.{get_elem?}
use Rattle.atomic_table.specs.Table.{State, step, keeps, Allows, Splits, opening}
use Rattle.atomic_table.proofs.Lists.{at_snoc, at_longer, set_again}
use Rattle.nb_turn.specs.declared.chronicle.View.{View}
use Rattle.nb_turn.specs.Lines.{StartsWith, Lone, lines_by}
use Rattle.nb_turn.specs.Views.{newcomer, fresh_view, found_one, named}
use Rattle.nb_turn.specs.Rule.{Knows, KeptWith, KeptAt, Kept}
use Rattle.nb_turn.specs.Told.{Claims, Settles}
use Rattle.nb_turn.proofs.Lists.{each_set, starts-refl, by-none, by-append, both_empty}
use Rattle.nb_turn.proofs.Rules.{word_0, word_2, holder_kept, settled_at}

module _ {T O L : Type 0} (origin : T → O) (history_of : T → List L) (maker : L → ℕ) (start : O) where
  abbrev V : Type 0
  V = View O L

  abbrev St : Type 0
  St = State (Option T) V

  abbrev Rule : St → Type 0
  Rule = Kept origin history_of maker start

  abbrev At : List (maybe.Option (Option T)) → List V → ℕ → ℕ → ℕ → Type 0
  At homes views turn count bits = KeptAt origin history_of maker start turn count bits homes views

  pub starts : (value : T) → origin value ≡ start → history_of value ≡ [] → Rule (opening (0 ∷ 0 ∷ 1 ∷ []) (Some value ∷ []) (fresh_view start))
  starts value from empty = (
    refl,
    (
      [],
      0,
      (λ _. (0, 0)),
      record {
        turn_is = omega arith;
        held_is = λ e. absurd (omega arith);
        count_is = refl;
        home_is = λ _. (value, refl, from, empty);
        out_is = λ e. absurd (omega arith);
        bits_are = λ k l e. absurd (some-ne-none l (sym e));
        each = λ id v e. first id v e;
      },
    ),
  ) where
    part : (k : ℕ) (p : ℕ × List L) → get_elem? ((0, []) ∷ []) k ≡ some p → (◌≡◌ {A = ℕ × ℕ} (0, 0) (0, k)) × Lone maker p.0 [] p.1 × StartsWith [] p.1 × (bit_at 1 p.0 ≡ 1)
    part zero p e = subst (λ (q : ℕ × List L). (◌≡◌ {A = ℕ × ℕ} (0, 0) (0, 0)) × Lone maker q.0 [] q.1 × StartsWith [] q.1 × (bit_at 1 q.0 ≡ 1)) (some-injective {A = ℕ × List L} (0, []) p e) (refl, ([], refl, refl), ([], refl), refl)
    part (suc k) p e = absurd (some-ne-none p (sym e))

    view : Knows maker start 0 1 [] 0 (λ _. (0, 0)) 0 (fresh_view start)
    view = record { origin_is = λ o e. sym (same_Some start o e); seen_is = ([], refl); holds_is = λ h. absurd (true≢false (sym h)); parts_are = part }

    first : (id : ℕ) (v : V) → get_elem? (fresh_view start ∷ []) id ≡ some v → Knows maker start 0 1 [] 0 (λ _. (0, 0)) id v
    first zero v e = subst (Knows maker start 0 1 [] 0 (λ _. (0, 0)) 0) (some-injective (fresh_view start) v e) view
    first (suc id) v e = absurd (some-ne-none v (sym e))

  -- one view more, which has no number
  splits_at : (s : St) (id : ℕ) (v : V) → get_elem? s.views id ≡ some v → (turn count bits : ℕ) (history : List L) (holder : ℕ) (owner : ℕ → ℕ × ℕ)
      → KeptWith origin history_of maker start history holder owner turn count bits s.homes s.views
      → KeptWith origin history_of maker start history holder owner turn count bits s.homes (s.views ++ newcomer v ∷ [])
  splits_at s id v at turn count bits history holder owner k =
      let mine = k.each id v at in record {
        turn_is = k.turn_is;
        held_is = λ e. let h = k.held_is e in (h.0, at_longer s.views (newcomer v ∷ []) holder h.0 h.1, h.2);
        count_is = k.count_is;
        home_is = k.home_is;
        out_is = k.out_is;
        bits_are = k.bits_are;
        each = λ j u e. ⊎_elim (λ (t : get_elem? s.views j ≡ some u). k.each j u t)
            (λ (t : newcomer v ≡ u). subst (Knows maker start turn bits history holder owner j) t
            record { origin_is = mine.origin_is; seen_is = mine.seen_is; holds_is = λ h. absurd (true≢false (sym h)); parts_are = λ i p z. absurd (some-ne-none p (sym z)) })
            (at_snoc s.views (newcomer v) u j e);
      }

  pub splits_seat : (id : ℕ) (v : V) → Splits Rule id v v (newcomer v)
  splits_seat id v s (wide, (history, holder, owner, k)) at = (
    wide,
    (
      history,
      holder,
      owner,
      subst (λ (vs : List V). KeptWith origin history_of maker start history holder owner (slice_index s.words 0) (slice_index s.words 1) (slice_index s.words 2) s.homes (vs ++ newcomer v ∷ []))
          (sym (set_again s.views id v at)) (splits_at s id v at _ _ _ history holder owner k),
    ),
  )

  -- a bit that is set stays
  bit_stays : (bits n i : ℕ) → bit_at bits i ≡ 1 → bit_at (bit_or bits (2 ^ n)) i ≡ 1
  bit_stays bits n i e = omega (arith, bit_at_or bits (2 ^ n) i, e)

  bit_set : (bits n : ℕ) → bit_at (bit_or bits (2 ^ n)) n ≡ 1
  bit_set bits n = omega (arith, bit_at_or bits (2 ^ n) n, bit_at-pow_same n)

  -- the bit was set: nothing changes but what was found
  claims_set : (s : St) (id : ℕ) (v : V) (n value : ℕ) → get_elem? s.views id ≡ some v → (turn count bits : ℕ) (history : List L) (holder : ℕ) (owner : ℕ → ℕ × ℕ)
      → KeptWith origin history_of maker start history holder owner turn count bits s.homes s.views
      → KeptWith origin history_of maker start history holder owner turn count (bit_or bits (2 ^ n)) s.homes (set s.views id (found_one 2 value v))
  claims_set s id v n value at turn count bits history holder owner k =
      let mine = k.each id v at in record {
        turn_is = k.turn_is;
        held_is = λ e. holder_kept s.views holder id v (found_one 2 value v) at (λ h. h) (k.held_is e);
        count_is = k.count_is;
        home_is = k.home_is;
        out_is = k.out_is;
        bits_are = λ i l e. bit_stays bits n (maker l) (k.bits_are i l e);
        each = each_set (λ (j : ℕ) (u : V). Knows maker start turn (bit_or bits (2 ^ n)) history holder owner j u) s.views id (found_one 2 value v)
            record { origin_is = mine.origin_is; seen_is = mine.seen_is; holds_is = mine.holds_is; parts_are = λ i p e. let q = mine.parts_are i p e in (q.0, q.1, q.2, bit_stays bits n p.0 q.3) }
            (λ j u other e. let theirs = k.each j u e in record {
              origin_is = theirs.origin_is;
              seen_is = theirs.seen_is;
              holds_is = theirs.holds_is;
              parts_are = λ i p t. let q = theirs.parts_are i p t in (q.0, q.1, q.2, bit_stays bits n p.0 q.3);
            });
      }

  -- the place of each number, with a new one
  abbrev placed : (ℕ → ℕ × ℕ) → ℕ → ℕ × ℕ → ℕ → ℕ × ℕ
  placed owner n place m = cond (eqb m n) place (owner m)

  placed_other : (owner : ℕ → ℕ × ℕ) (n m : ℕ) (place : ℕ × ℕ) → m ≢ n → placed owner n place m ≡ owner m
  placed_other owner n m place other = ap (λ (b : Bool). cond b place (owner m)) (ne_eqb m n other)

  placed_here : (owner : ℕ → ℕ × ℕ) (n : ℕ) (place : ℕ × ℕ) → placed owner n place n ≡ place
  placed_here owner n place = ap (λ (b : Bool). cond b place (owner n)) (eq-eqb n n refl)

  -- the history has no line of a number whose bit is clear
  none_yet : (bits n : ℕ) (history : List L) → ((k : ℕ) (l : L) → get_elem? history k ≡ some l → bit_at bits (maker l) ≡ 1) → bit_at bits n ≡ 0 → lines_by maker n history ≡ []
  none_yet bits n history each clear = by-none maker n history (λ k l e same. absurd (omega (arith, each k l e, ap (bit_at bits) same, clear)))

  -- the bit was clear: the seat has the number
  claims_clear : (s : St) (id : ℕ) (v : V) (n value : ℕ) → get_elem? s.views id ≡ some v → v.holds ≡ false → v.parts ≡ [] → (turn count bits : ℕ) (history : List L) (holder : ℕ) (owner : ℕ → ℕ × ℕ) → bit_at bits n ≡ 0
      → KeptWith origin history_of maker start history holder owner turn count bits s.homes s.views
      → KeptWith origin history_of maker start history holder (placed owner n (id, 0)) turn count (bit_or bits (2 ^ n)) s.homes (set s.views id (named n value v))
  claims_clear s id v n value at idle empty turn count bits history holder owner clear k =
      let mine = k.each id v at in
      let no_line = none_yet bits n history k.bits_are clear in
      let rest = mine.seen_is.0 in
      let apart = both_empty (lines_by maker n v.seen) (lines_by maker n rest) (sym (by-append maker n v.seen rest) ∙ ap (lines_by maker n) (sym mine.seen_is.1) ∙ no_line) in
      record {
        turn_is = k.turn_is;
        held_is = λ e. holder_kept s.views holder id v (named n value v) at (λ h. h) (k.held_is e);
        count_is = k.count_is;
        home_is = k.home_is;
        out_is = k.out_is;
        bits_are = λ i l e. bit_stays bits n (maker l) (k.bits_are i l e);
        each = each_set (λ (j : ℕ) (u : V). Knows maker start turn (bit_or bits (2 ^ n)) history holder (placed owner n (id, 0)) j u) s.views id (named n value v)
            record {
              origin_is = mine.origin_is;
              seen_is = mine.seen_is;
              holds_is = λ h. absurd (true≢false (sym h ∙ idle));
              parts_are = the_part (set s.views id (named n value v)) (named n value v) history owner (placed_here owner n (id, 0)) (rest, mine.seen_is.1, apart.1) (bit_set bits n);
            }
            (λ j u other e. let theirs = k.each j u e in record {
              origin_is = theirs.origin_is;
              seen_is = theirs.seen_is;
              holds_is = theirs.holds_is;
              parts_are = λ i p t. let q = theirs.parts_are i p t in
                  let fresh : p.0 ≢ n = λ same. absurd (omega (arith, q.3, ap (bit_at bits) same, clear)) in
                  (placed_other owner n p.0 (id, 0) fresh ∙ q.0, q.1, q.2, bit_stays bits n p.0 q.3);
            });
      } where
        the_part : (vs : List V) (w : V) (all : List L) (own : ℕ → ℕ × ℕ) → placed own n (id, 0) n ≡ (id, 0) → Lone maker n all v.seen → bit_at (bit_or bits (2 ^ n)) n ≡ 1
            → (i : ℕ) (p : ℕ × List L) → get_elem? ((n, v.seen) ∷ []) i ≡ some p → (placed own n (id, 0) p.0 ≡ (id, i)) × Lone maker p.0 all p.1 × StartsWith v.seen p.1 × (bit_at (bit_or bits (2 ^ n)) p.0 ≡ 1)
        the_part vs w all own here lone set zero p e =
            subst (λ (q : ℕ × List L). (placed own n (id, 0) q.0 ≡ (id, 0)) × Lone maker q.0 all q.1 × StartsWith v.seen q.1 × (bit_at (bit_or bits (2 ^ n)) q.0 ≡ 1)) (some-injective {A = ℕ × List L} (n, v.seen) p e) (here, lone, starts-refl v.seen, set)
        the_part vs w all own here lone set (suc i) p e = absurd (some-ne-none p (sym e))

  -- the setting of a number's bit by a seat without a number
  pub claims_number : (id : ℕ) (v : V) (n : ℕ) → v.holds ≡ false → v.parts ≡ [] → Allows Rule 1 id (v, []) 2 (λ value. bit_or value (2 ^ n)) (Claims maker (step 1 2 (2 ^ n) 0 none) (v, []))
  claims_number id v n idle empty s (wide, (history, holder, owner, k)) deep at small =
      dite (ℕ_discrete (bit_at (slice_index s.words 2) n) 1)
      (λ set_already. (
        found_one 2 (slice_index s.words 2) v,
        keeps,
        tt,
        word_2 (At s.homes (set s.views id (found_one 2 (slice_index s.words 2) v))) s.words (bit_or (slice_index s.words 2) (2 ^ n)) wide
            (history, holder, owner, claims_set s id v n (slice_index s.words 2) at _ _ (slice_index s.words 2) history holder owner k),
        (n, refl, refl, (λ _. refl), λ clear. absurd (omega (arith, clear, set_already))),
      ))
      (λ not_set.
      let clear : bit_at (slice_index s.words 2) n ≡ 0 = omega arith in
      let rest = (k.each id v at).seen_is in (
        named n (slice_index s.words 2) v,
        keeps,
        tt,
        word_2 (At s.homes (set s.views id (named n (slice_index s.words 2) v))) s.words (bit_or (slice_index s.words 2) (2 ^ n)) wide
            (history, holder, placed owner n (id, 0), claims_clear s id v n (slice_index s.words 2) at idle empty _ _ (slice_index s.words 2) history holder owner clear k),
        (
          n,
          refl,
          refl,
          (λ was. absurd (omega (arith, clear, was))),
          λ _. (
            refl,
            (both_empty (lines_by maker n v.seen) (lines_by maker n rest.0)
                (sym (by-append maker n v.seen rest.0) ∙ ap (lines_by maker n) (sym rest.1) ∙ none_yet (slice_index s.words 2) n history k.bits_are clear)).0,
          ),
        ),
      ))

  -- a load of the word of the turn
  pub settles : (id : ℕ) (v : V) (slot : List (ℕ × Option T)) → Allows Rule 1 id (v, slot) 0 (λ n. n) (Settles maker (step 1 0 0 0 none) (v, slot))
  settles id v slot s (wide, (history, holder, owner, k)) deep at small = (
    v,
    keeps,
    tt,
    word_0 (At s.homes (set s.views id v)) s.words (slice_index s.words 0) wide
        (history, holder, owner, subst (λ (vs : List V). KeptWith origin history_of maker start history holder owner (slice_index s.words 0) (slice_index s.words 1) (slice_index s.words 2) s.homes vs) (sym (set_again s.views id v at)) k),
    (refl, refl, settled_at origin history_of maker start _ _ holder owner id v history (k.each id v at)),
  )

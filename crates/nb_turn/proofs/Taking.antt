-- The two swaps into the word of the turn keep the rule.
use Rattle.std.proofs.Common.{◌≡◌, ℕ, zero, suc, ◌<◌, true, false, true≢false, List, [], ◌∷◌, length, slice_index, slice_set, set, Option, Some, is_some, sym, refl, ◌∙◌, subst, arith}
use mathlib.Core.Option.{some, none, some-ne-none}
use mathlib.Core.Option as maybe
use lib.ListN.{get_elem?}
use Rattle.atomic_table.specs.Table.{State, step, Act, keeps, takes, gives, stepped, carried_after, Valid, Allows}
use Rattle.atomic_table.proofs.Lists.{set_here}
use Rattle.nb_turn.specs.declared.chronicle.View.{View}
use Rattle.nb_turn.specs.Views.{found_one, took, gave}
use Rattle.nb_turn.specs.Rule.{Knows, KeptWith, KeptAt, Kept}
use Rattle.nb_turn.specs.Told.{Takes, Frees}
use Rattle.nb_turn.proofs.Lists.{each_set, starts-refl, at_firsts, length-first_sees, lone-refl, lone_starts}
use Rattle.nb_turn.proofs.Rules.{word_0, holder_kept, set_there, meets, settled_at}

module _ {T O L : Type 0} (origin : T → O) (history_of : T → List L) (maker : L → ℕ) (start : O) where
  abbrev V : Type 0
  V = View O L

  abbrev St : Type 0
  St = State (Option T) V

  abbrev Rule : St → Type 0
  Rule = Kept origin history_of maker start

  abbrev At : List (maybe.Option (Option T)) → List V → ℕ → ℕ → ℕ → Type 0
  At homes views turn count bits = KeptAt origin history_of maker start turn count bits homes views

  -- where the turn is free
  takes_free : (s : St) (id : ℕ) (v : V) (count bits : ℕ) (history : List L) (holder : ℕ) (owner : ℕ → ℕ × ℕ) → get_elem? s.views id ≡ some v → v.holds ≡ false → 0 < length v.parts → length s.homes ≡ 1
      → KeptWith origin history_of maker start history holder owner 0 count bits s.homes s.views
      → KeptWith origin history_of maker start history id owner 1 count bits (slice_set s.homes 0 none) (set s.views id (took history v))
  takes_free s id v count bits history holder owner at idle some_part deep k =
      let mine = k.each id v at in record {
        turn_is = omega arith;
        held_is = λ _. (took history v, set_there s.views id v (took history v) at, refl);
        count_is = k.count_is;
        home_is = λ e. absurd (omega arith);
        out_is = λ _. set_here s.homes 0 none (omega arith);
        bits_are = k.bits_are;
        each = each_set (λ (j : ℕ) (u : V). Knows maker start 1 bits history id owner j u) s.views id (took history v)
            record {
              origin_is = mine.origin_is;
              seen_is = starts-refl history;
              holds_is = λ _. (refl, refl, refl, omega (arith, length-first_sees history v.parts));
              parts_are = at_firsts _ history v.parts (λ p e. let q = mine.parts_are 0 p e in (q.0, lone-refl maker p.0 history, starts-refl history, q.3))
                  (λ i p e. let q = mine.parts_are (suc i) p e in (q.0, q.1, lone_starts maker p.0 history p.1 q.1, q.3));
            }
            (λ j u other e. let theirs = k.each j u e in record {
              origin_is = theirs.origin_is;
              seen_is = theirs.seen_is;
              holds_is = λ h. absurd (omega (arith, (theirs.holds_is h).1));
              parts_are = theirs.parts_are;
            });
      }

  -- where it is held, nothing changes but what was found
  takes_held : (s : St) (id : ℕ) (v : V) (count bits : ℕ) (history : List L) (holder : ℕ) (owner : ℕ → ℕ × ℕ) → get_elem? s.views id ≡ some v → v.holds ≡ false
      → KeptWith origin history_of maker start history holder owner 1 count bits s.homes s.views
      → KeptWith origin history_of maker start history holder owner 1 count bits s.homes (set s.views id (found_one 0 1 v))
  takes_held s id v count bits history holder owner at idle k =
      let mine = k.each id v at in record {
        turn_is = k.turn_is;
        held_is = λ e. holder_kept s.views holder id v (found_one 0 1 v) at (λ h. h) (k.held_is e);
        count_is = k.count_is;
        home_is = k.home_is;
        out_is = k.out_is;
        bits_are = k.bits_are;
        each = each_set (λ (j : ℕ) (u : V). Knows maker start 1 bits history holder owner j u) s.views id (found_one 0 1 v)
            record { origin_is = mine.origin_is; seen_is = mine.seen_is; holds_is = mine.holds_is; parts_are = mine.parts_are }
            (λ j u other e. k.each j u e);
      }

  takes_at : (s : St) (id : ℕ) (v : V) → get_elem? s.views id ≡ some v → v.holds ≡ false → is_some v.origin ≡ true → 0 < length v.parts → length s.homes ≡ 1 → length s.words ≡ 3
      → (turn : ℕ) → KeptAt origin history_of maker start turn (slice_index s.words 1) (slice_index s.words 2) s.homes s.views
      → (w : V) × (a : Act (Option T)) × Valid s.homes [] a × Rule (stepped s 0 1 id [] w a) × Takes origin history_of maker (step 1 0 1 0 none) (v, []) turn (w, carried_after [] a)
  takes_at s id v at idle from some_part deep wide zero (history, holder, owner, k) =
      let home = k.home_is refl in
      let value = home.0 in
      let k' : KeptWith origin history_of maker start (history_of value) holder owner 0 (slice_index s.words 1) (slice_index s.words 2) s.homes s.views =
      subst (λ (h : List L). KeptWith origin history_of maker start h holder owner 0 (slice_index s.words 1) (slice_index s.words 2) s.homes s.views) (sym home.3) k in (
        took (history_of value) v,
        takes 0 (Some value),
        home.1,
        word_0 (At (slice_set s.homes 0 none) (set s.views id (took (history_of value) v))) s.words 1 wide (history_of value, id, owner, takes_free s id v _ _ (history_of value) holder owner at idle some_part deep k'),
        (omega arith, (λ _. (value, refl, (refl, meets origin history_of maker start 0 (slice_index s.words 2) holder owner id v value home.2 from (k'.each id v at)))), λ e. absurd (omega arith)),
      )
  takes_at s id v at idle from some_part deep wide (suc zero) (history, holder, owner, k) = (
    found_one 0 1 v,
    keeps,
    tt,
    word_0 (At s.homes (set s.views id (found_one 0 1 v))) s.words 1 wide (history, holder, owner, takes_held s id v _ _ history holder owner at idle k),
    (omega arith, (λ e. absurd (omega arith)), λ _. (refl, refl)),
  )
  takes_at s id v at idle from some_part deep wide (suc (suc n)) (history, holder, owner, k) = absurd (omega (arith, k.turn_is))

  pub takes_turn : (id : ℕ) (v : V) → v.holds ≡ false → is_some v.origin ≡ true → 0 < length v.parts
      → Allows Rule 1 id (v, []) 0 (λ _. 1) (Takes origin history_of maker (step 1 0 1 0 none) (v, []))
  takes_turn id v idle from some_part s kept deep at small = takes_at s id v at idle from some_part deep kept.0 (slice_index s.words 0) kept.1

  -- the holder gives the slot back, with a value of the history
  frees_at : (s : St) (id : ℕ) (v : V) (value : T) → get_elem? s.views id ≡ some v → v.holds ≡ true → v.origin ≡ Some (origin value) → history_of value ≡ v.seen → length s.homes ≡ 1 → (turn count bits : ℕ) (history : List L) (holder : ℕ) (owner : ℕ → ℕ × ℕ)
      → KeptWith origin history_of maker start history holder owner turn count bits s.homes s.views
      → KeptWith origin history_of maker start history holder owner 0 count bits (slice_set s.homes 0 (some (Some value))) (set s.views id (gave v))
  frees_at s id v value at holds from lines deep turn count bits history holder owner k =
      let mine = k.each id v at in
      let held = mine.holds_is holds in record {
        turn_is = omega arith;
        held_is = λ e. absurd (omega arith);
        count_is = k.count_is;
        home_is = λ _. (value, set_here s.homes 0 (some (Some value)) (omega arith), mine.origin_is (origin value) from, lines ∙ held.2);
        out_is = λ e. absurd (omega arith);
        bits_are = k.bits_are;
        each = each_set (λ (j : ℕ) (u : V). Knows maker start 0 bits history holder owner j u) s.views id (gave v)
            record { origin_is = mine.origin_is; seen_is = mine.seen_is; holds_is = λ h. absurd (true≢false (sym h)); parts_are = mine.parts_are }
            (λ j u other e. let theirs = k.each j u e in record {
              origin_is = theirs.origin_is;
              seen_is = theirs.seen_is;
              holds_is = λ h. absurd (other ((theirs.holds_is h).0 ∙ sym held.0));
              parts_are = theirs.parts_are;
            });
      }

  pub frees_turn : (id : ℕ) (v : V) (value : T) → v.holds ≡ true → v.origin ≡ Some (origin value) → history_of value ≡ v.seen
      → Allows Rule 1 id (v, (0, Some value) ∷ []) 0 (λ _. 0) (Frees maker (step 1 0 0 0 none) (v, (0, Some value) ∷ []))
  frees_turn id v value holds from lines s (wide, (history, holder, owner, k)) deep at small = (
    gave v,
    gives,
    tt,
    word_0 (At (slice_set s.homes 0 (some (Some value))) (set s.views id (gave v))) s.words 0 wide (history, holder, owner, frees_at s id v value at holds from lines deep _ _ _ history holder owner k),
    (refl, refl, settled_at origin history_of maker start _ _ holder owner id v history (k.each id v at)),
  )

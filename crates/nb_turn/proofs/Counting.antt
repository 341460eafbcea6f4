-- The addition to the count keeps the rule.
use Rattle.std.proofs.Common.{◌≡◌, ◌≢◌, ℕ, suc, ◌+◌, ◌%◌, ◌^◌, ◌<◌, true, List, [], ◌∷◌, ◌++◌, length, slice_index, set, Option, Some, sym, refl, ap, ◌∙◌, subst, ⊎_elim, arith, length-append}
use Rattle.std.specs.Int.{bit_at}
use mathlib.Core.Option.{some, none, some-ne-none, some-injective}
use mathlib.Core.Option as maybe
use lib.ListN.{get_elem?}
use Rattle.atomic_table.specs.Table.{State, step, keeps, Allows}
use Rattle.atomic_table.proofs.Lists.{at_snoc}
use Rattle.nb_turn.specs.declared.chronicle.View.{View}
use Rattle.nb_turn.specs.Views.{reseen, number_of}
use Rattle.nb_turn.specs.Rule.{Knows, KeptWith, KeptAt, Kept}
use Rattle.nb_turn.specs.Told.{Counts}
use Rattle.nb_turn.proofs.Lists.{each_set, starts-refl, starts-more, at_firsts, length-first_sees, lone-refl, lone-more, lone_starts}
use Rattle.nb_turn.proofs.Rules.{number_at, word_1, holder_kept}

module _ {T O L : Type 0} (origin : T → O) (history_of : T → List L) (maker : L → ℕ) (start : O) where
  abbrev V : Type 0
  V = View O L

  abbrev St : Type 0
  St = State (Option T) V

  abbrev Rule : St → Type 0
  Rule = Kept origin history_of maker start

  abbrev At : List (maybe.Option (Option T)) → List V → ℕ → ℕ → ℕ → Type 0
  At homes views turn count bits = KeptAt origin history_of maker start turn count bits homes views

  counts_at : (s : St) (id : ℕ) (v : V) (l : L) (n : ℕ) → get_elem? s.views id ≡ some v → v.holds ≡ true → number_of v.parts ≡ Some n → maker l ≡ n → (turn count bits : ℕ) (holder : ℕ) (owner : ℕ → ℕ × ℕ)
      → KeptWith origin history_of maker start v.seen holder owner turn count bits s.homes s.views
      → KeptWith origin history_of maker start (v.seen ++ l ∷ []) holder owner turn (count + 1) bits s.homes (set s.views id (reseen (v.seen ++ l ∷ []) v))
  counts_at s id v l n at holds number makes turn count bits holder owner k =
      let mine = k.each id v at in
      let held = mine.holds_is holds in
      let all = v.seen ++ l ∷ [] in
      let first = number_at v.parts n number in
      let own = mine.parts_are 0 first.0 first.1 in
      -- the number of another part is another number
      let apart : (j i : ℕ) (p : ℕ × List L) → owner p.0 ≡ (j, i) → ((j ≡ id) → i ≡ 0 → ⊥) → maker l ≢ p.0 =
      λ j i p e other same.
      let here : owner p.0 ≡ (id, 0) = ap owner (sym same ∙ makes ∙ sym first.2) ∙ own.0 in
      let both : ◌≡◌ {A = ℕ × ℕ} (j, i) (id, 0) = sym e ∙ here in
      other (ap (λ (x : ℕ × ℕ). x.0) both) (ap (λ (x : ℕ × ℕ). x.1) both) in
      record {
        turn_is = k.turn_is;
        held_is = λ e. holder_kept s.views holder id v (reseen all v) at (λ h. h) (k.held_is e);
        count_is = omega (arith, k.count_is, length-append v.seen (l ∷ []));
        home_is = λ e. absurd (omega (arith, held.1));
        out_is = k.out_is;
        bits_are = λ i x e. ⊎_elim (λ (t : get_elem? v.seen i ≡ some x). k.bits_are i x t)
            (λ (t : l ≡ x). ap (λ (y : L). bit_at bits (maker y)) (sym t) ∙ ap (bit_at bits) (makes ∙ sym first.2) ∙ own.3) (at_snoc v.seen l x i e);
        each = each_set (λ (j : ℕ) (u : V). Knows maker start turn bits all holder owner j u) s.views id (reseen all v)
            record {
              origin_is = mine.origin_is;
              seen_is = starts-refl all;
              holds_is = λ _. (held.0, held.1, refl, omega (arith, held.3, length-first_sees all v.parts));
              parts_are = at_firsts _ all v.parts (λ p e. let q = mine.parts_are 0 p e in (q.0, lone-refl maker p.0 all, starts-refl all, q.3))
                  (λ i p e. let q = mine.parts_are (suc i) p e in
                  let lone = lone-more maker p.0 v.seen p.1 l (apart id (suc i) p q.0 (λ _ z. absurd (omega arith))) q.1 in (q.0, lone, lone_starts maker p.0 all p.1 lone, q.3));
            }
            (λ j u other e. let theirs = k.each j u e in record {
              origin_is = theirs.origin_is;
              seen_is = starts-more v.seen (l ∷ []) u.seen theirs.seen_is;
              holds_is = λ h. absurd (other ((theirs.holds_is h).0 ∙ sym held.0));
              parts_are = λ i p t. let q = theirs.parts_are i p t in (q.0, lone-more maker p.0 v.seen p.1 l (apart j i p q.0 (λ same _. other same)) q.1, q.2, q.3);
            });
      }

  -- a line that the holder made
  pub counts_line : (id : ℕ) (v : V) (slot : List (ℕ × Option T)) (l : L) (n : ℕ) → v.holds ≡ true → number_of v.parts ≡ Some n → maker l ≡ n → length v.seen + 1 < 2 ^ 64
      → Allows Rule 1 id (v, slot) 1 (λ c. (c + 1) % 2 ^ 64) (Counts (l ∷ []) (step 1 1 1 0 none) (v, slot))
  counts_line id v slot l n holds number makes room s (wide, (history, holder, owner, k)) deep at small =
      let held = (k.each id v at).holds_is holds in
      let k' : KeptWith origin history_of maker start v.seen holder owner (slice_index s.words 0) (slice_index s.words 1) (slice_index s.words 2) s.homes s.views =
      subst (λ (h : List L). KeptWith origin history_of maker start h holder owner (slice_index s.words 0) (slice_index s.words 1) (slice_index s.words 2) s.homes s.views) (sym held.2) k in
      let next : (slice_index s.words 1 + 1) % 2 ^ 64 ≡ slice_index s.words 1 + 1 = omega (arith, k'.count_is, room) in
      let all = v.seen ++ l ∷ [] in (
        reseen all v,
        keeps,
        tt,
        word_1 (At s.homes (set s.views id (reseen all v))) s.words ((slice_index s.words 1 + 1) % 2 ^ 64) wide (
          all,
          holder,
          owner,
          subst (λ (c : ℕ). KeptWith origin history_of maker start all holder owner (slice_index s.words 0) c (slice_index s.words 2) s.homes (set s.views id (reseen all v))) (sym next)
              (counts_at s id v l n at holds number makes _ _ _ holder owner k'),
        ),
        (refl, refl),
      )

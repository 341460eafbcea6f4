-- The join of two seats keeps the rule.
use Rattle.std.proofs.Common.{◌≡◌, ◌≢◌, ℕ, zero, suc, ◌+◌, Bool, false, true≢false, cond, eqb, eq-eqb, ne_eqb, List, [], ◌∷◌, ◌++◌, length, set, Option, is_some, sym, refl, ap, ◌∙◌, ◌⊎◌, inl, inr, ⊎_elim, arith}
use mathlib.Core.Option.{some, some-ne-none}
use lib.ListN.{get_elem?}
use Rattle.atomic_table.specs.Table.{State, Joins}
use Rattle.atomic_table.proofs.Lists.{set_else}
use Rattle.nb_turn.specs.declared.chronicle.View.{View}
use Rattle.nb_turn.specs.Lines.{longer}
use Rattle.nb_turn.specs.Views.{joined, spent_view}
use Rattle.nb_turn.specs.Rule.{Knows, KeptWith, Kept}
use Rattle.nb_turn.proofs.Lists.{each_set, starts-trans, longer_fronts}
use Rattle.nb_turn.proofs.Rules.{holder_kept}

-- an element of two lists is one of the first or one of the second
at_append : {A : Type 0} (xs ys : List A) (k : ℕ) (a : A) → get_elem? (xs ++ ys) k ≡ some a → (get_elem? xs k ≡ some a) ⊎ ((i : ℕ) × (k ≡ length xs + i) × (get_elem? ys i ≡ some a))
at_append [] ys k a e = inr (k, omega arith, e)
at_append (x ∷ xs) ys zero a e = inl e
at_append (x ∷ xs) ys (suc k) a e = ⊎_elim (λ (t : get_elem? xs k ≡ some a). inl t) (λ (t : (i : ℕ) × (k ≡ length xs + i) × (get_elem? ys i ≡ some a)). let n = t.1 in inr (t.0, omega arith, t.2)) (at_append xs ys k a e)

-- the numbers of one seat go behind those of another
abbrev moved : (ℕ → ℕ × ℕ) → ℕ → ℕ → ℕ → ℕ → ℕ × ℕ
moved owner other id behind m = cond (eqb (owner m).0 other) (id, behind + (owner m).1) (owner m)

moved_here : (owner : ℕ → ℕ × ℕ) (other id behind m i : ℕ) → owner m ≡ (other, i) → moved owner other id behind m ≡ (id, behind + i)
moved_here owner other id behind m i e = ap (λ (q : ℕ × ℕ). cond (eqb q.0 other) (id, behind + q.1) q) e ∙ ap (λ (b : Bool). cond b (id, behind + i) (other, i)) (eq-eqb other other refl)

moved_else : (owner : ℕ → ℕ × ℕ) (other id behind m j i : ℕ) → j ≢ other → owner m ≡ (j, i) → moved owner other id behind m ≡ (j, i)
moved_else owner other id behind m j i apart e = ap (λ (q : ℕ × ℕ). cond (eqb q.0 other) (id, behind + q.1) q) e ∙ ap (λ (b : Bool). cond b (id, behind + i) (j, i)) (ne_eqb j other apart)

module _ {T O L : Type 0} (origin : T → O) (history_of : T → List L) (maker : L → ℕ) (start : O) where
  abbrev V : Type 0
  V = View O L

  abbrev Rule : State (Option T) V → Type 0
  Rule = Kept origin history_of maker start

  joins_view : (turn bits : ℕ) (history : List L) (holder : ℕ) (owner : ℕ → ℕ × ℕ) (id : ℕ) (v : V) (other : ℕ) (w : V) → v.holds ≡ false → (other ≡ id → ⊥)
      → Knows maker start turn bits history holder owner id v → Knows maker start turn bits history holder owner other w
      → Knows maker start turn bits history holder (moved owner other id (length v.parts)) id (joined v w)
  joins_view turn bits history holder owner id v other w idle apart kv kw =
      let fronts = longer_fronts history v.seen w.seen kv.seen_is kw.seen_is in
      record {
        origin_is = kv.origin_is;
        seen_is = fronts.0;
        holds_is = λ h. absurd (true≢false (sym h ∙ idle));
        parts_are = λ k p e. ⊎_elim
            (λ (t : get_elem? v.parts k ≡ some p). let q = kv.parts_are k p t in
            (moved_else owner other id (length v.parts) p.0 id k (λ z. apart (sym z)) q.0, q.1, starts-trans (longer v.seen w.seen) v.seen p.1 fronts.1 q.2, q.3))
            (λ (t : (i : ℕ) × (k ≡ length v.parts + i) × (get_elem? w.parts i ≡ some p)). let q = kw.parts_are t.0 p t.2 in
            (moved_here owner other id (length v.parts) p.0 t.0 q.0 ∙ (λ c. (id, sym t.1 c)), q.1, starts-trans (longer v.seen w.seen) w.seen p.1 fronts.2 q.2, q.3))
            (at_append v.parts w.parts k p e);
      }

  joins_at : (s : State (Option T) V) (id : ℕ) (v : V) (other : ℕ) (w : V) → v.holds ≡ false → w.holds ≡ false → get_elem? s.views id ≡ some v → (other ≡ id → ⊥) → get_elem? (set s.views id (joined v w)) other ≡ some w
      → (turn count bits : ℕ) (history : List L) (holder : ℕ) (owner : ℕ → ℕ × ℕ)
      → KeptWith origin history_of maker start history holder owner turn count bits s.homes s.views
      → KeptWith origin history_of maker start history holder (moved owner other id (length v.parts)) turn count bits s.homes (set (set s.views id (joined v w)) other spent_view)
  joins_at s id v other w idle idle' at apart there turn count bits history holder owner k =
      let kv = k.each id v at in
      let kw = k.each other w (sym (set_else s.views id other (joined v w) apart) ∙ there) in
      let shift = length v.parts in record {
        turn_is = k.turn_is;
        held_is = λ e. holder_kept (set s.views id (joined v w)) holder other w spent_view there (λ h. absurd (true≢false (sym h ∙ idle')))
            (holder_kept s.views holder id v (joined v w) at (λ h. absurd (true≢false (sym h ∙ idle))) (k.held_is e));
        count_is = k.count_is;
        home_is = k.home_is;
        out_is = k.out_is;
        bits_are = k.bits_are;
        each = each_set (λ (j : ℕ) (u : V). Knows maker start turn bits history holder (moved owner other id shift) j u) (set s.views id (joined v w)) other spent_view
            record {
              origin_is = λ o e. absurd (true≢false (ap is_some (sym e)));
              seen_is = (history, refl);
              holds_is = λ h. absurd (true≢false (sym h));
              parts_are = λ i p e. absurd (some-ne-none p (sym e));
            }
            (λ j u not_other e. each_set (λ (i : ℕ) (x : V). (i ≢ other) → Knows maker start turn bits history holder (moved owner other id shift) i x) s.views id (joined v w)
            (λ _. joins_view turn bits history holder owner id v other w idle apart kv kw)
            (λ i x not_id z not_there. let theirs = k.each i x z in record {
              origin_is = theirs.origin_is;
              seen_is = theirs.seen_is;
              holds_is = theirs.holds_is;
              parts_are = λ a p t. let q = theirs.parts_are a p t in (moved_else owner other id shift p.0 i a not_there q.0, q.1, q.2, q.3);
            }) j u e not_other);
      }

  pub joins_seats : (id : ℕ) (v : V) (other : ℕ) (w : V) → v.holds ≡ false → w.holds ≡ false → Joins Rule id v other w (joined v w) spent_view
  joins_seats id v other w idle idle' s (wide, (history, holder, owner, k)) at apart there = (
    wide,
    (history, holder, moved owner other id (length v.parts), joins_at s id v other w idle idle' at apart there _ _ _ history holder owner k),
  )

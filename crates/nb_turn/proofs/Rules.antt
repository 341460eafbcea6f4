-- The rule at three given words, and what is common to all steps.
use Rattle.std.proofs.Common.{◌≡◌, ℕ, zero, suc, ◌<◌, true, List, [], ◌∷◌, length, slice_index, slice_set, set, Option, Some, None, is_some, true≢false, ◌++◌, drop, sym, refl, ap, ◌∙◌, subst, arith}
use mathlib.Core.Option.{some, some-injective, some-ne-none}
use Rattle.std.proofs.lemmas.Option.{same_Some}
use mathlib.Core.Logic.{dite}
use native.Mathlib.Decide.{ℕ_discrete}
use lib.ListN.{get_elem?}
use Rattle.atomic_table.proofs.Lists.{set_else}
use Rattle.nb_turn.specs.declared.chronicle.View.{View}
use Rattle.nb_turn.specs.Lines.{LonePart, OwnAre, NoneBy, lines_by}
use Rattle.nb_turn.specs.Views.{Settled, number_of}
use Rattle.nb_turn.specs.Rule.{IsHolder, Knows}
use Rattle.nb_turn.specs.Told.{Meets}
use Rattle.nb_turn.proofs.Lists.{all_at, rest_is, lone_between, lone_own}

-- A step on one of three words, of which P speaks
module _ (P : ℕ → ℕ → ℕ → Type 0) where
  pub word_0 : (ws : List ℕ) (x : ℕ) → length ws ≡ 3 → P x (slice_index ws 1) (slice_index ws 2)
      → (length (slice_set ws 0 x) ≡ 3) × P (slice_index (slice_set ws 0 x) 0) (slice_index (slice_set ws 0 x) 1) (slice_index (slice_set ws 0 x) 2)
  word_0 [] x e p = absurd (omega arith)
  word_0 (a ∷ ws) x e p = (e, p)

  pub word_1 : (ws : List ℕ) (x : ℕ) → length ws ≡ 3 → P (slice_index ws 0) x (slice_index ws 2)
      → (length (slice_set ws 1 x) ≡ 3) × P (slice_index (slice_set ws 1 x) 0) (slice_index (slice_set ws 1 x) 1) (slice_index (slice_set ws 1 x) 2)
  word_1 [] x e p = absurd (omega arith)
  word_1 (a ∷ []) x e p = absurd (omega arith)
  word_1 (a ∷ b ∷ ws) x e p = (e, p)

  pub word_2 : (ws : List ℕ) (x : ℕ) → length ws ≡ 3 → P (slice_index ws 0) (slice_index ws 1) x
      → (length (slice_set ws 2 x) ≡ 3) × P (slice_index (slice_set ws 2 x) 0) (slice_index (slice_set ws 2 x) 1) (slice_index (slice_set ws 2 x) 2)
  word_2 [] x e p = absurd (omega arith)
  word_2 (a ∷ []) x e p = absurd (omega arith)
  word_2 (a ∷ b ∷ []) x e p = absurd (omega arith)
  word_2 (a ∷ b ∷ c ∷ ws) x e p = (e, p)

-- the value that an option has
pub origin_at : {O : Type 0} (o : Option O) (start : O) → is_some o ≡ true → ((x : O) → o ≡ Some x → x ≡ start) → o ≡ Some start
origin_at None start some_is is = absurd (true≢false (sym some_is))
origin_at (Some x) start some_is is = ap Some (is x refl)

-- who has a number has a part
pub has_part : {L : Type 0} (ps : List (ℕ × List L)) (n : ℕ) → number_of ps ≡ Some n → 0 < length ps
has_part [] n e = absurd (true≢false (ap is_some (sym e)))
has_part (p ∷ ps) n e = omega arith

-- the first part has a pass's number
pub number_at : {L : Type 0} (ps : List (ℕ × List L)) (n : ℕ) → number_of ps ≡ Some n → (p : ℕ × List L) × (get_elem? ps 0 ≡ some p) × (p.0 ≡ n)
number_at [] n e = absurd (true≢false (ap is_some (sym e)))
number_at (p ∷ ps) n e = (p, refl, same_Some p.0 n e)

-- an element that is there is replaced
pub set_there : {A : Type 0} (xs : List A) (i : ℕ) (a b : A) → get_elem? xs i ≡ some a → get_elem? (set xs i b) i ≡ some b
set_there [] i a b e = absurd (some-ne-none a (sym e))
set_there (x ∷ xs) zero a b e = refl
set_there (x ∷ xs) (suc i) a b e = set_there xs i a b e

module _ {O L : Type 0} where
  -- where a view that does not hold the turn, or goes on holding it, is replaced the holder stays
  pub holder_kept : (views : List (View O L)) (holder id : ℕ) (v w : View O L) → get_elem? views id ≡ some v → (v.holds ≡ true → w.holds ≡ true) → IsHolder views holder → IsHolder (set views id w) holder
  holder_kept views holder id v w at goes_on (u, there, holds) =
      dite (ℕ_discrete holder id)
      (λ e.
      let same : v ≡ u = some-injective v u (sym at ∙ ap (get_elem? views) (sym e) ∙ there) in
      (w, subst (λ (x : ℕ). get_elem? (set views id w) x ≡ some w) (sym e) (set_there views id v w at), goes_on (ap (λ (x : View O L). x.holds) same ∙ holds)))
      (λ other. (u, set_else views id holder w other ∙ there, holds))

module _ {T O L : Type 0} (origin : T → O) (history_of : T → List L) (maker : L → ℕ) (start : O) (turn bits holder : ℕ) (owner : ℕ → ℕ × ℕ) (id : ℕ) (v : View O L) where
  -- what a view knows of a value with the history
  pub meets : (value : T) → origin value ≡ start → is_some v.origin ≡ true → Knows maker start turn bits (history_of value) holder owner id v → Meets origin history_of maker v value
  meets value from some_is k =
      let others = k.seen_is.0 in
      let lone : (i : ℕ) (p : ℕ × List L) → get_elem? v.parts i ≡ some p → LonePart maker (history_of value) p = λ i p e. (k.parts_are i p e).1 in
      record {
        others = others;
        origin_is = origin_at v.origin start some_is k.origin_is ∙ ap Some (sym from);
        begins = k.seen_is.1;
        alone = all_at (NoneBy maker others) v.parts (λ i p e. (lone_between maker p.0 (history_of value) v.seen p.1 (lone i p e) (k.parts_are i p e).2 others k.seen_is.1).1);
        parts = all_at (LonePart maker (history_of value)) v.parts lone;
        own = all_at (OwnAre maker (history_of value)) v.parts (λ i p e. lone_own maker (history_of value) p (lone i p e));
      }

  -- behind what each part had seen last, no line of its number was seen
  pub settled_at : (history : List L) → Knows maker start turn bits history holder owner id v → Settled maker v
  settled_at history k i p e =
      let q = k.parts_are i p e in
      let l = (lone_between maker p.0 history v.seen p.1 q.1 q.2 k.seen_is.0 k.seen_is.1).0 in
      let r : drop (length p.1) v.seen ≡ l.0 = rest_is v.seen p.1 l.0 l.1 in
      (l.1 ∙ ap (λ (x : List L). p.1 ++ x) (sym r), ap (lines_by maker p.0) r ∙ l.2)

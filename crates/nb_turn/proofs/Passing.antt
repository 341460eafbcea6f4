-- What holds of a pass's seat after a step.
use Rattle.std.proofs.Common.{◌≡◌, ℕ, zero, suc, ◌+◌, ◌<◌, ◌≤◌, max, true, true≢false, List, [], ◌∷◌, ◌++◌, length, drop, Option, Some, None, is_some, sym, refl, ap, ◌∙◌, subst, arith, append-nil, length-append, length-drop, lt_of_not-le}
use Rattle.std.specs.List.{AllByRecursion}
use mathlib.Core.Option.{some, some-ne-none, some-injective}
use native.Mathlib.Decide.{dec_le}
use lib.ListN.{get_elem?}
use Rattle.atomic_table.specs.Table.{Me}
use Rattle.atomic_table.proofs.Lists.{at_longer}
use Rattle.nb_turn.specs.declared.chronicle.View.{View}
use Rattle.nb_turn.specs.Lines.{StartsWith, lines_by, LonePart, OwnAre}
use Rattle.nb_turn.specs.Views.{first_sees, number_of, most_seen, newcomer, reseen, found_one, took, gave, named, joined, fresh_view, Settled}
use Rattle.nb_turn.specs.Seats.{IsPass, IsHeld}
use Rattle.nb_turn.proofs.Rules.{has_part}
use Rattle.std.proofs.Math.Seq.{drop-length}
use mathlib.Core.Logic.{dite}
use Rattle.nb_turn.proofs.Lists.{all_at, no_length, longer-length, longer-same, lone_own, first_again}

module _ {L : Type 0} where
  pub most-append : (ps qs : List (ℕ × List L)) → most_seen (ps ++ qs) ≡ max (most_seen ps) (most_seen qs)
  most-append [] qs = omega arith
  most-append (p ∷ ps) qs = let rest = most-append ps qs in omega arith

  -- where the first has seen all, and each has seen a part of it, the first has seen most
  pub most_first : (s : List L) (ps : List (ℕ × List L)) → 0 < length ps → first_sees s ps ≡ ps → ((k : ℕ) (p : ℕ × List L) → get_elem? ps k ≡ some p → length p.1 ≤ length s) → most_seen ps ≡ length s
  most_first s [] some_part own each = absurd (omega arith)
  most_first s (p ∷ ps) some_part own each =
      let all : length s ≡ length p.1 = ap (λ (q : List (ℕ × List L)). most_one q) own in
      let rest = most_below s ps (λ k q e. each (suc k) q e) in
      omega arith
    where
      most_one : List (ℕ × List L) → ℕ
      most_one [] = 0
      most_one (q ∷ qs) = length q.1

      most_below : (t : List L) (qs : List (ℕ × List L)) → ((k : ℕ) (q : ℕ × List L) → get_elem? qs k ≡ some q → length q.1 ≤ length t) → most_seen qs ≤ length t
      most_below t [] below = omega arith
      most_below t (q ∷ qs) below = let here = below 0 q refl in let rest = most_below t qs (λ k r e. below (suc k) r e) in omega arith

  -- a list that begins with what each part had seen last begins with all that the pass had seen
  pub most_fronts : (all seen : List L) (ps : List (ℕ × List L)) → most_seen ps ≡ length seen → ((k : ℕ) (p : ℕ × List L) → get_elem? ps k ≡ some p → seen ≡ p.1 ++ drop (length p.1) seen)
      → ((k : ℕ) (p : ℕ × List L) → get_elem? ps k ≡ some p → StartsWith all p.1) → StartsWith all seen
  most_fronts all seen [] most fronts starts = (all, ap (λ (x : List L). x ++ all) (sym (no_length seen (sym most))))
  most_fronts all seen (p ∷ ps) most fronts starts =
      dite (dec_le (length seen) (length p.1))
      (λ whole.
      let none_left : length (drop (length p.1) seen) ≡ 0 = omega (arith, length-drop (length p.1) seen) in
      let same : seen ≡ p.1 = fronts 0 p refl ∙ ap (λ (x : List L). p.1 ++ x) (no_length (drop (length p.1) seen) none_left) ∙ append-nil p.1 in
      subst (StartsWith all) (sym same) (starts 0 p refl))
      (λ shorter. let longer_one = lt_of_not-le shorter in most_fronts all seen ps (omega arith) (λ k q e. fronts (suc k) q e) (λ k q e. starts (suc k) q e))

module _ {O L : Type 0} (maker : L → ℕ) where
  -- a part of a settled pass is no longer than what the pass has seen
  settled_length : (v : View O L) → Settled maker v → (k : ℕ) (p : ℕ × List L) → get_elem? v.parts k ≡ some p → length p.1 ≤ length v.seen
  settled_length v settled k p e = let f = (settled k p e).0 in omega (arith, ap length f, length-append p.1 (drop (length p.1) v.seen))

  -- all parts of a settled pass, as its contract says it
  pub parts_settled : (v : View O L) → Settled maker v → AllByRecursion (LonePart maker v.seen) v.parts
  parts_settled v settled = all_at (LonePart maker v.seen) v.parts (λ k p e. let q = settled k p e in (drop (length p.1) v.seen, q.0, q.1))

  pub parts_own : (v : View O L) → Settled maker v → AllByRecursion (OwnAre maker v.seen) v.parts
  parts_own v settled = all_at (OwnAre maker v.seen) v.parts (λ k p e. let q = settled k p e in lone_own maker v.seen p (drop (length p.1) v.seen, q.0, q.1))

  -- what a settled pass has seen begins with all that a pass among its parts had seen
  pub begins_with : (all : List L) (v : View O L) → most_seen v.parts ≡ length v.seen → Settled maker v → ((k : ℕ) (p : ℕ × List L) → get_elem? v.parts k ≡ some p → StartsWith all p.1) → StartsWith all v.seen
  begins_with all v most settled starts = most_fronts all v.seen v.parts most (λ k p e. (settled k p e).0) starts

-- where no number was given, the seat split off is joined back
pub joined_back : {O L : Type 0} (v : View O L) (word value : ℕ) → joined v (found_one word value (newcomer v)) ≡ found_one word value v
joined_back v word value i = record { origin = v.origin; seen = longer-same v.seen i; parts = append-nil v.parts i; found = v.found ++ (word, value) ∷ []; holds = v.holds }

module _ {S O L : Type 0} (maker : L → ℕ) where
  -- the same of an equal seat
  pub same_pass : (me me' : Me S (View O L)) (n k : ℕ) (w : View O L) → me'.1 ≡ [] → me'.0 ≡ w → IsPass {S = S} maker (w, []) n k → IsPass maker me' n k
  same_pass me me' n k w empty same p = subst (λ (z : Me S (View O L)). IsPass maker z n k) (λ i. (sym same i, sym empty i)) p

  pub found_pass : (me me' : Me S (View O L)) (n k word value : ℕ) → IsPass maker me n k → me'.1 ≡ [] → me'.0 ≡ found_one word value me.0 → IsPass maker me' n k
  found_pass me me' n k word value p empty same = same_pass me me' n k (found_one word value me.0) empty same
      record { empty = refl; idle = p.idle; from = p.from; number_is = p.number_is; seen_is = p.seen_is; most_is = p.most_is; settled = p.settled }

  pub fresh_pass : (o : O) (me : Me S (View O L)) → me ≡ (fresh_view o, []) → IsPass maker me 0 0
  fresh_pass o me same = subst (λ (z : Me S (View O L)). IsPass maker z 0 0) (sym same)
      record { empty = refl; idle = refl; from = refl; number_is = refl; seen_is = refl; most_is = refl; settled = fresh_settled } where
        fresh_settled : (k : ℕ) (p : ℕ × List L) → get_elem? ((0, []) ∷ []) k ≡ some p → ([] ≡ p.1 ++ drop (length p.1) []) × (lines_by maker p.0 (drop (length p.1) []) ≡ [])
        fresh_settled zero p e = subst (λ (q : ℕ × List L). ([] ≡ q.1 ++ drop (length q.1) []) × (lines_by maker q.0 (drop (length q.1) []) ≡ [])) (some-injective {A = ℕ × List L} (0, []) p e) (refl, refl)
        fresh_settled (suc k) p e = absurd (some-ne-none p (sym e))

  pub named_pass : (v : View O L) (me : Me S (View O L)) (k number value : ℕ) → is_some v.origin ≡ true → length v.seen ≡ k → me.1 ≡ [] → me.0 ≡ named number value (newcomer v) → IsPass maker me number k
  named_pass v me k number value from long empty same = same_pass me me number k (named number value (newcomer v)) empty same
      record { empty = refl; idle = refl; from = from; number_is = refl; seen_is = long; most_is = omega arith; settled = named_settled } where
        named_settled : (i : ℕ) (p : ℕ × List L) → get_elem? ((number, v.seen) ∷ []) i ≡ some p → (v.seen ≡ p.1 ++ drop (length p.1) v.seen) × (lines_by maker p.0 (drop (length p.1) v.seen) ≡ [])
        named_settled zero p e =
            let none_left : drop (length v.seen) v.seen ≡ [] = drop-length v.seen in
            subst (λ (q : ℕ × List L). (v.seen ≡ q.1 ++ drop (length q.1) v.seen) × (lines_by maker q.0 (drop (length q.1) v.seen) ≡ [])) (some-injective {A = ℕ × List L} (number, v.seen) p e)
            (sym (append-nil v.seen) ∙ ap (λ (x : List L). v.seen ++ x) (sym none_left), ap (lines_by maker number) none_left)
        named_settled (suc i) p e = absurd (some-ne-none p (sym e))

  pub joined_pass : (first second me : Me S (View O L)) (n k n' m : ℕ) → IsPass maker first n k → IsPass maker second n' m → me.1 ≡ [] → me.0 ≡ joined first.0 second.0 → Settled maker me.0 → IsPass maker me n (max k m)
  joined_pass first second me n k n' m p q empty same settled = same_pass me me n (max k m) (joined first.0 second.0) empty same
      record {
        empty = refl;
        idle = p.idle;
        from = p.from;
        number_is = number_first first.0.parts second.0.parts n p.number_is;
        seen_is = longer-length first.0.seen second.0.seen ∙ omega (arith, p.seen_is, q.seen_is);
        most_is = most-append first.0.parts second.0.parts ∙ omega (arith, p.most_is, q.most_is, longer-length first.0.seen second.0.seen);
        settled = subst (Settled maker) same settled;
      } where
        number_first : (ps qs : List (ℕ × List L)) (a : ℕ) → number_of ps ≡ Some a → number_of (ps ++ qs) ≡ Some a
        number_first [] qs a e = absurd (true≢false (ap is_some (sym e)))
        number_first (q ∷ ps) qs a e = e

  -- the longer of the two lists begins with both
  pub joined_begins : (first second me : Me S (View O L)) (n k n' m : ℕ) → IsPass maker first n k → IsPass maker second n' m → me.0 ≡ joined first.0 second.0 → Settled maker me.0
      → StartsWith me.0.seen first.0.seen × StartsWith me.0.seen second.0.seen
  joined_begins first second me n k n' m p q same settled =
      let parts : me.0.parts ≡ first.0.parts ++ second.0.parts = ap (λ (v : View O L). v.parts) same in (
        begins_with maker me.0.seen first.0 p.most_is p.settled
            (λ i x e. let f = settled i x (ap (λ (ps : List (ℕ × List L)). get_elem? ps i) parts ∙ at_longer first.0.parts second.0.parts i x e) in (drop (length x.1) me.0.seen, f.0)),
        begins_with maker me.0.seen second.0 q.most_is q.settled
            (λ i x e. let f = settled (length first.0.parts + i) x (ap (λ (ps : List (ℕ × List L)). get_elem? ps (length first.0.parts + i)) parts ∙ at_second first.0.parts second.0.parts i x e) in (drop (length x.1) me.0.seen, f.0)),
      ) where
        at_second : (xs ys : List (ℕ × List L)) (i : ℕ) (x : ℕ × List L) → get_elem? ys i ≡ some x → get_elem? (xs ++ ys) (length xs + i) ≡ some x
        at_second [] ys i x e = let same : 0 + i ≡ i = omega arith in ap (get_elem? ys) same ∙ e
        at_second (z ∷ xs) ys i x e = let same : suc (length xs) + i ≡ suc (length xs + i) = omega arith in ap (get_elem? (z ∷ (xs ++ ys))) same ∙ at_second xs ys i x e

module _ {T O L : Type 0} (maker : L → ℕ) where
  -- the pass has taken the turn
  pub taken_held : (me me' : Me (Option T) (View O L)) (all : List L) (n k : ℕ) → IsPass maker me n k → me'.1 ≡ (0, None) ∷ [] → me'.0 ≡ took all me.0 → IsHeld me' n (length all)
  taken_held me me' all n k p slot same = subst (λ (z : Me (Option T) (View O L)). IsHeld z n (length all)) (λ i. (sym same i, sym slot i))
      record { lifted = refl; holding = refl; from = p.from; number_is = number_stays me.0.parts p.number_is; seen_is = refl; own_is = first_again all all me.0.parts } where
        number_stays : (ps : List (ℕ × List L)) → number_of ps ≡ Some n → number_of (first_sees all ps) ≡ Some n
        number_stays [] e = e
        number_stays (q ∷ ps) e = e

  -- the pass has given it back
  pub given_pass : (me me' : Me (Option T) (View O L)) (all : List L) (n k : ℕ) → IsHeld me n k → me'.1 ≡ [] → me'.0 ≡ gave (reseen all me.0) → Settled maker (reseen all me.0) → IsPass maker me' n (length all)
  given_pass me me' all n k h empty same settled = same_pass maker me me' n (length all) (gave (reseen all me.0)) empty same
      record {
        empty = refl;
        idle = refl;
        from = h.from;
        number_is = number_stays me.0.parts h.number_is;
        seen_is = refl;
        most_is = most_first all (first_sees all me.0.parts) (has_part _ n (number_stays me.0.parts h.number_is)) (first_again all all me.0.parts) (settled_length maker (reseen all me.0) settled);
        settled = settled;
      } where
        number_stays : (ps : List (ℕ × List L)) → number_of ps ≡ Some n → number_of (first_sees all ps) ≡ Some n
        number_stays [] e = e
        number_stays (q ∷ ps) e = e

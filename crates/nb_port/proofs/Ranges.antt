-- The set of images, by the durable length and the pending ranges.
use Rattle.std.proofs.Common.{◌≡◌, ◌⊎◌, inl, inr, ℕ, ◌+◌, ◌-◌, ◌<◌, ◌≤◌, List, [], ◌∷◌, ◌++◌, length, take, drop, get_or, min, refl, sym, ap, ◌∙◌, arith, rules}
use Rattle.std.proofs.lemmas.Bool.{cases_lt}
use Rattle.std.proofs.lemmas.List.{places}
use Rattle.nb_port.specs.Images.{Range, Told, fresh, after, Leaves, Images}
use Rattle.nb_port.specs.Laws.{Free, ByRanges, LeavesByRanges}
use Rattle.nb_port.proofs.Tears.{torn_from, torn_at}
use Rattle.nb_port.specs.DiskLaws.{content_left}

-- no image is shorter than what was kept
no_shorter : (kept : List ℕ) (ws : List Range) (c : List ℕ) → Leaves kept ws c → length kept ≤ length c
no_shorter kept [] c e = omega (arith, ap length e)
no_shorter kept (w ∷ ws) c (d, is, torn) = omega (arith, no_shorter kept ws d is, torn.no_shorter)

-- an image has what was kept at each place in no range
same_free : (kept : List ℕ) (ws : List Range) (c : List ℕ) → Leaves kept ws c → (i : ℕ) → i < length kept → Free ws i
    → get_or c i 0 ≡ get_or kept i 0
same_free kept [] c e i h free = ap (λ (xs : List ℕ). get_or xs i 0) e
same_free kept (w ∷ ws) c (d, is, torn) i h (out, free) =
    let in_d : i < length d = omega (arith, no_shorter kept ws d is) in
    torn_at w.0 (length w.1) d c torn i in_d out ∙ same_free kept ws d is i h free

-- so it is by ranges
by_ranges_of : (kept content : List ℕ) (ws : List Range) (c : List ℕ) → Leaves kept ws content → Leaves kept ws c
    → ByRanges content (length kept) ws c
by_ranges_of kept content [] c e is = is ∙ sym e
by_ranges_of kept content (w ∷ ws) c now is = record {
  no_shorter = no_shorter kept (w ∷ ws) c is;
  same = λ i h free. same_free kept (w ∷ ws) c is i h free ∙ sym (same_free kept (w ∷ ws) content now i h free);
}

-- bytes with those of others from m up to e
unfoldable over : ℕ → ℕ → List ℕ → List ℕ → List ℕ
over m e others bytes = take m bytes ++ (take (e - m) (drop m others) ++ drop e bytes)

length-over : (m e : ℕ) (others bytes : List ℕ) → m ≤ e → e ≤ length others → length others ≤ length bytes
    → length (over m e others bytes) ≡ length bytes
unfolding over
length-over m e others bytes h k l = search (rules, places)

over_inside : (m e : ℕ) (others bytes : List ℕ) → m ≤ e → e ≤ length others → length others ≤ length bytes
    → (i : ℕ) → m ≤ i → i < e → get_or (over m e others bytes) i 0 ≡ get_or others i 0
unfolding over
over_inside m e others bytes h k l i p q = grind (arith, places)

over_outside : (m e : ℕ) (others bytes : List ℕ) → m ≤ e → e ≤ length others → length others ≤ length bytes
    → (i : ℕ) → i < length bytes → (i < m) ⊎ (e ≤ i) → get_or (over m e others bytes) i 0 ≡ get_or bytes i 0
unfolding over
over_outside m e others bytes h k l i p (inl low) = grind (arith, places)
over_outside m e others bytes h k l i p (inr high) = grind (arith, places)

-- Bytes that have what was kept at each place in no range are an image, where there is a range: before the newest write they
-- were what they are, with what was kept in its range
leaves_of : (kept : List ℕ) (w : Range) (ws : List Range) (c : List ℕ) → length kept ≤ length c
    → ((i : ℕ) → i < length kept → Free (w ∷ ws) i → get_or c i 0 ≡ get_or kept i 0) → Leaves kept (w ∷ ws) c
leaves_of kept w [] c longer same = (kept, refl, torn_from w.0 (length w.1) kept c longer (λ i h out. same i h (out, tt)))
leaves_of kept w (v ∷ ws) c longer same =
    (back, leaves_of kept v ws back (omega (arith, long)) agree, torn_from w.0 (length w.1) back c (omega (arith, long)) torn)
  where
    m : ℕ
    m = min w.0 (length kept)

    e : ℕ
    e = min (w.0 + length w.1) (length kept)

    up : m ≤ e
    up = omega arith

    in_kept : e ≤ length kept
    in_kept = omega arith

    back : List ℕ
    back = over m e kept c

    long : length back ≡ length c
    long = length-over m e kept c up in_kept longer

    outside : (i : ℕ) → i < length kept → (i < m) ⊎ (e ≤ i) → (i < w.0) ⊎ (w.0 + length w.1 ≤ i)
    outside i h (inl low) = inl (omega arith)
    outside i h (inr high) = inr (omega arith)

    from_c : (i : ℕ) → i < length kept → Free (v ∷ ws) i → (i < m) ⊎ (e ≤ i) → get_or back i 0 ≡ get_or kept i 0
    from_c i h free out = over_outside m e kept c up in_kept longer i (omega arith) out ∙ same i h (outside i h out, free)

    agree : (i : ℕ) → i < length kept → Free (v ∷ ws) i → get_or back i 0 ≡ get_or kept i 0
    agree i h free = low (cases_lt i m)
      where
        high : m ≤ i → (i < e) ⊎ (e ≤ i) → get_or back i 0 ≡ get_or kept i 0
        high p (inl below) = over_inside m e kept c up in_kept longer i p below
        high p (inr above) = from_c i h free (inr above)

        low : (i < m) ⊎ (m ≤ i) → get_or back i 0 ≡ get_or kept i 0
        low (inl below) = from_c i h free (inl below)
        low (inr p) = high p (cases_lt i e)

    torn : (i : ℕ) → i < length back → (i < w.0) ⊎ (w.0 + length w.1 ≤ i) → get_or c i 0 ≡ get_or back i 0
    torn i h out = sym (over_outside m e kept c up in_kept longer i (omega (arith, long)) (out_of out (cases_lt i m)))
      where
        out_of : (i < w.0) ⊎ (w.0 + length w.1 ≤ i) → (i < m) ⊎ (m ≤ i) → (i < m) ⊎ (e ≤ i)
        out_of far (inl below) = inl below
        out_of (inl before) (inr p) = inr (omega arith)
        out_of (inr beyond) (inr p) = inr (omega arith)

pub leaves_by_ranges : LeavesByRanges
leaves_by_ranges start steps image = (
  λ is. by_ranges_of s.kept s.content s.pending image now is,
  λ is. back s.kept s.content s.pending now is,
)
  where
    s : Told
    s = after (fresh start) steps

    now : Images start steps s.content
    now = content_left start steps

    back : (kept content : List ℕ) (ws : List Range) → Leaves kept ws content → ByRanges content (length kept) ws image
        → Leaves kept ws image
    back kept content [] e is = is ∙ e
    back kept content (w ∷ ws) there is =
        leaves_of kept w ws image is.no_shorter (λ i h free. is.same i h free ∙ same_free kept (w ∷ ws) content there i h free)

-- What is read as a part is a part of a frame, what is read as nothing is nothing, and what is read as bad is a
-- header with that fault.
use Rattle.std.proofs.Common.{◌≡◌, ℕ, suc, ◌-◌, ◌<◌, ◌≤◌, Bool, true, false, cond, ltb, eqb, ◌&&◌, List, [], ◌∷◌, ◌++◌, length, replicate, refl, sym, ap, subst, ◌∙◌, append_assoc, arith, inl, inr}
use Rattle.std.specs.Prelude.{◌⊎◌}
use Rattle.std.specs.Int.{w32, from_be_bytes}
use Rattle.std.proofs.lemmas.Bool.{ltb-true, ltb-false, le-ltb, eqb-true, eqb-false, ne_eqb, and_parts, and_cases, and_left, and_right, cond-false}
use Rattle.std.proofs.lemmas.List.{length-append, length-replicate}
use Rattle.std.proofs.lemmas.Nat.{from_be_bytes-to_be_bytes_4}
use Rattle.nb_units.proofs.ByteLists.{number_fits_4}
use Rattle.nb_units.proofs.FrameLaws.{when, kind_allowed, partial_bad, whole_bad, empty_bad, bad_partial, length_spelled, header_spelled, four_bytes, word_bytes, cons_nil, empty_front}
use Rattle.nb_units.specs.Fields.{be4, sized}
use Rattle.nb_units.specs.Frames.{Frame, frame, Front, Whole, Empty, Partial, Bad, HeaderFault, BadMagic, BadVersion, BadKind, TooLong, body_of, behind_kind, behind_version, behind_magic, behind_first, front_of, AreBytes, HasFault, IsBegun, PartialIsPart, EmptyIsNothing, BadIsFault}

pub empty_is : EmptyIsNothing
unfolding front_of
empty_is bytes = (λ e. empty_front bytes e, λ e. ap front_of e)

-- ---- faults

-- a test that failed is the fault, or what follows it has the fault
chosen_bad : (test : Bool) (x : Front) (mine fault : HeaderFault) → cond test x (Bad mine) ≡ Bad fault → ((test ≡ true) × (x ≡ Bad fault)) ⊎ ((test ≡ false) × (mine ≡ fault))
chosen_bad true x mine fault e = inl (refl, e)
chosen_bad false x mine fault e = inr (refl, cc)

long_bad : (long short : Bool) (f : Frame) (r : List ℕ) (mine fault : HeaderFault) → cond long (Bad mine) (cond short Partial (Whole f r)) ≡ Bad fault → (long ≡ true) × (mine ≡ fault)
long_bad true short f r mine fault e = (refl, cc)
long_bad false true f r mine fault e = absurd (partial_bad fault e)
long_bad false false f r mine fault e = absurd (whole_bad f r fault e)

behind_kind_fault : (k : ℕ) (bytes : List ℕ) (fault : HeaderFault) → AreBytes bytes → 1 ≤ k → k ≤ 16 → behind_kind k bytes ≡ Bad fault → HasFault (78 ∷ 66 ∷ 1 ∷ k ∷ bytes) fault
behind_kind_fault k [] fault fits low high e = absurd (partial_bad fault e)
behind_kind_fault k (a ∷ []) fault fits low high e = absurd (partial_bad fault e)
behind_kind_fault k (a ∷ b ∷ []) fault fits low high e = absurd (partial_bad fault e)
behind_kind_fault k (a ∷ b ∷ c ∷ []) fault fits low high e = absurd (partial_bad fault e)
behind_kind_fault k (a ∷ b ∷ c ∷ d ∷ rest) fault fits low high e =
    let len : ℕ = from_be_bytes w32 (a ∷ b ∷ c ∷ d ∷ []) in
    let four : AreBytes (a ∷ b ∷ c ∷ d ∷ []) = word_bytes a b c d rest fits in
    let p = long_bad (ltb 1048576 len) (ltb (length rest) len) _ _ (TooLong 4 len) fault e in
    let stands : 78 ∷ 66 ∷ 1 ∷ k ∷ a ∷ b ∷ c ∷ d ∷ rest ≡ 78 ∷ 66 ∷ 1 ∷ k ∷ (be4 len ++ rest) = ap (λ (word : List ℕ). 78 ∷ 66 ∷ 1 ∷ k ∷ (word ++ rest)) (sym (length_spelled a b c d len four refl)) in
    subst (λ (f : HeaderFault). HasFault (78 ∷ 66 ∷ 1 ∷ k ∷ a ∷ b ∷ c ∷ d ∷ rest) f) p.1 (refl, ltb-true 1048576 len p.0, number_fits_4 (a ∷ b ∷ c ∷ d ∷ []) four, (k, low, high, (rest, stands)))

behind_version_fault : (bytes : List ℕ) (fault : HeaderFault) → AreBytes bytes → behind_version bytes ≡ Bad fault → HasFault (78 ∷ 66 ∷ 1 ∷ bytes) fault
behind_version_fault [] fault fits e = absurd (partial_bad fault e)
behind_version_fault (k ∷ bytes) fault fits e = which (chosen_bad (ltb 0 k && ltb k 17) (behind_kind k bytes) (BadKind 3 k) fault e)
  where
    out_of : (ltb 0 k ≡ false) ⊎ (ltb k 17 ≡ false) → (k ≡ 0) ⊎ (16 < k)
    out_of (inl low) = inl (omega (arith, ltb-false 0 k low))
    out_of (inr high) = inr (omega (arith, ltb-false k 17 high))

    which : (((ltb 0 k && ltb k 17) ≡ true) × (behind_kind k bytes ≡ Bad fault)) ⊎ (((ltb 0 k && ltb k 17) ≡ false) × (BadKind 3 k ≡ fault)) → HasFault (78 ∷ 66 ∷ 1 ∷ k ∷ bytes) fault
    which (inl p) =
        let both = and_parts (ltb 0 k) (ltb k 17) p.0 in
        behind_kind_fault k bytes fault (λ i. fits (suc i)) (omega (arith, ltb-true 0 k both.0)) (omega (arith, ltb-true k 17 both.1)) p.1
    which (inr p) = subst (λ (f : HeaderFault). HasFault (78 ∷ 66 ∷ 1 ∷ k ∷ bytes) f) p.1 (refl, (bytes, refl), out_of (and_cases (ltb 0 k) (ltb k 17) p.0))

behind_magic_fault : (bytes : List ℕ) (fault : HeaderFault) → AreBytes bytes → behind_magic bytes ≡ Bad fault → HasFault (78 ∷ 66 ∷ bytes) fault
behind_magic_fault [] fault fits e = absurd (partial_bad fault e)
behind_magic_fault (v ∷ bytes) fault fits e = which (chosen_bad (eqb v 1) (behind_version bytes) (BadVersion 2 v) fault e)
  where
    which : ((eqb v 1 ≡ true) × (behind_version bytes ≡ Bad fault)) ⊎ ((eqb v 1 ≡ false) × (BadVersion 2 v ≡ fault)) → HasFault (78 ∷ 66 ∷ v ∷ bytes) fault
    which (inl p) = subst (λ (x : ℕ). HasFault (78 ∷ 66 ∷ x ∷ bytes) fault) (sym (eqb-true v 1 p.0)) (behind_version_fault bytes fault (λ i. fits (suc i)) p.1)
    which (inr p) = subst (λ (f : HeaderFault). HasFault (78 ∷ 66 ∷ v ∷ bytes) f) p.1 (refl, (bytes, refl), eqb-false v 1 p.0)

behind_first_fault : (bytes : List ℕ) (fault : HeaderFault) → AreBytes bytes → behind_first bytes ≡ Bad fault → HasFault (78 ∷ bytes) fault
behind_first_fault [] fault fits e = absurd (partial_bad fault e)
behind_first_fault (m ∷ bytes) fault fits e = which (chosen_bad (eqb m 66) (behind_magic bytes) (BadMagic 1 m) fault e)
  where
    which : ((eqb m 66 ≡ true) × (behind_magic bytes ≡ Bad fault)) ⊎ ((eqb m 66 ≡ false) × (BadMagic 1 m ≡ fault)) → HasFault (78 ∷ m ∷ bytes) fault
    which (inl p) = subst (λ (x : ℕ). HasFault (78 ∷ x ∷ bytes) fault) (sym (eqb-true m 66 p.0)) (behind_magic_fault bytes fault (λ i. fits (suc i)) p.1)
    which (inr p) = subst (λ (f : HeaderFault). HasFault (78 ∷ m ∷ bytes) f) p.1 (inr (refl, (bytes, refl), eqb-false m 66 p.0))

front_fault : (bytes : List ℕ) (fault : HeaderFault) → AreBytes bytes → front_of bytes ≡ Bad fault → HasFault bytes fault
unfolding front_of
front_fault [] fault fits e = absurd (empty_bad fault e)
front_fault (m ∷ bytes) fault fits e = which (chosen_bad (eqb m 78) (behind_first bytes) (BadMagic 0 m) fault e)
  where
    which : ((eqb m 78 ≡ true) × (behind_first bytes ≡ Bad fault)) ⊎ ((eqb m 78 ≡ false) × (BadMagic 0 m ≡ fault)) → HasFault (m ∷ bytes) fault
    which (inl p) = subst (λ (x : ℕ). HasFault (x ∷ bytes) fault) (sym (eqb-true m 78 p.0)) (behind_first_fault bytes fault (λ i. fits (suc i)) p.1)
    which (inr p) = subst (λ (f : HeaderFault). HasFault (m ∷ bytes) f) p.1 (inl (refl, (bytes, refl), eqb-false m 78 p.0))

-- one of the two bounds of a kind fails
kind_out : (k : ℕ) → (k ≡ 0) ⊎ (16 < k) → (ltb 0 k && ltb k 17) ≡ false
kind_out k (inl low) = and_left _ _ (le-ltb 0 k (omega arith))
kind_out k (inr high) = and_right _ _ (le-ltb k 17 (omega arith))

fault_front : (bytes : List ℕ) (fault : HeaderFault) → HasFault bytes fault → front_of bytes ≡ Bad fault
unfolding front_of
fault_front bytes (BadMagic p m) (inl (at, (rest, e), bad)) = ap front_of e ∙ cond-false (eqb m 78) _ _ (ne_eqb m 78 bad) ∙ ap (λ (q : ℕ). Bad (BadMagic q m)) (sym at)
fault_front bytes (BadMagic p m) (inr (at, (rest, e), bad)) = ap front_of e ∙ cond-false (eqb m 66) _ _ (ne_eqb m 66 bad) ∙ ap (λ (q : ℕ). Bad (BadMagic q m)) (sym at)
fault_front bytes (BadVersion p v) (at, (rest, e), bad) = ap front_of e ∙ cond-false (eqb v 1) _ _ (ne_eqb v 1 bad) ∙ ap (λ (q : ℕ). Bad (BadVersion q v)) (sym at)
fault_front bytes (BadKind p k) (at, (rest, e), bad) = ap front_of e ∙ cond-false (ltb 0 k && ltb k 17) _ _ (kind_out k bad) ∙ ap (λ (q : ℕ). Bad (BadKind q k)) (sym at)
fault_front bytes (TooLong p len) (at, long, small, (k, low, high, (rest, e))) =
    ap front_of e
    ∙ kind_allowed k _ _ low high
    ∙ ap (λ (n : ℕ). body_of k n rest) (from_be_bytes-to_be_bytes_4 len small)
    ∙ when 1048576 len _ _ long
    ∙ ap (λ (q : ℕ). Bad (TooLong q len)) (sym at)

pub bad_is : BadIsFault
bad_is bytes fault fits = (λ e. front_fault bytes fault fits e, λ s. fault_front bytes fault s)

-- ---- parts

empty_partial : Empty ≡ Partial → ⊥
empty_partial e = cc

chosen_partial : (test : Bool) (x : Front) (fault : HeaderFault) → cond test x (Bad fault) ≡ Partial → (test ≡ true) × (x ≡ Partial)
chosen_partial true x fault e = (refl, e)
chosen_partial false x fault e = absurd (bad_partial fault e)

body_partial : (long short : Bool) (fault : HeaderFault) (f : Frame) (r : List ℕ) → cond long (Bad fault) (cond short Partial (Whole f r)) ≡ Partial → (long ≡ false) × (short ≡ true)
body_partial true short fault f r e = absurd (bad_partial fault e)
body_partial false true fault f r e = (refl, refl)
body_partial false false fault f r e = absurd (whole_partial f r e)
  where
    whole_partial : (f : Frame) (r : List ℕ) → Whole f r ≡ Partial → ⊥
    whole_partial f r e = cc

-- the four bytes before the length are allowed
kind_partial : (m n v k : ℕ) (behind : List ℕ) → front_of (m ∷ n ∷ v ∷ k ∷ behind) ≡ Partial → (m ≡ 78) × (n ≡ 66) × (v ≡ 1) × (1 ≤ k) × (k ≤ 16) × (behind_kind k behind ≡ Partial)
unfolding front_of
kind_partial m n v k behind e =
    let p = chosen_partial (eqb m 78) (behind_first (n ∷ v ∷ k ∷ behind)) _ e in
    let q = chosen_partial (eqb n 66) (behind_magic (v ∷ k ∷ behind)) _ p.1 in
    let r = chosen_partial (eqb v 1) (behind_version (k ∷ behind)) _ q.1 in
    let s = chosen_partial (ltb 0 k && ltb k 17) (behind_kind k behind) _ r.1 in
    let both = and_parts (ltb 0 k) (ltb k 17) s.0 in
    (eqb-true m 78 p.0, eqb-true n 66 q.0, eqb-true v 1 r.0, omega (arith, ltb-true 0 k both.0), omega (arith, ltb-true k 17 both.1), s.1)

-- a header, and a body of the length that it says, are a frame
spelled_whole : (m n v k a b c d : ℕ) (body : List ℕ) → AreBytes (a ∷ b ∷ c ∷ d ∷ []) → m ≡ 78 → n ≡ 66 → v ≡ 1 → length body ≡ from_be_bytes w32 (a ∷ b ∷ c ∷ d ∷ [])
    → let f : Frame = record { kind = k; body = body } in m ∷ n ∷ v ∷ k ∷ a ∷ b ∷ c ∷ d ∷ body ≡ frame f
spelled_whole m n v k a b c d body fits p q r is =
    header_spelled m n v k (a ∷ b ∷ c ∷ d ∷ body) (sized body) p q r (ap (λ (word : List ℕ). word ++ body) (sym (length_spelled a b c d (length body) fits is)))

abbrev IsPart : List ℕ → Type 0
IsPart bytes = (f : Frame) × (more : List ℕ) × IsBegun (length bytes) f × (bytes ++ more ≡ frame f) × (bytes ≡ [] → ⊥) × (more ≡ [] → ⊥)

-- a part of a header: what it lacks, and a body of zeros, make it a frame
header_part : (x y : ℕ) (bytes more : List ℕ) (m n v k a b c d : ℕ) → AreBytes (a ∷ b ∷ c ∷ d ∷ []) → (m ≡ 78) × (n ≡ 66) × (v ≡ 1) × (1 ≤ k) × (k ≤ 16)
    → (x ∷ bytes) ++ (y ∷ more) ≡ m ∷ n ∷ v ∷ k ∷ a ∷ b ∷ c ∷ d ∷ [] → ((length (x ∷ bytes) ≤ 4) ⊎ (8 ≤ length (x ∷ bytes)) → from_be_bytes w32 (a ∷ b ∷ c ∷ d ∷ []) ≡ 0) → IsPart (x ∷ bytes)
header_part x y bytes more m n v k a b c d fits good e none =
    let len : ℕ = from_be_bytes w32 (a ∷ b ∷ c ∷ d ∷ []) in
    let body : List ℕ = replicate len 0 in
    let long : length body ≡ len = length-replicate len 0 in
    let joined : (x ∷ bytes) ++ ((y ∷ more) ++ body) ≡ m ∷ n ∷ v ∷ k ∷ a ∷ b ∷ c ∷ d ∷ body = sym (append_assoc (x ∷ bytes) (y ∷ more) body) ∙ ap (λ (header : List ℕ). header ++ body) e in (
      record { kind = k; body = body },
      (y ∷ more) ++ body,
      (good.3, good.4, omega (arith, long, number_fits_4 (a ∷ b ∷ c ∷ d ∷ []) fits), λ all. omega (arith, long, none all)),
      joined ∙ spelled_whole m n v k a b c d body fits good.0 good.1 good.2 long,
      cons_nil x bytes,
      cons_nil y (more ++ body),
    )

-- a header and a part of its body: zeros make up what is lacking
body_part : (m n v k a b c d : ℕ) (rest : List ℕ) → AreBytes (a ∷ b ∷ c ∷ d ∷ []) → (m ≡ 78) × (n ≡ 66) × (v ≡ 1) × (1 ≤ k) × (k ≤ 16)
    → from_be_bytes w32 (a ∷ b ∷ c ∷ d ∷ []) ≤ 1048576 → length rest < from_be_bytes w32 (a ∷ b ∷ c ∷ d ∷ []) → IsPart (m ∷ n ∷ v ∷ k ∷ a ∷ b ∷ c ∷ d ∷ rest)
body_part m n v k a b c d rest fits good small few =
    let len : ℕ = from_be_bytes w32 (a ∷ b ∷ c ∷ d ∷ []) in
    let more : List ℕ = replicate (len - length rest) 0 in
    let lacking : length more ≡ len - length rest = length-replicate (len - length rest) 0 in
    let long : length (rest ++ more) ≡ len = omega (arith, length-append rest more, lacking, few) in (
      record { kind = k; body = rest ++ more },
      more,
      (good.3, good.4, omega (arith, long, small), λ all. omega (arith, long, small)),
      spelled_whole m n v k a b c d (rest ++ more) fits good.0 good.1 good.2 long,
      cons_nil m (n ∷ v ∷ k ∷ a ∷ b ∷ c ∷ d ∷ rest),
      λ none. omega (arith, lacking, few, ap length none),
    )

-- a number between two bounds is outside of neither
between : (n len : ℕ) → 4 < n → n < 8 → (n ≤ 4) ⊎ (8 ≤ n) → len ≡ 0
between n len above below (inl low) = absurd (omega arith)
between n len above below (inr high) = absurd (omega arith)

pub partial_is : PartialIsPart
unfolding front_of
partial_is [] fits e = absurd (empty_partial e)
partial_is (m ∷ []) fits e =
    let p = chosen_partial (eqb m 78) Partial _ e in
    header_part m 66 [] (1 ∷ 1 ∷ 0 ∷ 0 ∷ 0 ∷ 0 ∷ []) m 66 1 1 0 0 0 0 (four_bytes 0 0 0 0 (omega arith) (omega arith) (omega arith) (omega arith)) (eqb-true m 78 p.0, refl, refl, omega arith, omega arith) refl (λ all. refl)
partial_is (m ∷ n ∷ []) fits e =
    let p = chosen_partial (eqb m 78) (behind_first (n ∷ [])) _ e in
    let q = chosen_partial (eqb n 66) Partial _ p.1 in
    header_part m 1 (n ∷ []) (1 ∷ 0 ∷ 0 ∷ 0 ∷ 0 ∷ []) m n 1 1 0 0 0 0 (four_bytes 0 0 0 0 (omega arith) (omega arith) (omega arith) (omega arith)) (eqb-true m 78 p.0, eqb-true n 66 q.0, refl, omega arith, omega arith) refl (λ all. refl)
partial_is (m ∷ n ∷ v ∷ []) fits e =
    let p = chosen_partial (eqb m 78) (behind_first (n ∷ v ∷ [])) _ e in
    let q = chosen_partial (eqb n 66) (behind_magic (v ∷ [])) _ p.1 in
    let r = chosen_partial (eqb v 1) Partial _ q.1 in
    header_part m 1 (n ∷ v ∷ []) (0 ∷ 0 ∷ 0 ∷ 0 ∷ []) m n v 1 0 0 0 0 (four_bytes 0 0 0 0 (omega arith) (omega arith) (omega arith) (omega arith)) (eqb-true m 78 p.0, eqb-true n 66 q.0, eqb-true v 1 r.0, omega arith, omega arith) refl (λ all. refl)
partial_is (m ∷ n ∷ v ∷ k ∷ []) fits e =
    let p = kind_partial m n v k [] e in
    header_part m 0 (n ∷ v ∷ k ∷ []) (0 ∷ 0 ∷ 0 ∷ []) m n v k 0 0 0 0 (four_bytes 0 0 0 0 (omega arith) (omega arith) (omega arith) (omega arith)) (p.0, p.1, p.2, p.3, p.4) refl (λ all. refl)
partial_is (m ∷ n ∷ v ∷ k ∷ a ∷ []) fits e =
    let p = kind_partial m n v k (a ∷ []) e in
    header_part m 0 (n ∷ v ∷ k ∷ a ∷ []) (0 ∷ 0 ∷ []) m n v k a 0 0 0 (four_bytes a 0 0 0 (fits 4) (omega arith) (omega arith) (omega arith)) (p.0, p.1, p.2, p.3, p.4) refl (between 5 _ (omega arith) (omega arith))
partial_is (m ∷ n ∷ v ∷ k ∷ a ∷ b ∷ []) fits e =
    let p = kind_partial m n v k (a ∷ b ∷ []) e in
    header_part m 0 (n ∷ v ∷ k ∷ a ∷ b ∷ []) (0 ∷ []) m n v k a b 0 0 (four_bytes a b 0 0 (fits 4) (fits 5) (omega arith) (omega arith)) (p.0, p.1, p.2, p.3, p.4) refl (between 6 _ (omega arith) (omega arith))
partial_is (m ∷ n ∷ v ∷ k ∷ a ∷ b ∷ c ∷ []) fits e =
    let p = kind_partial m n v k (a ∷ b ∷ c ∷ []) e in
    header_part m 0 (n ∷ v ∷ k ∷ a ∷ b ∷ c ∷ []) [] m n v k a b c 0 (four_bytes a b c 0 (fits 4) (fits 5) (fits 6) (omega arith)) (p.0, p.1, p.2, p.3, p.4) refl (between 7 _ (omega arith) (omega arith))
partial_is (m ∷ n ∷ v ∷ k ∷ a ∷ b ∷ c ∷ d ∷ rest) fits e =
    let len : ℕ = from_be_bytes w32 (a ∷ b ∷ c ∷ d ∷ []) in
    let p = kind_partial m n v k (a ∷ b ∷ c ∷ d ∷ rest) e in
    let q = body_partial (ltb 1048576 len) (ltb (length rest) len) _ _ _ p.5 in
    body_part m n v k a b c d rest (word_bytes a b c d rest (λ i. fits (suc (suc (suc (suc i)))))) (p.0, p.1, p.2, p.3, p.4) (ltb-false 1048576 len q.0) (ltb-true (length rest) len q.1)

-- A whole frame at the front is read as that frame, what is read as a frame is its spelling, and a stream
-- has one splitting into frames, which is the longest.
use Rattle.std.proofs.Common.{◌≡◌, ℕ, zero, suc, ◌<◌, ◌≤◌, Bool, true, false, cond, ltb, eqb, ◌&&◌, List, [], ◌∷◌, ◌++◌, length, get_or, take, drop, refl, sym, ap, subst, ◌∙◌, append_assoc, arith, inl, inr}
use Rattle.std.specs.Prelude.{◌⊎◌, if◌then◌else◌, nat_lt}
use Rattle.std.specs.Int.{w32, from_be_bytes}
use Rattle.std.specs.List.{flat_map, AllByRecursion}
use Rattle.std.proofs.lemmas.Bool.{ltb-true, ltb-false, lt-ltb, le-ltb, eqb-true, and_parts}
use Rattle.std.proofs.lemmas.List.{length-append, append-nil, length-take-le, take-append-drop}
use Rattle.std.proofs.Math.Seq.{take-append_seam, drop-append_seam}
use Rattle.std.proofs.lemmas.Nat.{from_be_bytes-to_be_bytes_4, be_bytes_4}
use Rattle.nb_units.proofs.ByteLists.{AreBytes-drop}
use Rattle.nb_units.specs.Fields.{be4, sized}
use Rattle.nb_units.specs.Frames.{Frame, IsFrame, frame, Front, Whole, Empty, Partial, Bad, HeaderFault, body_of, behind_kind, behind_version, behind_magic, behind_first, front_of, IsWhole, Splits, AreBytes, PartIsPartial, HasReading}

-- a test that fails leaves the other branch
unless : {A : Type 0} (a b : ℕ) (x y : A) → b ≤ a → (if nat_lt a b then x else y) ≡ y
unless a b x y h = rw (le-ltb a b h) refl

-- a test that holds takes the first branch
pub when : {A : Type 0} (a b : ℕ) (x y : A) → a < b → (if nat_lt a b then x else y) ≡ x
when a b x y h = rw (lt-ltb a b h) refl

body_whole : (kind : ℕ) (body rest : List ℕ) → length body ≤ 1048576 → body_of kind (length body) (body ++ rest) ≡ Whole (record { kind = kind; body = body }) rest
body_whole kind body rest fits =
    unless 1048576 (length body) _ _ fits
    ∙ unless (length (body ++ rest)) (length body) _ _ (omega (arith, length-append body rest))
    ∙ rw (take-append_seam body rest, drop-append_seam body rest) refl

-- both bounds of a kind are tested
pub kind_allowed : {A : Type 0} (k : ℕ) (x y : A) → 1 ≤ k → k ≤ 16 → cond (ltb 0 k && ltb k 17) x y ≡ x
kind_allowed k x y low high = let a : ltb 0 k ≡ true = lt-ltb 0 k (omega arith) in let b : ltb k 17 ≡ true = lt-ltb k 17 (omega arith) in rw (a, b) refl

pub whole_front : (f : Frame) (rest : List ℕ) → IsFrame f → front_of (frame f ++ rest) ≡ Whole f rest
unfolding front_of
whole_front f rest h =
    kind_allowed f.kind _ _ h.0 h.1
    ∙ ap (λ (n : ℕ). body_of f.kind n (f.body ++ rest)) (from_be_bytes-to_be_bytes_4 (length f.body) (omega (arith, h.2)))
    ∙ body_whole f.kind f.body rest h.2

abbrev whole : Frame → List ℕ → Front
whole f rest = Whole f rest

same_frame : (f g : Frame) (r s : List ℕ) → whole f r ≡ whole g s → f ≡ g
same_frame f g r s e = cc

same_rest : (f g : Frame) (r s : List ℕ) → whole f r ≡ whole g s → r ≡ s
same_rest f g r s e = cc

is_whole : (front : Front) (f : Frame) (rest : List ℕ) → front ≡ Whole f rest → IsWhole front
is_whole front f rest e = rw e tt

pub longest : (fs gs : List Frame) (r t : List ℕ) → flat_map frame fs ++ r ≡ flat_map frame gs ++ t → AllByRecursion IsFrame fs → AllByRecursion IsFrame gs → (IsWhole (front_of r) → ⊥)
    → (more : List Frame) × (fs ≡ gs ++ more) × (t ≡ flat_map frame more ++ r)
longest fs [] r t e lawful given ends = (fs, refl, sym e)
longest [] (g ∷ gs) r t e lawful given ends =
    let one : r ≡ frame g ++ (flat_map frame gs ++ t) = e ∙ append_assoc (frame g) (flat_map frame gs) t in
    absurd (ends (is_whole (front_of r) g (flat_map frame gs ++ t) (ap front_of one ∙ whole_front g (flat_map frame gs ++ t) given.0)))
longest (f ∷ fs) (g ∷ gs) r t e lawful given ends =
    let one : frame f ++ (flat_map frame fs ++ r) ≡ frame g ++ (flat_map frame gs ++ t) =
    sym (append_assoc (frame f) (flat_map frame fs) r) ∙ e ∙ append_assoc (frame g) (flat_map frame gs) t in
    let both : whole f (flat_map frame fs ++ r) ≡ whole g (flat_map frame gs ++ t) =
    sym (whole_front f (flat_map frame fs ++ r) lawful.0) ∙ ap front_of one ∙ whole_front g (flat_map frame gs ++ t) given.0 in
    let more = longest fs gs r t (same_rest f g _ _ both) lawful.1 given.1 ends in
    (more.0, cons_same f g fs (gs ++ more.0) (same_frame f g _ _ both) more.1, more.2)
  where
    cons_same : (f g : Frame) (fs gs : List Frame) → f ≡ g → fs ≡ gs → f ∷ fs ≡ g ∷ gs
    cons_same f g fs gs a b = cc

pub longest_in : (stream r t : List ℕ) (fs gs : List Frame) → Splits stream fs r → AllByRecursion IsFrame gs → stream ≡ flat_map frame gs ++ t
    → (more : List Frame) × (fs ≡ gs ++ more) × (t ≡ flat_map frame more ++ r)
longest_in stream r t fs gs p given e = longest fs gs r t (sym p.bytes ∙ e) p.lawful given p.ends

nil_cons : (g : Frame) (gs : List Frame) → [] ≡ g ∷ gs → ⊥
nil_cons g gs e = cc

tail_same : (f g : Frame) (fs gs : List Frame) → f ∷ fs ≡ g ∷ gs → fs ≡ gs
tail_same f g fs gs e = cc

pub one_reading : (stream r s : List ℕ) (fs gs : List Frame) → Splits stream fs r → Splits stream gs s → (fs ≡ gs) × (r ≡ s)
one_reading stream r s fs gs p q =
    let a = longest fs gs r s (sym p.bytes ∙ q.bytes) p.lawful q.lawful p.ends in
    ended a.0 fs gs r s a.1 a.2 (lawful_more fs gs a.0 a.1 p.lawful) q.ends
  where
    lawful_more : (fs gs more : List Frame) → fs ≡ gs ++ more → AllByRecursion IsFrame fs → AllByRecursion IsFrame more
    lawful_more fs [] more e h = subst (λ (xs : List Frame). AllByRecursion IsFrame xs) e h
    lawful_more [] (g ∷ gs) more e h = absurd (nil_cons g (gs ++ more) e)
    lawful_more (f ∷ fs) (g ∷ gs) more e h = lawful_more fs gs more (tail_same f g fs (gs ++ more) e) h.1

    ended : (more fs gs : List Frame) (r s : List ℕ) → fs ≡ gs ++ more → s ≡ flat_map frame more ++ r → AllByRecursion IsFrame more → (IsWhole (front_of s) → ⊥) → (fs ≡ gs) × (r ≡ s)
    ended [] fs gs r s a b h ends = (a ∙ append-nil gs, sym b)
    ended (m ∷ more) fs gs r s a b h ends =
        absurd (ends (is_whole (front_of s) m (flat_map frame more ++ r) (ap front_of (b ∙ append_assoc (frame m) (flat_map frame more) r) ∙ whole_front m (flat_map frame more ++ r) h.0)))

-- ---- bytes that follow

-- a test that both pass, or both fail
through : (test : Bool) (x y other before after : Front) → (other ≡ before → ⊥) → (x ≡ before → y ≡ after) → cond test x other ≡ before → cond test y other ≡ after
through true x y other before after never goes e = goes e
through false x y other before after never goes e = absurd (never e)

-- a test that fails the same way
stays : (test : Bool) (x y other z : Front) → (x ≡ z → y ≡ z) → cond test x other ≡ z → cond test y other ≡ z
stays true x y other z goes e = goes e
stays false x y other z goes e = e

pub partial_bad : (fault : HeaderFault) → Partial ≡ Bad fault → ⊥
partial_bad fault e = cc

pub whole_bad : (f : Frame) (rest : List ℕ) (fault : HeaderFault) → whole f rest ≡ Bad fault → ⊥
whole_bad f rest fault e = cc

body_bad : (kind len : ℕ) (rest more : List ℕ) (fault : HeaderFault) → body_of kind len rest ≡ Bad fault → body_of kind len (rest ++ more) ≡ Bad fault
body_bad kind len rest more fault e = bad_cases (ltb 1048576 len) (ltb (length rest) len) _ _ _ _ fault e
  where
    bad_cases : (long short : Bool) (f : Frame) (r : List ℕ) (tooLong other : Front) (fault : HeaderFault) → cond long tooLong (cond short Partial (Whole f r)) ≡ Bad fault → cond long tooLong other ≡ Bad fault
    bad_cases true short f r tooLong other fault e = e
    bad_cases false true f r tooLong other fault e = absurd (partial_bad fault e)
    bad_cases false false f r tooLong other fault e = absurd (whole_bad f r fault e)

behind_kind_bad : (kind : ℕ) (bytes more : List ℕ) (fault : HeaderFault) → behind_kind kind bytes ≡ Bad fault → behind_kind kind (bytes ++ more) ≡ Bad fault
behind_kind_bad kind [] more fault e = absurd (partial_bad fault e)
behind_kind_bad kind (a ∷ []) more fault e = absurd (partial_bad fault e)
behind_kind_bad kind (a ∷ b ∷ []) more fault e = absurd (partial_bad fault e)
behind_kind_bad kind (a ∷ b ∷ c ∷ []) more fault e = absurd (partial_bad fault e)
behind_kind_bad kind (a ∷ b ∷ c ∷ d ∷ rest) more fault e = body_bad kind (from_be_bytes w32 (a ∷ b ∷ c ∷ d ∷ [])) rest more fault e

behind_version_bad : (bytes more : List ℕ) (fault : HeaderFault) → behind_version bytes ≡ Bad fault → behind_version (bytes ++ more) ≡ Bad fault
behind_version_bad [] more fault e = absurd (partial_bad fault e)
behind_version_bad (k ∷ bytes) more fault e = stays (ltb 0 k && ltb k 17) _ _ _ _ (behind_kind_bad k bytes more fault) e

behind_magic_bad : (bytes more : List ℕ) (fault : HeaderFault) → behind_magic bytes ≡ Bad fault → behind_magic (bytes ++ more) ≡ Bad fault
behind_magic_bad [] more fault e = absurd (partial_bad fault e)
behind_magic_bad (v ∷ bytes) more fault e = stays (eqb v 1) _ _ _ _ (behind_version_bad bytes more fault) e

behind_first_bad : (bytes more : List ℕ) (fault : HeaderFault) → behind_first bytes ≡ Bad fault → behind_first (bytes ++ more) ≡ Bad fault
behind_first_bad [] more fault e = absurd (partial_bad fault e)
behind_first_bad (m ∷ bytes) more fault e = stays (eqb m 66) _ _ _ _ (behind_magic_bad bytes more fault) e

pub empty_bad : (fault : HeaderFault) → Empty ≡ Bad fault → ⊥
empty_bad fault e = cc

pub bad_stays : (bytes more : List ℕ) (fault : HeaderFault) → front_of bytes ≡ Bad fault → front_of (bytes ++ more) ≡ Bad fault
unfolding front_of
bad_stays [] more fault e = absurd (empty_bad fault e)
bad_stays (m ∷ bytes) more fault e = stays (eqb m 78) _ _ _ _ (behind_first_bad bytes more fault) e

-- a header of eight bytes that is good so far: what follows decides, by its length alone
abbrev pub behind_header : List ℕ → List ℕ → Front
behind_header header more =
    let len : ℕ = from_be_bytes w32 (drop 4 header) in
    if nat_lt (length more) len then Partial else Whole (record { kind = get_or header 3 0; body = take len more }) (drop len more)

pub bad_partial : (fault : HeaderFault) → Bad fault ≡ Partial → ⊥
bad_partial fault e = cc

body_then : (long : Bool) (fault : HeaderFault) (before after : Front) → cond long (Bad fault) before ≡ Partial → cond long (Bad fault) after ≡ after
body_then true fault before after e = absurd (bad_partial fault e)
body_then false fault before after e = refl

pub header_then : (header more : List ℕ) → length header ≡ 8 → front_of header ≡ Partial → front_of (header ++ more) ≡ behind_header header more
unfolding front_of
header_then (m ∷ n ∷ v ∷ k ∷ a ∷ b ∷ c ∷ d ∷ []) more is e =
    through (eqb m 78) _ _ _ _ _ (bad_partial _) (through (eqb n 66) _ _ _ _ _ (bad_partial _) (through (eqb v 1) _ _ _ _ _ (bad_partial _) (through (ltb 0 k && ltb k 17) _ _ _ _ _ (bad_partial _)
    (body_then (ltb 1048576 (from_be_bytes w32 (a ∷ b ∷ c ∷ d ∷ []))) _ _ _)))) e
header_then (m ∷ n ∷ v ∷ k ∷ a ∷ b ∷ c ∷ d ∷ x ∷ rest) more is e = absurd (omega arith)
header_then few more is e = absurd (omega arith)

-- fewer bytes than a header has are no whole frame
not_whole : (test : Bool) (x other : Front) → (IsWhole x → ⊥) → (IsWhole other → ⊥) → IsWhole (cond test x other) → ⊥
not_whole true x other a b e = a e
not_whole false x other a b e = b e

behind_kind_short : (kind : ℕ) (bytes : List ℕ) → length bytes < 4 → IsWhole (behind_kind kind bytes) → ⊥
behind_kind_short kind [] n e = e
behind_kind_short kind (a ∷ []) n e = e
behind_kind_short kind (a ∷ b ∷ []) n e = e
behind_kind_short kind (a ∷ b ∷ c ∷ []) n e = e
behind_kind_short kind (a ∷ b ∷ c ∷ d ∷ rest) n e = absurd (omega arith)

behind_version_short : (bytes : List ℕ) → length bytes < 5 → IsWhole (behind_version bytes) → ⊥
behind_version_short [] n e = e
behind_version_short (k ∷ bytes) n e = not_whole (ltb 0 k && ltb k 17) _ _ (behind_kind_short k bytes (omega arith)) (λ is. is) e

behind_magic_short : (bytes : List ℕ) → length bytes < 6 → IsWhole (behind_magic bytes) → ⊥
behind_magic_short [] n e = e
behind_magic_short (v ∷ bytes) n e = not_whole (eqb v 1) _ _ (behind_version_short bytes (omega arith)) (λ is. is) e

behind_first_short : (bytes : List ℕ) → length bytes < 7 → IsWhole (behind_first bytes) → ⊥
behind_first_short [] n e = e
behind_first_short (m ∷ bytes) n e = not_whole (eqb m 66) _ _ (behind_magic_short bytes (omega arith)) (λ is. is) e

pub short_front : (bytes : List ℕ) → length bytes < 8 → IsWhole (front_of bytes) → ⊥
unfolding front_of
short_front [] n e = e
short_front (m ∷ bytes) n e = not_whole (eqb m 78) _ _ (behind_first_short bytes (omega arith)) (λ is. is) e

-- only no bytes at all are empty
bad_empty : (fault : HeaderFault) → Bad fault ≡ Empty → ⊥
bad_empty fault e = cc

part_empty : Partial ≡ Empty → ⊥
part_empty e = cc

whole_empty : (f : Frame) (rest : List ℕ) → whole f rest ≡ Empty → ⊥
whole_empty f rest e = cc

-- a test of which neither side is empty
not_empty : (test : Bool) (x other : Front) → (x ≡ Empty → ⊥) → (other ≡ Empty → ⊥) → cond test x other ≡ Empty → ⊥
not_empty true x other a b e = a e
not_empty false x other a b e = b e

behind_kind_empty : (kind : ℕ) (bytes : List ℕ) → behind_kind kind bytes ≡ Empty → ⊥
behind_kind_empty kind [] e = part_empty e
behind_kind_empty kind (a ∷ []) e = part_empty e
behind_kind_empty kind (a ∷ b ∷ []) e = part_empty e
behind_kind_empty kind (a ∷ b ∷ c ∷ []) e = part_empty e
behind_kind_empty kind (a ∷ b ∷ c ∷ d ∷ rest) e =
    not_empty (ltb 1048576 (from_be_bytes w32 (a ∷ b ∷ c ∷ d ∷ []))) _ _ (bad_empty _) (not_empty (ltb (length rest) (from_be_bytes w32 (a ∷ b ∷ c ∷ d ∷ []))) _ _ part_empty (whole_empty _ _)) e

behind_version_empty : (bytes : List ℕ) → behind_version bytes ≡ Empty → ⊥
behind_version_empty [] e = part_empty e
behind_version_empty (k ∷ bytes) e = not_empty (ltb 0 k && ltb k 17) _ _ (behind_kind_empty k bytes) (bad_empty _) e

behind_magic_empty : (bytes : List ℕ) → behind_magic bytes ≡ Empty → ⊥
behind_magic_empty [] e = part_empty e
behind_magic_empty (v ∷ bytes) e = not_empty (eqb v 1) _ _ (behind_version_empty bytes) (bad_empty _) e

behind_first_empty : (bytes : List ℕ) → behind_first bytes ≡ Empty → ⊥
behind_first_empty [] e = part_empty e
behind_first_empty (m ∷ bytes) e = not_empty (eqb m 66) _ _ (behind_magic_empty bytes) (bad_empty _) e

pub empty_front : (bytes : List ℕ) → front_of bytes ≡ Empty → bytes ≡ []
unfolding front_of
empty_front [] e = refl
empty_front (m ∷ bytes) e = absurd (not_empty (eqb m 78) _ _ (behind_first_empty bytes) (bad_empty _) e)

-- what is read as a frame is its spelling
abbrev chosen_whole : Bool → Front → HeaderFault → Front
chosen_whole test x fault = cond test x (Bad fault)

whole_chosen : (test : Bool) (x : Front) (fault : HeaderFault) (f : Frame) (rest : List ℕ) → cond test x (Bad fault) ≡ Whole f rest → (test ≡ true) × (x ≡ Whole f rest)
whole_chosen true x fault f rest e = (refl, e)
whole_chosen false x fault f rest e = absurd (bad_whole fault f rest e)
  where
    bad_whole : (fault : HeaderFault) (f : Frame) (rest : List ℕ) → Bad fault ≡ Whole f rest → ⊥
    bad_whole fault f rest e = cc

body_chosen : (long short : Bool) (fault : HeaderFault) (g f : Frame) (r rest : List ℕ) → cond long (Bad fault) (cond short Partial (Whole g r)) ≡ Whole f rest → (long ≡ false) × (short ≡ false) × (g ≡ f) × (r ≡ rest)
body_chosen true short fault g f r rest e = absurd (bad_whole fault f rest e)
  where
    bad_whole : (fault : HeaderFault) (f : Frame) (rest : List ℕ) → Bad fault ≡ Whole f rest → ⊥
    bad_whole fault f rest e = cc
body_chosen false true fault g f r rest e = absurd (partial_whole f rest e)
  where
    partial_whole : (f : Frame) (rest : List ℕ) → Partial ≡ Whole f rest → ⊥
    partial_whole f rest e = cc
body_chosen false false fault g f r rest e = (refl, refl, same_frame g f r rest e, same_rest g f r rest e)

pub length_spelled : (a b c d len : ℕ) → AreBytes (a ∷ b ∷ c ∷ d ∷ []) → len ≡ from_be_bytes w32 (a ∷ b ∷ c ∷ d ∷ []) → be4 len ≡ a ∷ b ∷ c ∷ d ∷ []
length_spelled a b c d len fits e = be_bytes_4 (a ∷ b ∷ c ∷ d ∷ []) len refl fits e

text_spelled : (a b c d len : ℕ) (body : List ℕ) → be4 len ≡ a ∷ b ∷ c ∷ d ∷ [] → len ≤ length body → a ∷ b ∷ c ∷ d ∷ body ≡ sized (take len body) ++ drop len body
text_spelled a b c d len body word le =
    let text : List ℕ = take len body in
    let long : length text ≡ len = length-take-le len body le in
    let first : List ℕ = a ∷ b ∷ c ∷ d ∷ [] in
    ap (λ (x : List ℕ). first ++ x) (sym (take-append-drop len body))
    ∙ ap (λ (x : List ℕ). x ++ (text ++ drop len body)) (sym (ap be4 long ∙ word))
    ∙ sym (append_assoc (be4 (length text)) text (drop len body))

pub header_spelled : (m n v k : ℕ) (tail text : List ℕ) → m ≡ 78 → n ≡ 66 → v ≡ 1 → tail ≡ text → m ∷ n ∷ v ∷ k ∷ tail ≡ 78 ∷ 66 ∷ 1 ∷ k ∷ text
header_spelled m n v k tail text p q r e = cc

frame_spelled : (m n v k a b c d len : ℕ) (body : List ℕ) → AreBytes (a ∷ b ∷ c ∷ d ∷ []) → m ≡ 78 → n ≡ 66 → v ≡ 1 → 0 < k → k < 17 → len ≡ from_be_bytes w32 (a ∷ b ∷ c ∷ d ∷ []) → len ≤ 1048576 → len ≤ length body
    → let f : Frame = record { kind = k; body = take len body } in IsFrame f × (m ∷ n ∷ v ∷ k ∷ a ∷ b ∷ c ∷ d ∷ body ≡ frame f ++ drop len body)
frame_spelled m n v k a b c d len body fits p q r low high is small le = (
  (omega arith, omega arith, omega (arith, length-take-le len body le)),
  header_spelled m n v k (a ∷ b ∷ c ∷ d ∷ body) (sized (take len body) ++ drop len body) p q r (text_spelled a b c d len body (length_spelled a b c d len fits is) le),
)

pub four_bytes : (a b c d : ℕ) → a < 256 → b < 256 → c < 256 → d < 256 → AreBytes (a ∷ b ∷ c ∷ d ∷ [])
four_bytes a b c d p q r s zero = p
four_bytes a b c d p q r s (suc zero) = q
four_bytes a b c d p q r s (suc (suc zero)) = r
four_bytes a b c d p q r s (suc (suc (suc zero))) = s
four_bytes a b c d p q r s (suc (suc (suc (suc i)))) = omega arith

pub word_bytes : (a b c d : ℕ) (body : List ℕ) → AreBytes (a ∷ b ∷ c ∷ d ∷ body) → AreBytes (a ∷ b ∷ c ∷ d ∷ [])
word_bytes a b c d body fits = four_bytes a b c d (fits 0) (fits 1) (fits 2) (fits 3)

pub frame_is : (bytes rest : List ℕ) (f : Frame) → AreBytes bytes → front_of bytes ≡ Whole f rest → IsFrame f × (bytes ≡ frame f ++ rest)
unfolding front_of
frame_is (m ∷ n ∷ v ∷ k ∷ a ∷ b ∷ c ∷ d ∷ body) rest f fits e =
    let len : ℕ = from_be_bytes w32 (a ∷ b ∷ c ∷ d ∷ []) in
    let p = whole_chosen (eqb m 78) (behind_first (n ∷ v ∷ k ∷ a ∷ b ∷ c ∷ d ∷ body)) _ f rest e in
    let q = whole_chosen (eqb n 66) (behind_magic (v ∷ k ∷ a ∷ b ∷ c ∷ d ∷ body)) _ f rest p.1 in
    let r = whole_chosen (eqb v 1) (behind_version (k ∷ a ∷ b ∷ c ∷ d ∷ body)) _ f rest q.1 in
    let s = whole_chosen (ltb 0 k && ltb k 17) (behind_kind k (a ∷ b ∷ c ∷ d ∷ body)) _ f rest r.1 in
    let t = body_chosen (ltb 1048576 len) (ltb (length body) len) _ (record { kind = k; body = take len body }) f (drop len body) rest s.1 in
    let kinds = and_parts (ltb 0 k) (ltb k 17) s.0 in
    let made = frame_spelled m n v k a b c d len body (word_bytes a b c d body (λ i. fits (suc (suc (suc (suc i)))))) (eqb-true m 78 p.0) (eqb-true n 66 q.0) (eqb-true v 1 r.0) (ltb-true 0 k kinds.0) (ltb-true k 17 kinds.1) refl
    (ltb-false 1048576 len t.0) (ltb-false (length body) len t.1) in
    let P : Frame → List ℕ → Type 0 = λ g tail. IsFrame g × (m ∷ n ∷ v ∷ k ∷ a ∷ b ∷ c ∷ d ∷ body ≡ frame g ++ tail) in
    subst (λ (g : Frame). P g rest) t.2 (subst (λ (tail : List ℕ). P (record { kind = k; body = take len body }) tail) t.3 made)
frame_is few rest f fits e = absurd (short_front few (omega arith) (is_whole (front_of few) f rest e))

-- ---- a part of a frame

pub cons_nil : (b : ℕ) (bytes : List ℕ) → b ∷ bytes ≡ [] → ⊥
cons_nil b bytes e = cc

nothing_left : (rest more : List ℕ) → rest ++ more ≡ [] → more ≡ []
nothing_left [] more e = e
nothing_left (b ∷ rest) more e = absurd (cons_nil b (rest ++ more) e)

pub part_is_partial : PartIsPartial
part_is_partial bytes more f fits is e some other = cases (front_of bytes) refl
  where
    whole : front_of (bytes ++ more) ≡ Whole f []
    whole = ap front_of (e ∙ sym (append-nil (frame f))) ∙ whole_front f [] is

    cases : (front : Front) → front_of bytes ≡ front → front ≡ Partial
    cases Partial was = refl
    cases Empty was = absurd (some (empty_front bytes was))
    cases (Bad fault) was = absurd (whole_bad f [] fault (sym whole ∙ bad_stays bytes more fault was))
    cases (Whole g rest) was =
        let made = frame_is bytes rest g fits was in
        let again : front_of (bytes ++ more) ≡ Whole g (rest ++ more) = ap (λ (x : List ℕ). front_of (x ++ more)) made.1 ∙ ap front_of (append_assoc (frame g) rest more) ∙ whole_front g (rest ++ more) made.0 in
        absurd (other (nothing_left rest more (same_rest g f (rest ++ more) [] (sym again ∙ whole))))

-- ---- each list of bytes has a reading

-- a whole frame stands at the front, or none
either_front : (front : Front) → ((f : Frame) × (rest : List ℕ) × (front ≡ Whole f rest)) ⊎ (IsWhole front → ⊥)
either_front (Whole f rest) = inl (f, rest, refl)
either_front Empty = inr (λ is. is)
either_front Partial = inr (λ is. is)
either_front (Bad fault) = inr (λ is. is)

-- a frame before a stream that has a reading
one_more : (stream rest last : List ℕ) (f : Frame) (fs : List Frame) → IsFrame f × (stream ≡ frame f ++ rest) → Splits rest fs last → Splits stream (f ∷ fs) last
one_more stream rest last f fs is p = record {
  bytes = is.1 ∙ ap (λ (x : List ℕ). frame f ++ x) p.bytes ∙ sym (append_assoc (frame f) (flat_map frame fs) last);
  lawful = (is.0, p.lawful);
  ends = p.ends;
}

-- what stands behind a frame is shorter, and bytes again
shorter : (stream rest : List ℕ) (f : Frame) → stream ≡ frame f ++ rest → length rest < length stream
shorter stream rest f e = omega (arith, ap length e, length-append (frame f) rest)

behind_bytes : (stream rest : List ℕ) (f : Frame) → stream ≡ frame f ++ rest → AreBytes stream → AreBytes rest
behind_bytes stream rest f e fits = subst AreBytes (ap (drop (length (frame f))) e ∙ drop-append_seam (frame f) rest) (AreBytes-drop (length (frame f)) stream fits)

-- a stream has a reading where what stands behind its first frame has one
read_on : (stream : List ℕ) → AreBytes stream → ((rest : List ℕ) → length rest < length stream → AreBytes rest → (fs : List Frame) × (last : List ℕ) × Splits rest fs last) → (fs : List Frame) × (last : List ℕ) × Splits stream fs last
read_on stream fits behind = from_front (either_front (front_of stream))
  where
    from_front : ((f : Frame) × (rest : List ℕ) × (front_of stream ≡ Whole f rest)) ⊎ (IsWhole (front_of stream) → ⊥) → (fs : List Frame) × (last : List ℕ) × Splits stream fs last
    from_front (inr none) = ([], stream, record { bytes = refl; lawful = tt; ends = none })
    from_front (inl one) =
        let is = frame_is stream one.1 one.0 fits one.2 in
        let more = behind one.1 (shorter stream one.1 one.0 is.1) (behind_bytes stream one.1 one.0 is.1 fits) in
        (one.0 ∷ more.0, more.1, one_more stream one.1 more.1 one.0 more.0 is more.2)

-- a stream of fewer bytes has a reading
read_in : (bound : ℕ) (stream : List ℕ) → length stream < bound → AreBytes stream → (fs : List Frame) × (last : List ℕ) × Splits stream fs last
read_in zero stream short fits = absurd (omega arith)
read_in (suc bound) stream short fits = read_on stream fits (λ rest less bytes. read_in bound rest (omega (arith, less, short)) bytes)

pub has_reading : HasReading
has_reading stream fits = read_in (suc (length stream)) stream (omega arith) fits

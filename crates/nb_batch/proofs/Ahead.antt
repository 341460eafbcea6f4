-- How far reading goes ahead of the frames that are given out: less than a piece, and where what follows is no frame, at most a header
-- more.
use Rattle.std.proofs.Common.{◌≡◌, ◌⊎◌, inl, inr, ⊎_elim, ℕ, zero, suc, ◌+◌, ◌<◌, ◌≤◌, Bool, true, false, cond, ltb, eqb, ◌&&◌, List, [], ◌∷◌, ◌++◌, length, take, drop, sym, ap, subst, ◌∙◌, arith}
use Rattle.std.proofs.lemmas.List.{length-append, take-append-drop, take-append-le}
use Rattle.std.proofs.Math.Seq.{take-append_seam}
use Rattle.std.specs.Int.{w32, from_be_bytes}
use Rattle.nb_units.specs.Frames.{Frame, frame, IsFrame, HeaderFault, Front, Whole, Partial, Bad, behind_kind, behind_version, behind_magic, behind_first, front_of, IsWhole, IsBad}
use Rattle.nb_units.proofs.FrameLaws.{whole_front}
use Rattle.nb_frame.specs.State.{Collected, waiting}
use Rattle.nb_frame.specs.Looks.{IsShort}
use Rattle.nb_frame.specs.Collected.{frame_at, TakesFrame}
use Rattle.nb_frame.specs.declared.stream.TheConstants.{MAX_PIECE}
use Rattle.nb_frame.specs.declared.stream.FrameAt.{FrameAt}
use Rattle.nb_frame.proofs.Cutting.{takes_less}
use Rattle.nb_frame.proofs.Shortness.{short_not_whole}
use Rattle.nb_batch.specs.Fetch.{IsNewest}

order : (m n : ℕ) → (m < n) ⊎ (n ≤ m)
order m zero = inr (omega arith)
order zero (suc n) = inl (omega arith)
order (suc m) (suc n) = elim (order m n) [ inl below ↦ inl (omega arith) | inr above ↦ inr (omega arith) ]

-- ---- a frame that begins in what waited

-- it ends in the last piece
ends_in_last : (before last rest : List ℕ) (f : Frame) → IsFrame f → IsShort (front_of before) → before ++ last ≡ frame f ++ rest → length rest < length last
ends_in_last before last rest f lawful short is = ⊎_elim
    (λ (longer : length before < length (frame f)). omega (arith, longer, ap length is, length-append before last, length-append (frame f) rest))
    (λ (within : length (frame f) ≤ length before).
    let n = length (frame f) in
    let front : take n before ≡ frame f = sym (take-append-le n before last within) ∙ ap (take n) is ∙ take-append_seam (frame f) rest in
    let split : before ≡ frame f ++ drop n before = sym (take-append-drop n before) ∙ ap (λ (xs : List ℕ). xs ++ drop n before) front in
    absurd (short_not_whole (front_of before) short (subst IsWhole (sym (ap front_of split ∙ whole_front f (drop n before) lawful)) tt)))
    (order (length before) (length (frame f)))

-- ---- a header that is not allowed

both_chosen : (test : Bool) (x y : Front) (fault : HeaderFault) → IsShort (cond test x (Bad fault)) → IsBad (cond test y (Bad fault)) → IsShort x × IsBad y
both_chosen true x y fault short bad = (short, bad)
both_chosen false x y fault short bad = absurd short

-- behind a length that is allowed nothing is bad
body_stays : (long few less : Bool) (fault : HeaderFault) (f g : Frame) (rest more : List ℕ) → IsShort (cond long (Bad fault) (cond few Partial (Whole f rest))) → IsBad (cond long (Bad fault) (cond less Partial (Whole g more))) → ⊥
body_stays true few less fault f g rest more short bad = short
body_stays false few true fault f g rest more short bad = bad
body_stays false few false fault f g rest more short bad = bad

kind_stays : (kind : ℕ) (bytes more : List ℕ) → 4 ≤ length bytes → IsShort (behind_kind kind bytes) → IsBad (behind_kind kind (bytes ++ more)) → ⊥
kind_stays kind [] more long short bad = absurd (omega (arith, long))
kind_stays kind (a ∷ []) more long short bad = absurd (omega (arith, long))
kind_stays kind (a ∷ b ∷ []) more long short bad = absurd (omega (arith, long))
kind_stays kind (a ∷ b ∷ c ∷ []) more long short bad = absurd (omega (arith, long))
kind_stays kind (a ∷ b ∷ c ∷ d ∷ rest) more long short bad =
    let len : ℕ = from_be_bytes w32 (a ∷ b ∷ c ∷ d ∷ []) in
    body_stays (ltb 1048576 len) (ltb (length rest) len) (ltb (length (rest ++ more)) len) _ _ _ _ _ short bad

version_stays : (bytes more : List ℕ) → 5 ≤ length bytes → IsShort (behind_version bytes) → IsBad (behind_version (bytes ++ more)) → ⊥
version_stays [] more long short bad = absurd (omega (arith, long))
version_stays (k ∷ bytes) more long short bad =
    let both = both_chosen (ltb 0 k && ltb k 17) (behind_kind k bytes) (behind_kind k (bytes ++ more)) _ short bad in
    kind_stays k bytes more (omega (arith, long)) both.0 both.1

magic_stays : (bytes more : List ℕ) → 6 ≤ length bytes → IsShort (behind_magic bytes) → IsBad (behind_magic (bytes ++ more)) → ⊥
magic_stays [] more long short bad = absurd (omega (arith, long))
magic_stays (v ∷ bytes) more long short bad =
    let both = both_chosen (eqb v 1) (behind_version bytes) (behind_version (bytes ++ more)) _ short bad in
    version_stays bytes more (omega (arith, long)) both.0 both.1

first_stays : (bytes more : List ℕ) → 7 ≤ length bytes → IsShort (behind_first bytes) → IsBad (behind_first (bytes ++ more)) → ⊥
first_stays [] more long short bad = absurd (omega (arith, long))
first_stays (m ∷ bytes) more long short bad =
    let both = both_chosen (eqb m 66) (behind_magic bytes) (behind_magic (bytes ++ more)) _ short bad in
    magic_stays bytes more (omega (arith, long)) both.0 both.1

header_stays : (bytes more : List ℕ) → 8 ≤ length bytes → IsShort (front_of bytes) → IsBad (front_of (bytes ++ more)) → ⊥
unfolding front_of
header_stays [] more long short bad = absurd (omega (arith, long))
header_stays (m ∷ bytes) more long short bad =
    let both = both_chosen (eqb m 78) (behind_first bytes) (behind_first (bytes ++ more)) _ short bad in
    first_stays bytes more (omega (arith, long)) both.0 both.1

-- what waited before the last piece was less than a header
bad_in_last : (before last : List ℕ) → IsShort (front_of before) → IsBad (front_of (before ++ last)) → length before < 8
bad_in_last before last short bad = ⊎_elim (λ (less : length before < 8). less) (λ (long : 8 ≤ length before). absurd (header_stays before last long short bad)) (order (length before) 8)

-- ---- what waits

-- behind a frame that was given out
pub ahead_frame : (old mid new : Collected) (f : FrameAt) → IsNewest old mid → TakesFrame mid new f → length (waiting old) < MAX_PIECE → length (waiting new) < MAX_PIECE
ahead_frame old mid new f (inl same) takes few = omega (arith, few, ap length same, (takes_less mid new f takes).0)
ahead_frame old mid new f (inr last) takes few =
    omega (arith, ends_in_last last.before last.piece (waiting new) (frame_at mid.held f) takes.lawful last.short (sym last.is ∙ takes.is), last.most)

-- where it is no frame
pub ahead_bad : (old mid : Collected) → IsNewest old mid → IsBad (front_of (waiting mid)) → length (waiting old) < MAX_PIECE → length (waiting mid) < MAX_PIECE + 8
ahead_bad old mid (inl same) bad few = omega (arith, few, ap length same)
ahead_bad old mid (inr last) bad few =
    omega (arith, bad_in_last last.before last.piece last.short (subst (λ (xs : List ℕ). IsBad (front_of xs)) last.is bad), ap length last.is, length-append last.before last.piece, last.most)

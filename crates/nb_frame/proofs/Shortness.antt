-- What is no whole frame yet is shorter than the longest frame.
use Rattle.std.proofs.Common.{◌≡◌, ℕ, ◌<◌, Bool, true, false, cond, ltb, eqb, ◌&&◌, List, [], ◌∷◌, length, refl, subst, arith}
use Rattle.std.specs.Int.{w32, from_be_bytes}
use Rattle.std.proofs.lemmas.Bool.{ltb-true, ltb-false}
use Rattle.nb_units.specs.Frames.{Frame, HeaderFault, Front, Whole, Empty, Partial, Bad, body_of, behind_kind, behind_version, behind_magic, behind_first, front_of, IsWhole, IsBad}
use Rattle.nb_frame.specs.Looks.{IsShort}

short_chosen : (test : Bool) (x : Front) (fault : HeaderFault) → IsShort (cond test x (Bad fault)) → IsShort x
short_chosen true x fault is = is
short_chosen false x fault is = absurd is

body_chosen : (long short : Bool) (fault : HeaderFault) (f : Frame) (rest : List ℕ) → IsShort (cond long (Bad fault) (cond short Partial (Whole f rest))) → (long ≡ false) × (short ≡ true)
body_chosen true short fault f rest is = absurd is
body_chosen false true fault f rest is = (refl, refl)
body_chosen false false fault f rest is = absurd is

body_length : (kind len : ℕ) (rest : List ℕ) → IsShort (body_of kind len rest) → length rest < 1048576
body_length kind len rest is =
    let tests = body_chosen (ltb 1048576 len) (ltb (length rest) len) _ _ _ is in
    omega (arith, ltb-false 1048576 len tests.0, ltb-true (length rest) len tests.1)

kind_length : (kind : ℕ) (bytes : List ℕ) → IsShort (behind_kind kind bytes) → length bytes < 1048580
kind_length kind [] is = omega arith
kind_length kind (a ∷ []) is = omega arith
kind_length kind (a ∷ b ∷ []) is = omega arith
kind_length kind (a ∷ b ∷ c ∷ []) is = omega arith
kind_length kind (a ∷ b ∷ c ∷ d ∷ rest) is = omega (arith, body_length kind (from_be_bytes w32 (a ∷ b ∷ c ∷ d ∷ [])) rest is)

version_length : (bytes : List ℕ) → IsShort (behind_version bytes) → length bytes < 1048581
version_length [] is = omega arith
version_length (k ∷ bytes) is = omega (arith, kind_length k bytes (short_chosen (ltb 0 k && ltb k 17) _ _ is))

magic_length : (bytes : List ℕ) → IsShort (behind_magic bytes) → length bytes < 1048582
magic_length [] is = omega arith
magic_length (v ∷ bytes) is = omega (arith, version_length bytes (short_chosen (eqb v 1) _ _ is))

first_length : (bytes : List ℕ) → IsShort (behind_first bytes) → length bytes < 1048583
first_length [] is = omega arith
first_length (m ∷ bytes) is = omega (arith, magic_length bytes (short_chosen (eqb m 66) _ _ is))

pub short_length : (bytes : List ℕ) → IsShort (front_of bytes) → length bytes < 1048584
unfolding front_of
short_length [] is = omega arith
short_length (m ∷ bytes) is = omega (arith, first_length bytes (short_chosen (eqb m 78) _ _ is))

-- what is short is neither whole nor bad
pub short_not_whole : (front : Front) → IsShort front → IsWhole front → ⊥
short_not_whole Empty is whole = whole
short_not_whole Partial is whole = whole
short_not_whole (Whole f rest) is whole = is
short_not_whole (Bad fault) is whole = is

pub bad_not_short : (fault : HeaderFault) (front : Front) → front ≡ Bad fault → IsShort front → ⊥
bad_not_short fault front e is = subst IsShort e is

pub bad_not_whole : (fault : HeaderFault) (front : Front) → front ≡ Bad fault → IsWhole front → ⊥
bad_not_whole fault front e is = subst IsWhole e is

-- nothing is short
pub nothing_short : IsShort (front_of [])
unfolding front_of
nothing_short = tt

pub short_not_bad : (front : Front) → IsShort front → IsBad front → ⊥
short_not_bad Empty is bad = bad
short_not_bad Partial is bad = bad
short_not_bad (Whole f rest) is bad = is
short_not_bad (Bad fault) is bad = is

-- nothing is nothing bad
pub nothing_bad : (bytes : List ℕ) → bytes ≡ [] → IsBad (front_of bytes) → ⊥
nothing_bad bytes none bad = short_not_bad (front_of []) nothing_short (subst (λ (xs : List ℕ). IsBad (front_of xs)) none bad)

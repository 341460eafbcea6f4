-- A part of a list of bytes is a list of bytes, and four bytes spell a number of four bytes.
use Rattle.std.proofs.Common.{ℕ, zero, suc, ◌+◌, ◌<◌, ◌^◌, List, [], ◌∷◌, take, drop, arith}
use Rattle.std.specs.Int.{w32, from_be_bytes}
use Rattle.std.proofs.lemmas.List.{get_or-drop}
use Rattle.nb_units.specs.Frames.{AreBytes}

pub AreBytes-drop : (n : ℕ) (bytes : List ℕ) → AreBytes bytes → AreBytes (drop n bytes)
AreBytes-drop n bytes fits i = rw get_or-drop (fits (n + i))

pub AreBytes-take : (n : ℕ) (bytes : List ℕ) → AreBytes bytes → AreBytes (take n bytes)
AreBytes-take zero bytes fits i = omega arith
AreBytes-take (suc n) [] fits i = omega arith
AreBytes-take (suc n) (b ∷ bytes) fits zero = fits 0
AreBytes-take (suc n) (b ∷ bytes) fits (suc i) = AreBytes-take n bytes (λ k. fits (suc k)) i

pub number_fits_4 : (bytes : List ℕ) → AreBytes bytes → from_be_bytes w32 bytes < 2 ^ 32
number_fits_4 bytes fits = omega (arith, fits 0, fits 1, fits 2, fits 3)

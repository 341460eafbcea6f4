-- An identifier and its 16 bytes, there and back.
use Rattle.std.proofs.Common.{◌≡◌, ℕ, List, ◌++◌, length, take, drop, refl, append_assoc, arith, length-drop, take-append-drop}
use Rattle.std.specs.Int.{w32, w64, from_be_bytes}
use Rattle.std.proofs.lemmas.List.{length-take-le}
use Rattle.std.proofs.lemmas.Nat.{from_be_bytes-to_be_bytes_4, from_be_bytes-to_be_bytes_8, be_bytes_4, be_bytes_8}
use Rattle.nb_units.specs.declared.epoid.Epoid.{Epoid}
use Rattle.nb_units.specs.Fields.{be4, be8}
use Rattle.nb_units.specs.Frames.{AreBytes}
use Rattle.nb_units.specs.Epoid.{epoid_bytes, epoid_of}
use Rattle.nb_units.specs.Laws.{EpoidReadsBack, EpoidSpellsBack}
use Rattle.nb_units.proofs.ByteLists.{AreBytes-drop, AreBytes-take}

pub reads_back : EpoidReadsBack
unfolding epoid_bytes epoid_of
reads_back e fits = same_parts _ _ _ e (from_be_bytes-to_be_bytes_4 e.merchant.0 fits.0) (from_be_bytes-to_be_bytes_8 e.moment fits.1) (from_be_bytes-to_be_bytes_4 e.serial fits.2)
  where
    same_parts : (m n k : ℕ) (e : Epoid) → m ≡ e.merchant.0 → n ≡ e.moment → k ≡ e.serial → (let made : Epoid = record { merchant = record { 0 = m }; moment = n; serial = k } in made ≡ e)
    same_parts m n k e a b c = rw (a, b, c) refl

-- the spelling has 16 bytes
pub length-epoid_bytes : (e : Epoid) → length (epoid_bytes e) ≡ 16
unfolding epoid_bytes
length-epoid_bytes e = refl

-- three parts of 16 bytes are the whole
joined : (bytes a b c : List ℕ) → a ≡ take 4 bytes → b ≡ take 8 (drop 4 bytes) → c ≡ drop 8 (drop 4 bytes) → a ++ b ++ c ≡ bytes
joined bytes a b c p q r = rw (p, q, r, append_assoc) (rw (take-append-drop 8 (drop 4 bytes)) (take-append-drop 4 bytes))

pub spelled : (bytes : List ℕ) (m n k : ℕ) → length bytes ≡ 16 → AreBytes bytes → m ≡ from_be_bytes w32 (take 4 bytes) → n ≡ from_be_bytes w64 (take 8 (drop 4 bytes)) → k ≡ from_be_bytes w32 (drop 8 (drop 4 bytes))
    → be4 m ++ be8 n ++ be4 k ≡ bytes
spelled bytes m n k is fits a b c =
    let rest : List ℕ = drop 4 bytes in
    let fitting : AreBytes rest = AreBytes-drop 4 bytes fits in
    let long : length rest ≡ 12 = omega (arith, length-drop 4 bytes) in
    joined bytes _ _ _
    (be_bytes_4 (take 4 bytes) m (length-take-le 4 bytes (omega arith)) (AreBytes-take 4 bytes fits) a)
    (be_bytes_8 (take 8 rest) n (length-take-le 8 rest (omega arith)) (AreBytes-take 8 rest fitting) b)
    (be_bytes_4 (drop 8 rest) k (omega (arith, length-drop 8 rest)) (AreBytes-drop 8 rest fitting) c)

pub spells_back : EpoidSpellsBack
unfolding epoid_bytes epoid_of
spells_back bytes is fits = spelled bytes _ _ _ is fits refl refl refl

-- The first 32 bytes of a list, and the last part of a list that was written.
use Rattle.std.proofs.Common.{◌≡◌, ℕ, ◌-◌, ◌≤◌, min, List, ◌++◌, length, take, drop, replicate, arith}
use Rattle.std.proofs.lemmas.List.{drop-replicate, take-replicate}
use Rattle.std.proofs.lemmas.Grind.{common_steps}
use Rattle.std.proofs.Math.Seq.{take-append-add}
use borrow.Rule.Slice.PartMut.{put_mid}
use Rattle.nb_seal.specs.Seal.{iv_shown}

-- where there are so many bytes, the front is they, and the rest follows it
pub front_and_rest : (m : ℕ) (bytes front : List ℕ) → m ≤ length bytes → front ≡ take m (bytes ++ replicate m 0) → bytes ≡ front ++ take (length bytes - m) (drop m bytes)
front_and_rest m bytes front long e = grind (arith, common_steps)

-- a front, with zeros where there are fewer bytes
padded_front : (m : ℕ) (bytes : List ℕ) → take (min (length bytes) m) bytes ++ drop (min (length bytes) m) (replicate m 0) ≡ take m (bytes ++ replicate m 0)
padded_front m bytes = grind (arith, common_steps, take-append-add bytes (replicate m 0) (m - length bytes), take-replicate, drop-replicate)

-- zeros behind the bytes that were copied
pub front_padded : (bytes copied : List ℕ) (n : ℕ) → n ≡ min (length bytes) 32 → copied ≡ take n bytes → copied ++ drop n (replicate 32 0) ≡ iv_shown bytes
front_padded bytes copied n e c = rw (c, e) (padded_front 32 bytes)

-- a vector's last part, written over
pub tail_written : (start len : ℕ) (old text items was part : List ℕ) → was ≡ items → items ≡ old ++ text → start ≡ length old → len ≡ length items → length part ≡ length text
    → take len (put_mid start (length was - start) was part ++ drop (length (put_mid start (length was - start) was part)) items) ≡ old ++ part
tail_written start len old text items was part e f g h k = grind (arith, common_steps)

-- the part of a vector that was appended
pub tail_appended : (start : ℕ) (old text was : List ℕ) → was ≡ old ++ text → start ≡ length old → take (length was - start) (drop start was) ≡ text
tail_appended start old text was e f = grind (arith, common_steps)

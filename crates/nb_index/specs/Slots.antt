-- On which slots the keys of an index fall, and the chain of puts of each slot.
use Rattle.std.specs.Prelude.{◌≡◌, ℕ, ◌+◌, ◌%◌, ◌<◌, ◌==◌, ◌||◌, nat_lt, List, [], ◌∷◌, ◌++◌, map, take, length, slice_index, if◌then◌else◌}
use Rattle.std.specs.Int.{w64, from_be_bytes}
use Rattle.sha2.specs.Sha256.{sha256}
use Rattle.nb_index.specs.declared.hashed.KeySlot.{KeySlot}
use Rattle.nb_index.specs.declared.put.Put.{Put}

-- the first 8 bytes of the digest of the index's key and the key, as a big-endian number, modulo the number of slots
unfoldable pub slot_of : List ℕ → ℕ → List ℕ → ℕ
slot_of index slots k = from_be_bytes w64 (take 8 (sha256 (index ++ k))) % slots

-- a key stands beside the slot on which it falls
pub record FallsOn (index : List ℕ) (slots : ℕ) (at : KeySlot) : Type 0 where
  pub slot : at.slot ≡ slot_of index slots at.key
  pub within : at.slot < slots

-- the slot of each put
abbrev pub slots_of : List ℕ → ℕ → List Put → List ℕ
slots_of index slots ps = map (λ p. slot_of index slots p.key) ps

-- the last place at which h stands. Places are counted from 1, and 0 stands for none
abbrev pub last_in : ℕ → List ℕ → ℕ
last_in h [] = 0
last_in h (x ∷ xs) = if nat_lt 0 (last_in h xs) || x == h then last_in h xs + 1 else 0

-- hs are the slots of the puts: each slot has the last place at which it stands there, and each place the last one before it
-- at which the same slot stands
pub record Chains (lasts before hs : List ℕ) : Type 0 where
  pub last : (h : ℕ) → h < length lasts → slice_index lasts h ≡ last_in h hs
  pub earlier : (i : ℕ) → i < length hs → slice_index before i ≡ last_in (slice_index hs i) (take i hs)
  pub as_many : length before ≡ length hs

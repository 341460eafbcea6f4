-- Numbers as words.
use Rattle.std.specs.Prelude.{◌≡◌, ◌≢◌, ◌⊎◌, ℕ, ◌<◌, List, length, codes, slice_index}

-- for the contract of a private function alone: the word is not empty and has neither a plus nor a leading zero
abbrev pub IsPlain : List ℕ → Type 0
IsPlain word = (0 < length word) × (slice_index word 0 ≢ slice_index (codes "+") 0) × ((slice_index word 0 ≢ slice_index (codes "0") 0) ⊎ (length word ≡ 1))

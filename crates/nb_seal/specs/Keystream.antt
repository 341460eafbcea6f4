-- The keystream of a key: the words of ChaCha20 with a block counter of 64 bits, from 0 on, and a nonce of 64
-- bits, which is 0, as its author defined it; each word as four bytes, the lowest first. Up to byte 2^38 they are
-- those of RFC 8439, section 2.3, with a nonce of zeros and the counter from 0 on, which has 32 bits there.
use Rattle.std.specs.Prelude.{◌≡◌, ℕ, ◌+◌, ◌/◌, ◌%◌, List, [], ◌∷◌, bit_xor, slice_index}
use Rattle.std.specs.Int.{w32, to_le_bytes}
use Rattle.rand_chacha.specs.ChaCha.{ChaCha, word_at, key_of}

-- byte i of the keystream: byte i mod 4 of word i div 4
unfoldable pub stream_byte : List ℕ → ℕ → ℕ
stream_byte key i = slice_index (to_le_bytes w32 (word_at 10 (key_of key) 0 (i / 4))) (i % 4)

-- the bytes, each xored with the keystream's, of which the first is that at the place
abbrev pub xored : List ℕ → ℕ → List ℕ → List ℕ
xored key place [] = []
xored key place (b ∷ bytes) = bit_xor b (stream_byte key place) ∷ xored key (place + 1) bytes

-- for the contracts of private functions alone: the next word that the generator gives is this word of the key's keystream
abbrev pub IsAtWord : List ℕ → ℕ → ChaCha → Type 0
IsAtWord key word generator = generator ≡ record { key = key_of key; stream = 0; word_pos = word }

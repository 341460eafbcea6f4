-- HMAC (RFC 2104, section 2) with SHA-256 (FIPS 180-4), for keys of at most a block of 64 bytes.
use Rattle.std.specs.Prelude.{◌≡◌, ℕ, ◌-◌, List, ◌++◌, length, map, replicate, bit_xor}
use Rattle.sha2.specs.Sha256.{sha256}
use Rattle.sha2.specs.Hashers.{Holds256}
use Rattle.sha2.specs.declared.Sha256.{Sha256}
use Rattle.nb_seal.specs.declared.limits.TheConstants.{BLOCK_BYTES}
use Rattle.nb_seal.specs.declared.mac.Mac.{Mac}

-- the key padded with zeros to a block of 64 bytes, each byte xored with a mark (RFC 2104, section 2, steps 1, 2 and 5)
unfoldable pub pad_of : List ℕ → ℕ → List ℕ
pad_of key mark = map (λ b. bit_xor b mark) (key ++ replicate (BLOCK_BYTES - length key) 0)

-- H(K xor opad, H(K xor ipad, message)), where ipad is 64 times 0x36 and opad 64 times 0x5C (RFC 2104, section 2)
unfoldable pub hmac_of : List ℕ → List ℕ → List ℕ
hmac_of key message = sha256 (pad_of key 0x5C ++ sha256 (pad_of key 0x36 ++ message))

-- the mac was begun with this key, and the pieces that it took make this message
pub record MacHolds (mac : Mac) (key message : List ℕ) : Type 0 where
  pub inside : Holds256 mac.inner (pad_of key 0x36 ++ message)
  pub outside : mac.outer ≡ pad_of key 0x5C

-- the hash has taken the key's block with this mark, and nothing else
abbrev pub IsBehind : Sha256 → List ℕ → ℕ → Type 0
IsBehind hasher key mark = Holds256 hasher (pad_of key mark)

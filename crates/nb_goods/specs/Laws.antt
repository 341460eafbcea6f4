-- What holds of all sealed goods and their parts.
use Rattle.std.specs.Prelude.{◌≡◌, ◌≢◌, ◌↔◌, ◌⊎◌, ℕ, ◌+◌, ◌-◌, ◌*◌, min, List, ◌++◌, codes, length, take, Result, Err}
use Rattle.sha2.specs.Sha256.{sha256}
use Rattle.nb_seal.specs.Hmac.{hmac_of}
use Rattle.nb_seal.specs.Keystream.{xored}
use Rattle.nb_goods.specs.declared.goods.OpenGoods.{OpenGoods}
use Rattle.nb_goods.specs.declared.goods.OpenGoods.TheVariants.{NoMemory}
use Rattle.nb_goods.specs.declared.limits.TheConstants.{GOODS_LABEL, MAX_GOODS, MAX_SEALED, PART_BYTES}
use Rattle.nb_goods.specs.Goods.{OpensTo, sealed_goods, part_at, joined, first_parts, count_of}
use Rattle.nb_goods.specs.Opening.{Opening}
use Rattle.nb_goods.specs.Collision.{Collision}

-- the iv of the goods, and then the goods xored with the keystream whose key is made from the iv
abbrev pub LayoutIs : Type 0
LayoutIs = (key goods iv : List ℕ) → iv ≡ hmac_of key (codes "good" ++ goods)
    → sealed_goods key goods ≡ iv ++ xored (hmac_of key (codes "enc" ++ iv)) 0 goods

-- sealed goods have 32 bytes more than the goods
abbrev pub SealedIs32BytesLonger : Type 0
SealedIs32BytesLonger = (key goods : List ℕ) → length (sealed_goods key goods) ≡ 32 + length goods

-- bytes open to at most one text under a key
abbrev pub OpensToOneText : Type 0
OpensToOneText = (key bytes first second : List ℕ) → OpensTo key bytes first → OpensTo key bytes second → first ≡ second

-- what was sealed opens to the goods that were sealed, and to nothing else
abbrev pub OpensToWhatWasSealed : Type 0
OpensToWhatWasSealed = (key goods text : List ℕ) → OpensTo key (sealed_goods key goods) text ↔ (text ≡ goods)

-- two answers about the same bytes, neither for want of memory, are the same
abbrev pub OneOpening : Type 0
OneOpening = (key bytes : List ℕ) (first second : Result (List ℕ) OpenGoods) → Opening key bytes first → Opening key bytes second
    → first ≢ Err NoMemory → second ≢ Err NoMemory → first ≡ second

-- the parts of a list, joined, are the list, and the first of them are its front
abbrev pub PartsJoin : Type 0
PartsJoin = (bytes : List ℕ) (n : ℕ) → (joined (first_parts bytes n) ≡ take (n * PART_BYTES) bytes)
    × (joined (first_parts bytes (count_of bytes)) ≡ bytes)

-- a part has the length of parts, or as many bytes as are left at its place
abbrev pub PartIsAsLong : Type 0
PartIsAsLong = (bytes : List ℕ) (place : ℕ) → length (part_at bytes place) ≡ min PART_BYTES (length bytes - place)

-- bytes with the checksum of sealed goods open to those goods, or are a collision with them
abbrev pub RightChecksumOpens : Type 0
RightChecksumOpens = (key goods bytes : List ℕ) → sha256 bytes ≡ sha256 (sealed_goods key goods)
    → OpensTo key bytes goods ⊎ Collision bytes (sealed_goods key goods)

-- the parts of sealed goods, joined, open to the goods
abbrev pub PartsOpenToTheGoods : Type 0
PartsOpenToTheGoods = (key goods : List ℕ)
    → OpensTo key (joined (first_parts (sealed_goods key goods) (count_of (sealed_goods key goods)))) goods

-- the limits in numbers
abbrev pub GoodsLimitsAre : Type 0
GoodsLimitsAre = (MAX_GOODS ≡ 67108864) × (MAX_SEALED ≡ 67108896) × (PART_BYTES ≡ 1000000)

-- the label
abbrev pub LabelIs : Type 0
LabelIs = GOODS_LABEL ≡ codes "good"

-- the longest goods, sealed, have 68 parts, and the last has 108,896 bytes
abbrev pub LongestGoodsAre : Type 0
LongestGoodsAre = (key goods : List ℕ) → length goods ≡ MAX_GOODS
    → (count_of (sealed_goods key goods) ≡ 68) × (length (part_at (sealed_goods key goods) (67 * PART_BYTES)) ≡ 108896)

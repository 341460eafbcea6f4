-- Goods, sealed: one list of bytes, and the parts that it is cut into.
use Rattle.std.specs.Prelude.{◌≡◌, ℕ, ◌+◌, ◌*◌, ◌/◌, ◌-◌, List, [], ◌∷◌, ◌++◌, codes, length, take, drop, suc, zero}
use Rattle.std.specs.List.{flat_map}
use Rattle.nb_units.specs.Fields.{be4}
use Rattle.nb_units.specs.declared.ids.PartyId.{PartyId}
use Rattle.nb_seal.specs.Hmac.{hmac_of}
use Rattle.nb_seal.specs.Seal.{seal_of}
use Rattle.nb_goods.specs.declared.limits.TheConstants.{PART_BYTES}

-- the key of the goods of one sale: the code of "goods", the merchant and the serial number under the master key
abbrev pub goods_key_of : List ℕ → PartyId → ℕ → List ℕ
goods_key_of master merchant serial = hmac_of master (codes "goods" ++ (be4 merchant.0 ++ be4 serial))

-- the sealed goods: the seal of the goods under the label "good", which is their iv and then the goods, ciphered
abbrev pub sealed_goods : List ℕ → List ℕ → List ℕ
sealed_goods key goods = seal_of key (codes "good") goods

-- under a key the bytes open to a text: they are that text, sealed
abbrev pub OpensTo : List ℕ → List ℕ → List ℕ → Type 0
OpensTo key bytes goods = bytes ≡ sealed_goods key goods

-- under a key the bytes open to no text
abbrev pub OpensToNothing : List ℕ → List ℕ → Type 0
OpensToNothing key bytes = (goods : List ℕ) → ¬ OpensTo key bytes goods

-- a list cut into pieces of one size, the last one shorter or equal: the piece at a place, and the first n, each of which begins where the
-- one before it ends
abbrev pub piece_at : ℕ → List ℕ → ℕ → List ℕ
piece_at size bytes place = take size (drop place bytes)

-- the first n of them
abbrev pub first_pieces : ℕ → List ℕ → ℕ → List (List ℕ)
first_pieces size bytes zero = []
first_pieces size bytes (suc n) = first_pieces size bytes n ++ piece_at size bytes (n * size) ∷ []

-- the part of a list of bytes at a place
abbrev pub part_at : List ℕ → ℕ → List ℕ
part_at bytes place = piece_at PART_BYTES bytes place

-- its first n parts
abbrev pub first_parts : List ℕ → ℕ → List (List ℕ)
first_parts bytes n = first_pieces PART_BYTES bytes n

-- how many parts it has
abbrev pub count_of : List ℕ → ℕ
count_of bytes = (length bytes + (PART_BYTES - 1)) / PART_BYTES

-- parts joined
abbrev pub joined : List (List ℕ) → List ℕ
joined parts = flat_map (λ part. part) parts

-- The checksum of the sealed goods in the bytes of an order: the 32 bytes at place 36, whether the order was read or spelled.
use Rattle.std.specs.Prelude.{◌≡◌, ℕ, List, length, take, drop, Ok}
use Rattle.nb_epo.specs.declared.order.Order.{Order}
use Rattle.nb_epo.specs.Spelling.{order_bytes}
use Rattle.nb_epo.specs.Reading.{order_of}

-- the 32 bytes at the place of the checksum in the spelling of an order
abbrev pub checksum_in : List ℕ → List ℕ
checksum_in bytes = take 32 (drop 36 bytes)

-- what is read as an order has the checksum that stands there
abbrev pub ChecksumIsRead : Type 0
ChecksumIsRead = (bytes : List ℕ) (o : Order) → order_of bytes ≡ Ok o → o.checksum ≡ checksum_in bytes

-- in the spelling of an order its checksum stands there, whatever its other fields are
abbrev pub ChecksumIsSpelled : Type 0
ChecksumIsSpelled = (o : Order) → length o.checksum ≡ 32 → checksum_in (order_bytes o) ≡ o.checksum

-- The identifier of an order in 16 bytes: the merchant in 4, the moment in 8, the serial number in 4. Each is
-- big-endian.
use Rattle.std.specs.Prelude.{ℕ, ◌<◌, ◌^◌, ◌==◌, ◌&&◌, Bool, List, ◌++◌, take, drop}
use Rattle.std.specs.Int.{w32, w64, from_be_bytes}
use Rattle.nb_units.specs.declared.epoid.Epoid.{Epoid}
use Rattle.nb_units.specs.Fields.{be4, be8}

-- each part fits its width
abbrev pub IsEpoid : Epoid → Type 0
IsEpoid e = (e.merchant.0 < 2 ^ 32) × (e.moment < 2 ^ 64) × (e.serial < 2 ^ 32)

-- its one spelling
unfoldable pub epoid_bytes : Epoid → List ℕ
epoid_bytes e = be4 e.merchant.0 ++ be8 e.moment ++ be4 e.serial

-- the identifier that 16 bytes spell
unfoldable pub epoid_of : List ℕ → Epoid
epoid_of bytes = record {
  merchant = record { 0 = from_be_bytes w32 (take 4 bytes) };
  moment = from_be_bytes w64 (take 8 (drop 4 bytes));
  serial = from_be_bytes w32 (drop 8 (drop 4 bytes));
}

-- two identifiers are one
abbrev pub is_same_epoid : Epoid → Epoid → Bool
is_same_epoid a b = a.merchant.0 == b.merchant.0 && a.moment == b.moment && a.serial == b.serial

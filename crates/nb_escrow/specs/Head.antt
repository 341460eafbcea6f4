-- The head of a house: three keys, one after the other, and the version and the rate of its journal.
use Rattle.std.specs.Prelude.{ℕ, ◌==◌, Option, Some, None, take, drop, if◌then◌else◌}
use Rattle.nb_units.specs.Charter.{MayRule}
use Rattle.nb_units.specs.declared.charter.Charter.{Charter}
use Rattle.nb_units.specs.declared.ids.Price.{Price}
use Rattle.nb_units.specs.declared.limits.TheConstants.{FEE_VERSION}
use Rattle.nb_book.specs.Money.{fee_at}
use Rattle.nb_escrow.specs.declared.head.Head.{Head}
use Rattle.nb_escrow.specs.declared.head.TheConstants.{KEY}

-- the head of what a house was made with
abbrev pub head_of : Charter → Head
head_of charter = record {
  house = take KEY charter.head;
  operator = take KEY (drop KEY charter.head);
  index = drop KEY (drop KEY charter.head);
  version = charter.version;
  rate = charter.rate;
}

-- a house may decide under it: its version is one of the two, and its rate is at most 1,000
abbrev pub IsRuling : Head → Type 0
IsRuling head = MayRule head.version head.rate

-- what the house keeps of a price: the fee of its rate, where its version has fees
abbrev pub charge : Head → Price → Option ℕ
charge head price = if head.version == FEE_VERSION then Some (fee_at head.rate price) else None

-- What a `Book` is seen as: its entries, how many it may hold, for how many its list of entries and its list of balances have memory, and
-- the shapes of its indexes.
use Rattle.std.specs.Prelude.{ℕ, List}
use Rattle.nb_index.specs.Puts.{Shape}
use Rattle.nb_entry.specs.declared.entry.Entry.{Entry}

pub record Ledger : Type 0 where
  pub entries : List Entry
  pub cap : ℕ
  pub places : List ℕ
  pub indexes : List Shape

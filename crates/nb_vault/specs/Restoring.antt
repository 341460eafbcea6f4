-- The entries that the items of a journal spell.
use Rattle.std.specs.Prelude.{◌≡◌, ℕ, ◌<◌, ◌≤◌, List, [], ◌++◌, length, take, slice_index_or}
use Rattle.std.specs.List.{AllByRecursion}
use Rattle.nb_units.specs.declared.charter.Charter.{Charter}
use Rattle.nb_entry.specs.declared.entry.Entry.{Entry}
use Rattle.nb_book.specs.Legal.{IsOfRate, LegalUnder}
use Rattle.nb_entry.specs.Spelling.{Spells}
use Rattle.nb_vault.specs.declared.restore.ItemRead.{ItemRead}
use Rattle.nb_vault.specs.declared.restore.ItemRead.TheVariants as reads
use Rattle.nb_vault.specs.declared.restore.ItemsRead.{ItemsRead}
use Rattle.nb_vault.specs.declared.restore.ItemsRead.TheVariants as scans
use Rattle.nb_vault.specs.Holdings.{Joins}

-- a list that is Legal under the version and the rate of a charter, and within the cap
pub record IsList (charter : Charter) (cap : ℕ) (entries : List Entry) : Type 0 where
  pub legal : LegalUnder charter.version charter.rate entries
  pub within : length entries ≤ cap

-- the item spells no entries that may come next
abbrev pub SpellsNothing : Charter → ℕ → List ℕ → List Entry → Type 0
SpellsNothing charter cap item before = (entries : List Entry) → Spells item entries → IsList charter cap (before ++ entries) → ⊥

-- the items before this one spell a Legal list, and this one spells no entries that may come next
pub record FirstBad (charter : Charter) (cap : ℕ) (items : List (List ℕ)) (item : ℕ) : Type 0 where
  pub inside : item < length items
  pub before : List Entry
  pub joins : Joins (take item items) before
  pub list : IsList charter cap before
  pub bad : SpellsNothing charter cap (slice_index_or items item []) before

-- for the contracts of private functions alone: one item, by the entries before and after it
abbrev pub ItemGives : Charter → ℕ → List ℕ → List Entry → List Entry → ItemRead → Type 0
ItemGives charter cap item before after reads.Whole =
    (entries : List Entry) × Spells item entries × (after ≡ before ++ entries) × AllByRecursion (IsOfRate charter.version charter.rate) after
ItemGives charter cap item before after reads.Bad = SpellsNothing charter cap item before

-- all items
abbrev pub ItemsRestore : Charter → ℕ → List (List ℕ) → List Entry → ItemsRead → Type 0
ItemsRestore charter cap items entries scans.Whole = Joins items entries × AllByRecursion (IsOfRate charter.version charter.rate) entries
ItemsRestore charter cap items entries (scans.Bad item) = FirstBad charter cap items item

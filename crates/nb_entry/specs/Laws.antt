-- What holds of the bytes of every entry.
use Rattle.std.specs.Prelude.{◌≡◌, ℕ, ◌≤◌, List, [], ◌∷◌, ◌++◌, length, Ok}
use Rattle.nb_units.specs.Frames.{AreBytes}
use Rattle.nb_units.specs.Laws.{StandsAt}
use Rattle.nb_entry.specs.declared.entry.Entry.{Entry}
use Rattle.nb_entry.specs.declared.spelling.TheConstants.{ENROL_ENTRY, FUND_ENTRY, PAID_ENTRY, REFUSED_ENTRY, CHARGED_ENTRY, MAX_ENTRY, MAX_ITEM_ENTRIES}
use Rattle.nb_entry.specs.Spelling.{IsEntry, Spells, entry_bytes, bytes_of_kind}
use Rattle.nb_entry.specs.Reading.{entry_at}

-- an entry that stands at a place is read there as that entry
abbrev pub EntryReadsBack : Type 0
EntryReadsBack = (bytes : List ℕ) (place : ℕ) (e : Entry) → IsEntry e → StandsAt (entry_bytes e) bytes place → entry_at bytes place ≡ Ok e

-- what is read as an entry at a place is within its limits, and its spelling stands there
abbrev pub EntrySpellsBack : Type 0
EntrySpellsBack = (bytes : List ℕ) (place : ℕ) (e : Entry) → AreBytes bytes → entry_at bytes place ≡ Ok e
    → IsEntry e × StandsAt (entry_bytes e) bytes place

-- bytes begin with the spelling of one entry at most, and an item spells one list of entries
abbrev pub OneSpelling : Type 0
OneSpelling =
    ((d e : Entry) (rest more : List ℕ) → IsEntry d → IsEntry e → entry_bytes d ++ rest ≡ entry_bytes e ++ more → (d ≡ e) × (rest ≡ more))
    × ((item : List ℕ) (ds es : List Entry) → Spells item ds → Spells item es → ds ≡ es)

-- an entry has as many bytes as its kind says, at most 125; the kinds are 1 to 5, and an item has at most 32 entries
abbrev pub EntryLayout : Type 0
EntryLayout =
    ((e : Entry) → IsEntry e → (length (entry_bytes e) ≡ bytes_of_kind e) × (length (entry_bytes e) ≤ MAX_ENTRY))
    × (ENROL_ENTRY ∷ FUND_ENTRY ∷ PAID_ENTRY ∷ REFUSED_ENTRY ∷ CHARGED_ENTRY ∷ [] ≡ 1 ∷ 2 ∷ 3 ∷ 4 ∷ 5 ∷ []) × (MAX_ENTRY ≡ 125) × (MAX_ITEM_ENTRIES ≡ 32)

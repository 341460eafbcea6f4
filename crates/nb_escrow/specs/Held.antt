-- An entry that is held already, and what a request is told whose entry is held or is recorded now.
use Rattle.std.specs.Prelude.{ℕ, ◌==◌, ◌&&◌, Bool, false, List, Option, Some, None, if◌then◌else◌}
use Rattle.std.specs.Str.{bytes_eq}
use Rattle.nb_units.specs.declared.ids.AcctId.{AcctId}
use Rattle.nb_entry.specs.declared.entry.Entry.{Entry}
use Rattle.nb_entry.specs.declared.entry.Entry.TheVariants.{Enrol, Fund, Paid, Charged, Refused}
use Rattle.nb_book.specs.Searches.{first_from, same_epoid}
use Rattle.nb_escrow.specs.declared.decision.Decision.{Decision}
use Rattle.nb_endorse.specs.declared.reply.Reply.TheVariants.{Done}
use Rattle.nb_endorse.specs.Keys.{no_keys}

-- a held entry is equal to another, field by field
abbrev pub same_entry : Entry → Entry → Bool
same_entry (Enrol a b c d e) (Enrol a' b' c' d' e') = (a.0 == a'.0) && (b == b') && (c.0 == c'.0) && (d == d') && bytes_eq e e'
same_entry (Fund a b c) (Fund a' b' c') = (a.0 == a'.0) && (b == b') && bytes_eq c c'
same_entry (Paid a b c d e f g h i j) (Paid a' b' c' d' e' f' g' h' i' j') =
    bytes_eq a a' && same_epoid b b' && (c.0 == c'.0) && (d.0 == d'.0) && (e == e') && (f.0 == f'.0) && (g.0 == g'.0) && (h.0 == h'.0) && (i == i') && bytes_eq j j'
same_entry (Charged a b c d e f g h i j k) (Charged a' b' c' d' e' f' g' h' i' j' k') =
    bytes_eq a a' && same_epoid b b' && (c.0 == c'.0) && (d.0 == d'.0) && (e == e') && (f.0 == f'.0) && (g == g') && (h.0 == h'.0) && (i.0 == i'.0) && (j == j') && bytes_eq k k'
same_entry (Refused a b c d e f g h i j) (Refused a' b' c' d' e' f' g' h' i' j') =
    bytes_eq a a' && same_epoid b b' && (c.0 == c'.0) && (d.0 == d'.0) && (e == e') && (f.0 == f'.0) && (g == g') && (h == h') && (i == i') && (j == j')
same_entry e other = false

-- a place, where the entry that is held there is equal to this one
abbrev pub place_at : Entry → ℕ → Entry → Option ℕ
place_at e at held = if same_entry held e then Some at else None

-- the place of the first entry that is equal to this one: the number of entries before it
abbrev pub place_in : List Entry → Entry → Option ℕ
place_in H e = first_from (place_at e) 0 H

-- what was asked for stands at this place
abbrev pub done : AcctId → ℕ → ℕ → Option Entry → Decision
done acct at balance entry = record { reply = Done acct at balance; keys = no_keys; entry = entry }

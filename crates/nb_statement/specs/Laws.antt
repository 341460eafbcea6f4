-- What the text of a statement says of money.
use Rattle.std.specs.Prelude.{◌≡◌, ℕ, ◌+◌, List, [], ◌∷◌, ◌++◌, Some, length}
use Rattle.std.specs.List.{fold}
use Rattle.nb_units.specs.declared.ids.AcctId.{AcctId}
use Rattle.nb_entry.specs.declared.entry.Entry.{Entry}
use Rattle.nb_book.specs.Legal.{Legal}
use Rattle.nb_book.specs.Money.{balance}
use Rattle.nb_statement.specs.declared.movement.Movement.{Movement}
use Rattle.nb_statement.specs.Movements.{after, movement_of, movements}
use Rattle.nb_statement.specs.Statement.{closing, heading, line, lines_behind, statement}

-- Of a list in two parts, the second of which begins with an entry that moves money on the account: behind the heading and the lines of the
-- first part stands the line of this entry, with the number of movements up to it and the balance of the list up to it
abbrev pub EachLineHasItsBalance : Type 0
EachLineHasItsBalance = (a : AcctId) (before : List Entry) (e : Entry) (more : List Entry) (m : Movement) → movement_of a e ≡ Some m
    → statement a (before ++ e ∷ more)
    ≡ (heading a ++ lines_behind a [] before) ++ (line (length (movements a before) + 1) m (balance (before ++ e ∷ []) a)
    ++ (lines_behind a (before ++ e ∷ []) more ++ closing (balance (before ++ e ∷ more) a)))

-- the text ends with the line of the balance of the list
abbrev pub ClosesWithTheBalance : Type 0
ClosesWithTheBalance = (a : AcctId) (H : List Entry) → (front : List ℕ) × (statement a H ≡ front ++ closing (balance H a))

-- of a Legal list, from 0 on, each fund, income and fee is added, and each outgoing taken away
abbrev pub MovementsMakeTheBalance : Type 0
MovementsMakeTheBalance = (H : List Entry) → Legal H → (a : AcctId) → balance H a ≡ fold after 0 (movements a H)

-- Legal lists that move the same on an account have one statement of it
abbrev pub EqualMovementsEqualTexts : Type 0
EqualMovementsEqualTexts = (G H : List Entry) → Legal G → Legal H → (a : AcctId) → movements a G ≡ movements a H → statement a G ≡ statement a H

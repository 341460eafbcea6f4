-- The statement of a list of entries for an account, as a whole text, and what is written of it.
use Rattle.std.specs.Prelude.{◌≡◌, ◌≢◌, ℕ, ◌+◌, ◌-◌, ◌==◌, ◌||◌, ◌<◌, Bool, List, [], ◌∷◌, ◌++◌, Option, Some, None, Result, Ok, Err, IsNone, codes, length, replicate, take}
use Rattle.std.specs.Fmt.{decimal}
use Rattle.std.specs.Io.KnownBytes.{Appends}
use Rattle.std.specs.Option.{is_some}
use Rattle.hex.specs.Hex.{encode_lower}
use Rattle.nb_units.specs.declared.ids.AcctId.{AcctId}
use Rattle.nb_port.specs.Faults.{Rose}
use Rattle.nb_entry.specs.declared.entry.Entry.{Entry}
use Rattle.nb_book.specs.Searches.{holder_in}
use Rattle.nb_book.specs.Money.{balance}
use Rattle.nb_statement.specs.declared.fault.StatementFault.{StatementFault}
use Rattle.nb_statement.specs.declared.fault.StatementFault.TheVariants as why
use Rattle.nb_statement.specs.declared.movement.Movement.{Movement}
use Rattle.nb_statement.specs.declared.movement.Way.{Way}
use Rattle.nb_statement.specs.declared.movement.Way.TheVariants as way
use Rattle.nb_statement.specs.Movements.{movement_of, movements}

-- ---- the text

-- the word of a way, of four characters
abbrev pub word_of : Way → List ℕ
word_of way.Fund = codes "fund"
word_of way.Out = codes "out "
word_of way.In = codes "in  "
word_of way.Fee = codes "fee "

-- a text on the right of so many places, behind blanks, whose code is 32. One that is longer stands whole
abbrev pub right : ℕ → List ℕ → List ℕ
right width text = replicate (width - length text) 32 ++ text

-- the line of a movement: its number in 8 places, its word, its name in 32 digits, its amount and the balance behind it in 20 places each, parted
-- by one blank
abbrev pub line : ℕ → Movement → ℕ → List ℕ
line number m behind =
    right 8 (decimal number) ++ codes " " ++ word_of m.way ++ codes " " ++ encode_lower m.name ++ codes " " ++ right 20 (decimal m.amount)
    ++ codes " " ++ right 20 (decimal behind) ++ codes "\n"

-- the first line
abbrev pub heading : AcctId → List ℕ
heading a = codes "account " ++ decimal a.0 ++ codes "\n"

-- the last line
abbrev pub closing : ℕ → List ℕ
closing balance = codes "closing " ++ decimal balance ++ codes "\n"

-- what stands of a movement, if there is one
abbrev pub told_of : ℕ → Option Movement → ℕ → List ℕ
told_of number (Some m) behind = line number m behind
told_of number None behind = []

-- What stands of an entry that comes after these: the line of what it moves on the account. Movements are numbered from 1, and the balance is
-- that of the list up to the entry
abbrev pub line_behind : AcctId → List Entry → Entry → List ℕ
line_behind a before e = told_of (length (movements a before) + 1) (movement_of a e) (balance (before ++ e ∷ []) a)

-- and of entries that come after these
abbrev pub lines_behind : AcctId → List Entry → List Entry → List ℕ
lines_behind a before [] = []
lines_behind a before (e ∷ more) = line_behind a before e ++ lines_behind a (before ++ e ∷ []) more

-- the statement of the entries for the account
abbrev pub statement : AcctId → List Entry → List ℕ
statement a H = heading a ++ (lines_behind a [] H ++ closing (balance H a))

-- ---- whom it is told of

-- it is the house's account, or a party holds it
abbrev pub is_known : List Entry → AcctId → Bool
is_known H a = (a.0 == 0) || is_some (holder_in H a)

-- it is not the house's account, and no party holds it
abbrev pub IsHeldByNobody : List Entry → AcctId → Type 0
IsHeldByNobody H a = (a.0 ≢ 0) × IsNone (holder_in H a)

-- ---- what is written

-- a part of the text was sent, from its front, and not all of it
pub record SentPart (sent sent' : Option (List ℕ)) (text : List ℕ) : Type 0 where
  pub count : ℕ
  pub less : count < length text
  pub appends : Appends sent sent' (take count text)

-- how sending a text went, by the counts of faults and what was sent before and after
abbrev pub Sends : ℕ → ℕ → Option (List ℕ) → Option (List ℕ) → List ℕ → Result (Unit {0}) StatementFault → Type 0
Sends before after sent sent' text (Ok u) = Appends sent sent' text
Sends before after sent sent' text (Err fault) = (fault ≡ why.WriteFault) × Rose before after × SentPart sent sent' text

-- What was sent, and what waits behind it, are this text
pub record Stands (sent sent' : Option (List ℕ)) (waits text : List ℕ) : Type 0 where
  pub done : List ℕ
  pub appends : Appends sent sent' done
  pub all : done ++ waits ≡ text

-- How bytes were put behind those that wait: then these are what was sent and what waits now; or a write failed, and a part of them was sent
abbrev pub Puts : {A : Type 0} → ℕ → ℕ → Option (List ℕ) → Option (List ℕ) → List ℕ → List ℕ → List ℕ → Result A StatementFault → Type 0
Puts before after sent sent' waited waits bytes (Ok x) = Stands sent sent' waits (waited ++ bytes)
Puts before after sent sent' waited waits bytes (Err fault) = (fault ≡ why.WriteFault) × Rose before after × SentPart sent sent' (waited ++ bytes)

-- How writing the statement of an account went, by the counts of faults and what was sent before and after: all of it was sent, or a write failed
-- behind a part of it. Where the account is refused it is the one that was asked for
abbrev pub Wrote : ℕ → ℕ → Option (List ℕ) → Option (List ℕ) → AcctId → List Entry → Result (Unit {0}) StatementFault → Type 0
Wrote before after sent sent' a H (Ok u) = Appends sent sent' (statement a H)
Wrote before after sent sent' a H (Err why.WriteFault) = Rose before after × SentPart sent sent' (statement a H)
Wrote before after sent sent' a H (Err (why.NoAccount acct)) = acct ≡ a
Wrote before after sent sent' a H (Err why.NoMemory) = Unit {0}

-- where the account is refused, or there is no memory, the sink is as before
abbrev pub Untouched : {K : Type 0} → K → K → Result (Unit {0}) StatementFault → Type 0
Untouched old new (Ok u) = Unit {0}
Untouched old new (Err why.WriteFault) = Unit {0}
Untouched old new (Err other) = new ≡ old

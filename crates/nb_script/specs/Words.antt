-- The words of a line, and what a word says.
use Rattle.std.specs.Prelude.{ℕ, ◌==◌, ◌&&◌, nat_le, Bool, true, false, List, [], ◌∷◌, length, slice_index_or, Option, Some, None, if◌then◌else◌}
use Rattle.std.specs.Fmt.{decimal}
use Rattle.std.specs.Option.{option_map}
use Rattle.std.specs.Result.{result_ok}
use Rattle.std.specs.Str.{bytes_eq}
use Rattle.std.specs.Str.Parse.{digits_value}
use Rattle.hex.specs.Hex.{decode_sized}
use Rattle.nb_units.specs.declared.ids.AcctId.{AcctId}
use Rattle.nb_units.specs.declared.ids.PartyId.{PartyId}
use Rattle.nb_script.specs.declared.limits.TheConstants.{SPACE}

infixl 10 ◌>>=◌
-- what comes of a value, if there is one
abbrev pub ◌>>=◌ : {A B : Type 0} → Option A → (A → Option B) → Option B
(Some x) >>= next = next x
None >>= next = None

-- the condition holds
abbrev pub where_so : Bool → Option (Unit {0})
where_so true = Some tt
where_so false = None

-- a byte before the first of these parts
abbrev pub onto_first : ℕ → List (List ℕ) → List (List ℕ)
onto_first b [] = (b ∷ []) ∷ []
onto_first b (part ∷ more) = (b ∷ part) ∷ more

-- the parts that a mark divides bytes into: one more than there are marks
unfoldable pub parts : ℕ → List ℕ → List (List ℕ)
parts mark [] = [] ∷ []
parts mark (b ∷ bytes) = if b == mark then [] ∷ parts mark bytes else onto_first b (parts mark bytes)

-- the words of a line: a space stands between two of them
abbrev pub words_of : List ℕ → List (List ℕ)
words_of line = parts SPACE line

-- the word at a place, counted from 0; empty where there are not so many
abbrev pub word_at : List (List ℕ) → ℕ → List ℕ
word_at words k = slice_index_or words k []

-- this is the word at a place
unfoldable pub says : List (List ℕ) → ℕ → List ℕ → Bool
says words k name = bytes_eq (word_at words k) name

-- there are so many words
unfoldable pub are : ℕ → List (List ℕ) → Option (Unit {0})
are count words = where_so (length words == count)

-- the number that a word is in decimal, without sign or leading zero, where it is from `least` to `most`
abbrev pub number_in : ℕ → ℕ → List ℕ → Option ℕ
number_in least most word =
    let n = digits_value 10 word in
    if bytes_eq word (decimal n) && nat_le least n && nat_le n most then Some n else None

-- the number at a place
unfoldable pub number_at : ℕ → ℕ → List (List ℕ) → ℕ → Option ℕ
number_at least most words k = number_in least most (word_at words k)

-- a number of 32 bits
unfoldable pub word4_at : List (List ℕ) → ℕ → Option ℕ
word4_at words k = number_at 0 4294967295 words k

-- a number of 64 bits
unfoldable pub word8_at : List (List ℕ) → ℕ → Option ℕ
word8_at words k = number_at 0 18446744073709551615 words k

-- the number of a party
unfoldable pub party_at : List (List ℕ) → ℕ → Option PartyId
party_at words k = option_map (λ n. record { 0 = n }) (word4_at words k)

-- the number of an account
unfoldable pub account_at : List (List ℕ) → ℕ → Option AcctId
account_at words k = option_map (λ n. record { 0 = n }) (word4_at words k)

-- so many bytes at a place, in hexadecimal digits of either case
unfoldable pub bytes_at : ℕ → List (List ℕ) → ℕ → Option (List ℕ)
bytes_at n words k = result_ok (decode_sized (word_at words k) n)

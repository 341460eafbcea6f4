-- The parts of an item's line, each up to its mark. All but a number and its mark is for the contracts of private functions alone.
use Rattle.std.specs.Prelude.{◌≡◌, ◌≢◌, ◌⊎◌, ℕ, ◌<◌, ◌≤◌, List, ◌∷◌, ◌++◌, length, slice_index, Option, None, Some}
use Rattle.std.specs.Fmt.{decimal}
use Rattle.std.specs.Borrow.{Bor}
use Rattle.nb_price.specs.declared.limits.TheConstants.{MAX_PRICE, SEMICOLON, LINE_FEED}
use Rattle.nb_goods.specs.declared.limits.TheConstants.{MAX_GOODS}
use Rattle.nb_price.specs.declared.line.Line.{Line}
use Rattle.nb_price.specs.declared.line.Found.{Found}
use Rattle.nb_price.specs.Shelf.{Item, IsName}

-- the mark is no byte of the word
abbrev pub IsFree : ℕ → List ℕ → Type 0
IsFree mark word = (k : ℕ) → k < length word → slice_index word k ≢ mark

-- the mark is no digit
abbrev pub IsNoDigit : ℕ → Type 0
IsNoDigit mark = (mark < 48) ⊎ (57 < mark)

-- a number and what follows its mark
abbrev pub IsNumbered : Option (ℕ × Bor (List ℕ)) → ℕ → List ℕ → Type 0
IsNumbered (Some p) n rest = (p.0 ≡ n) × (p.1.now ≡ rest)
IsNumbered None n rest = ⊥

-- a line: two numbers, a name and a number, each with its mark, and what follows it
unfoldable pub line_bytes : ℕ → ℕ → List ℕ → ℕ → List ℕ → List ℕ
line_bytes id price name len rest =
    decimal id ++ SEMICOLON ∷ (decimal price ++ SEMICOLON ∷ (name ++ SEMICOLON ∷ (decimal len ++ LINE_FEED ∷ rest)))

-- a line was read
abbrev pub IsLine : Option Line → ℕ → ℕ → List ℕ → ℕ → List ℕ → Type 0
IsLine (Some l) id price name len rest = (l.id ≡ id) × (l.price ≡ price) × (l.name.now ≡ name) × (l.len ≡ len) × (l.rest.now ≡ rest)
IsLine None id price name len rest = ⊥

-- what a line says is within the limits of items
abbrev pub IsLawful : Line → Type 0
IsLawful l = (1 ≤ l.price) × (l.price ≤ MAX_PRICE) × (l.len ≤ MAX_GOODS) × IsName l.name.now

-- an item was read
abbrev pub IsFound : Option Found → Item → List ℕ → Type 0
IsFound (Some f) x rest = (f.id ≡ x.id) × (f.price ≡ x.price) × (f.goods.now ≡ x.goods) × (f.rest.now ≡ rest)
IsFound None x rest = ⊥

-- What reading a whole input comes to, up to a limit, by what was left of it before and after.
use Rattle.std.specs.Prelude.{◌≡◌, ℕ, ◌+◌, ◌≤◌, List, length, Option}
use Rattle.std.specs.Io.KnownBytes.{Consumes, IsAtEnd}
use Rattle.nb_port.specs.Faults.{Rose}
use Rattle.nb_commands.specs.declared.input.InputRead.{InputRead}
use Rattle.nb_commands.specs.declared.input.InputRead.TheVariants as reads

-- these bytes are all of it, and no more than the limit
pub record TookAll (left left' : Option (List ℕ)) (limit : ℕ) (bytes : List ℕ) : Type 0 where
  pub few : length bytes ≤ limit
  pub took : Consumes left left' bytes
  pub ended : IsAtEnd left'

-- one byte more than the limit was read
pub record TookMore (left left' : Option (List ℕ)) (limit : ℕ) : Type 0 where
  pub taken : List ℕ
  pub many : length taken ≡ limit + 1
  pub took : Consumes left left' taken

-- a part of it was read, at most one byte more than the limit
pub record TookUpTo (left left' : Option (List ℕ)) (limit : ℕ) : Type 0 where
  pub taken : List ℕ
  pub few : length taken ≤ limit + 1
  pub took : Consumes left left' taken

-- by cases on what was read, for the counts of faults and what was left
abbrev pub InputGives : ℕ → ℕ → Option (List ℕ) → Option (List ℕ) → ℕ → InputRead → Type 0
InputGives before after left left' limit (reads.All bytes) = TookAll left left' limit bytes.items
InputGives before after left left' limit reads.Longer = TookMore left left' limit
InputGives before after left left' limit reads.Failed = Rose before after × TookUpTo left left' limit
InputGives before after left left' limit reads.NoMemory = TookUpTo left left' limit

-- What the statement of an account of a journal comes to.
use Rattle.std.specs.Prelude.{◌≡◌, ◌⊎◌, ◌↔◌, ℕ, List, Option, IfSome, Result, Ok, Err}
use Rattle.std.specs.Io.KnownBytes.{Appends}
use Rattle.nb_port.specs.Tells.{DiskTells}
use Rattle.nb_units.specs.declared.charter.Charter.{Charter}
use Rattle.nb_units.specs.declared.ids.AcctId.{AcctId}
use Rattle.nb_entry.specs.declared.entry.Entry.{Entry}
use Rattle.nb_vault.specs.Holdings.{StandsFor}
use Rattle.nb_statement.specs.declared.fault.StatementFault.{StatementFault}
use Rattle.nb_statement.specs.declared.fault.StatementFault.TheVariants as why
use Rattle.nb_statement.specs.Statement.{IsHeldByNobody, SentPart, statement}
use Rattle.nb_commands.specs.declared.ending.Ending.{Ending}
use Rattle.nb_commands.specs.declared.ending.TheConstants.{CLEAN, SINK_FAILED, OUT_OF_MEMORY, NO_ACCOUNT}
use Rattle.nb_commands.specs.Ending.{at_no_place}
use Rattle.nb_commands.specs.Opening.{Opened, Unopened}

-- The journal was opened, and its entries are these: the account was told of them, by the status that the run ended with, for what the sink told
-- before and tells after
pub record Stated {D : Type 0} (tells : DiskTells D) (old new : D) (sent sent' : Option (List ℕ)) (a : AcctId) (ending : Ending) : Type 0 where
  pub opened : Opened tells old new
  -- after status 0 their statement was sent, and after 4 a part of it, from its front and not all of it
  pub whole : ending.status ≡ CLEAN → Appends sent sent' (statement a opened.entries)
  pub part : ending.status ≡ SINK_FAILED → SentPart sent sent' (statement a opened.entries)
  -- the status is 15 exactly where the account is not the house's and no party holds it
  pub refused : ending.status ≡ NO_ACCOUNT ↔ IsHeldByNobody opened.entries a
  pub ends : (ending ≡ at_no_place CLEAN) ⊎ (ending ≡ at_no_place SINK_FAILED) ⊎ (ending ≡ at_no_place NO_ACCOUNT) ⊎ (ending ≡ at_no_place OUT_OF_MEMORY)

-- what it comes to
abbrev pub StatementIs : {D : Type 0} → DiskTells D → D → D → Option (List ℕ) → Option (List ℕ) → AcctId → Ending → Type 0
StatementIs tells old new sent sent' a ending = Unopened tells old new ending ⊎ Stated tells old new sent sent' a ending

-- ---- for the contracts of private functions alone

-- how the run ends, by how writing the statement did
abbrev pub told_ending : Result (Unit {0}) StatementFault → Ending
told_ending (Ok u) = at_no_place CLEAN
told_ending (Err (why.NoAccount acct)) = at_no_place NO_ACCOUNT
told_ending (Err why.WriteFault) = at_no_place SINK_FAILED
told_ending (Err why.NoMemory) = at_no_place OUT_OF_MEMORY

-- What promoting a standby comes to.
use Rattle.std.specs.Prelude.{◌≡◌, ◌⊎◌, ℕ, List, ◌++◌, Option, IfSome, codes, length, ⊤}
use Rattle.std.specs.Fmt.{decimal}
use Rattle.std.specs.Io.KnownBytes.{Appends}
use Rattle.nb_port.specs.Faults.{Rose}
use Rattle.nb_port.specs.Tells.{DiskTells}
use Rattle.nb_units.specs.declared.charter.Charter.{Charter}
use Rattle.nb_entry.specs.declared.entry.Entry.{Entry}
use Rattle.nb_vault.specs.Holdings.{StandsFor}
use Rattle.nb_batch.specs.Send.{SentPart}
use Rattle.nb_commands.specs.declared.ending.Ending.{Ending}
use Rattle.nb_commands.specs.declared.ending.TheConstants.{CLEAN, SINK_FAILED, OUT_OF_MEMORY}
use Rattle.nb_commands.specs.declared.promoting.Promotion.{Promotion}
use Rattle.nb_commands.specs.declared.promoting.Promotion.TheVariants as ends
use Rattle.nb_commands.specs.Ending.{at_no_place}
use Rattle.nb_commands.specs.Opening.{Opened, Unopened}

-- the line that tells how many entries stand
abbrev pub promoted_line : ℕ → List ℕ
promoted_line entries = codes "promoted " ++ decimal entries ++ codes "\n"

-- The journal was opened, and its entries are these: the line was sent, by the status that the run ended with, for what the sink told before and tells after
pub record Promoted {D : Type 0} (tells : DiskTells D) (old new : D) (sent sent' : Option (List ℕ)) (ending : Ending) : Type 0 where
  pub opened : Opened tells old new
  -- after status 0 the line of their number was sent, and after 4 a part of it, from its front and not all of it
  pub whole : ending.status ≡ CLEAN → Appends sent sent' (promoted_line (length opened.entries))
  pub part : ending.status ≡ SINK_FAILED → SentPart sent sent' (promoted_line (length opened.entries))
  pub ends : (ending ≡ at_no_place CLEAN) ⊎ (ending ≡ at_no_place SINK_FAILED) ⊎ (ending ≡ at_no_place OUT_OF_MEMORY)

-- what it comes to
abbrev pub PromoteIs : {D : Type 0} → DiskTells D → D → D → Option (List ℕ) → Option (List ℕ) → Ending → Type 0
PromoteIs tells old new sent sent' ending = Unopened tells old new ending ⊎ Promoted tells old new sent sent' ending

-- ---- for the contracts of private functions alone

-- how telling it ends the program
abbrev pub promotion_ending : Promotion → Ending
promotion_ending ends.Told = at_no_place CLEAN
promotion_ending ends.WriteFault = at_no_place SINK_FAILED
promotion_ending ends.NoMemory = at_no_place OUT_OF_MEMORY

-- the line was sent, or a part of it, or there was no memory for it
abbrev pub TellsLength : {K : Type 0} → K → K → Option (List ℕ) → Option (List ℕ) → ℕ → ℕ → ℕ → Promotion → Type 0
TellsLength old new sent sent' sink sink' entries ends.Told = Appends sent sent' (promoted_line entries)
TellsLength old new sent sent' sink sink' entries ends.WriteFault = Rose sink sink' × SentPart sent sent' (promoted_line entries)
TellsLength old new sent sent' sink sink' entries ends.NoMemory = new ≡ old

-- What shipping the records of a journal comes to.
use Rattle.std.specs.Prelude.{◌≡◌, ◌≢◌, ◌⊎◌, ◌↔◌, ℕ, ◌<◌, ◌≤◌, List, Option, IfSome, length, Result, Ok, Err}
use Rattle.std.specs.Io.KnownBytes.{Appends}
use Rattle.nb_port.specs.Tells.{DiskTells}
use Rattle.nb_units.specs.declared.charter.Charter.{Charter}
use Rattle.nb_entry.specs.declared.entry.Entry.{Entry}
use Rattle.nb_escrow.specs.Head.{head_of}
use Rattle.nb_vault.specs.Holdings.{StandsFor}
use Rattle.nb_batch.specs.declared.shipping.ShipFault.{ShipFault}
use Rattle.nb_batch.specs.declared.shipping.ShipFault.TheVariants as why
use Rattle.nb_batch.specs.Send.{SentPart}
use Rattle.nb_batch.specs.Shipping.{shipped_from}
use Rattle.nb_commands.specs.declared.ending.Ending.{Ending}
use Rattle.nb_commands.specs.declared.ending.TheConstants.{CLEAN, SINK_FAILED, OUT_OF_MEMORY, NO_PLACE}
use Rattle.nb_commands.specs.Ending.{at_no_place}
use Rattle.nb_commands.specs.Opening.{Opened, Unopened}

-- The journal was opened, and its entries are these: their records were sent from a place on, by the status that the run ended with, for what the sink
-- told before and tells after
pub record Shipped {D : Type 0} (tells : DiskTells D) (old new : D) (sent sent' : Option (List ℕ)) (from : ℕ) (ending : Ending) : Type 0 where
  pub opened : Opened tells old new
  -- after status 0 the records from the place on were sent, and after 4 a part of them, from their front and not all of them
  pub whole : ending.status ≡ CLEAN → Appends sent sent' (shipped_from (head_of opened.charter).house from opened.entries)
  pub part : ending.status ≡ SINK_FAILED → SentPart sent sent' (shipped_from (head_of opened.charter).house from opened.entries)
  -- the status is 16 exactly where the place is above the number of entries, which is shown
  pub refused : ending.status ≡ NO_PLACE ↔ length opened.entries < from
  pub ends : (ending ≡ at_no_place CLEAN) ⊎ (ending ≡ at_no_place SINK_FAILED) ⊎ (ending ≡ record { status = NO_PLACE; place = length opened.entries }) ⊎ (ending ≡ at_no_place OUT_OF_MEMORY)

-- what it comes to
abbrev pub ShipIs : {D : Type 0} → DiskTells D → D → D → Option (List ℕ) → Option (List ℕ) → ℕ → Ending → Type 0
ShipIs tells old new sent sent' from ending = Unopened tells old new ending ⊎ Shipped tells old new sent sent' from ending

-- ---- for the contracts of private functions alone

-- how the run ends, by how shipping did
abbrev pub shipped_ending : Result (Unit {0}) ShipFault → Ending
shipped_ending (Ok u) = at_no_place CLEAN
shipped_ending (Err (why.Beyond entries)) = record { status = NO_PLACE; place = entries }
shipped_ending (Err why.WriteFault) = at_no_place SINK_FAILED
shipped_ending (Err why.NoMemory) = at_no_place OUT_OF_MEMORY

-- For the contracts of private functions alone: what recalling one item gives.
use Rattle.std.specs.Prelude.{◌≡◌, ℕ, List, Some, None, Result, Ok, Err, ⊤}
use Rattle.nb_body.specs.declared.fault.BodyFault.{BodyFault}
use Rattle.nb_body.specs.declared.fault.BodyFault.TheVariants as body
use Rattle.nb_consumer.specs.declared.restart.RecallFault.{RecallFault}
use Rattle.nb_consumer.specs.declared.restart.RecallFault.TheVariants as fault
use Rattle.nb_consumer.specs.State.{Buyer}
use Rattle.nb_consumer.specs.Restart.{behind}

-- a fault of a reading as one of recalling
abbrev pub recall_fault : BodyFault → RecallFault
recall_fault (body.Malformed place) = fault.Bad
recall_fault body.NoMemory = fault.NoMemory

-- what is known behind the bytes, or that no row keeps them; of want of memory nothing is said
abbrev pub Recalls : Buyer → Buyer → List ℕ → Result (Unit {0}) RecallFault → Type 0
Recalls old new bytes (Ok done) = behind old bytes ≡ Some new
Recalls old new bytes (Err fault.Bad) = behind old bytes ≡ None
Recalls old new bytes (Err fault.NoMemory) = ⊤

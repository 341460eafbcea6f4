-- What may be sent of a turn, and when.
use Rattle.std.specs.Prelude.{◌≡◌, ℕ, List, ◌++◌}
use Rattle.nb_port.specs.Tells.{DiskTells}
use Rattle.nb_turns.specs.Turns.{Request, Outcome, Decides, FitTurn, answered, recorded, replies}
use Rattle.nb_vault.specs.Vaults.{Chronicled, IsDurable, entries_in, house_in}

-- what a turn that went so tells stands in the house: where it decided, what its verdicts record is the last that the house has, and each image
-- that a stop may leave by now stands for the entries of the house
abbrev pub StandsTold : {D : Type 0} → DiskTells D → Chronicled D → List Request → Outcome → Type 0
StandsTold tells house requests (Decides over) = IsDurable tells house × (entries_in house ≡ over ++ recorded (house_in house) over requests)
StandsTold tells house requests other = Unit {0}

-- bytes may be sent: they are the replies of this house to the requests of a turn, from 1 to 32, and what they tell stands in it
pub record MaySend {D : Type 0} (tells : DiskTells D) (house : Chronicled D) (sent : List ℕ) : Type 0 where
  pub requests : List Request
  pub outcome : Outcome
  pub fits : FitTurn requests
  pub sent_is : sent ≡ replies (answered (house_in house) requests outcome)
  pub told : StandsTold tells house requests outcome

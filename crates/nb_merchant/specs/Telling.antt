-- For the contracts of private functions alone: what code gave, of what the table says.
use Rattle.std.specs.Prelude.{◌≡◌, ℕ, Option, Some, None, Result, Ok, Err, ⊤}
use Rattle.nb_msgs.specs.declared.node.Reason.{Reason}
use Rattle.nb_msgs.specs.declared.node.RestartFault.{RestartFault}
use Rattle.nb_msgs.specs.declared.node.RestartFault.TheVariants as fault
use Rattle.nb_msgs.specs.declared.node.Step.{Step}
use Rattle.nb_msgs.specs.declared.node.Step.TheVariants as step
use Rattle.nb_merchant.specs.Shop.{Shop}
use Rattle.nb_merchant.specs.Table.{step_of, after}
use Rattle.nb_merchant.specs.declared.answer.Answer.{Answer}
use Rattle.nb_merchant.specs.declared.answer.Planned.{Planned}
use Rattle.nb_merchant.specs.declared.answer.Halt.{Halt}
use Rattle.nb_merchant.specs.declared.answer.Halt.TheVariants as halt

-- what a row does was planned, or it was found why it does nothing. Of want of memory nothing is said
abbrev pub Plans : Result Planned Halt → Result Answer Reason → Type 0
Plans (Ok planned) row = row ≡ Ok planned.answer
Plans (Err (halt.Ignored why)) row = row ≡ Err why
Plans (Err halt.NoMemory) row = ⊤

-- the step of what was planned; want of memory is none
abbrev pub Performs : Result Planned Halt → Step → Type 0
Performs (Ok planned) s = s ≡ step_of (Ok planned.answer)
Performs (Err (halt.Ignored why)) s = s ≡ step.Ignored why
Performs (Err halt.NoMemory) s = ⊥

-- the merchant behind that
abbrev pub performed : Shop → Result Planned Halt → Shop
performed shop (Ok planned) = after shop (Ok planned.answer)
performed shop (Err why) = shop

-- an item was taken up, or may not stand where it does. Of want of memory nothing is said
abbrev pub TakesUp : Option Shop → Shop → ℕ → Result (Unit {0}) RestartFault → Type 0
TakesUp taken new number (Ok done) = taken ≡ Some new
TakesUp taken new number (Err (fault.BadItem n)) = (n ≡ number) × (taken ≡ None)
TakesUp taken new number (Err fault.NoMemory) = ⊤

-- it is who it is, and sells and offers what it did
abbrev pub IsSameMerchant : Shop → Shop → Type 0
IsSameMerchant old new = (new.stall ≡ old.stall) × (new.products ≡ old.products) × (new.offers ≡ old.offers)

-- the number of the first item that is bad was told. Of want of memory nothing is said
abbrev pub TellsBad : Result Shop ℕ → RestartFault → Type 0
TellsBad all (fault.BadItem n) = all ≡ Err n
TellsBad all fault.NoMemory = ⊤

-- all items were taken up, or that was told
abbrev pub TakesAll : Result Shop ℕ → Shop → Result (Unit {0}) RestartFault → Type 0
TakesAll all new (Ok done) = all ≡ Ok new
TakesAll all new (Err why) = TellsBad all why

-- a restart gave the merchant, or that was told
abbrev pub Restarts : Result Shop ℕ → Result Shop RestartFault → Type 0
Restarts all (Ok shop) = all ≡ Ok shop
Restarts all (Err why) = TellsBad all why

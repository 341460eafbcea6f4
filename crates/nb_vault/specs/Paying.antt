-- What becomes of an order that is payable.
use Rattle.std.specs.Prelude.{◌≡◌, ℕ, ◌<◌, List, ◌∷◌, ◌++◌, IfSome}
use Rattle.nb_port.specs.Tells.{DiskTells}
use Rattle.nb_port.specs.Faults.{Rose}
use Rattle.nb_units.specs.declared.frames.TheConstants.{ORDER_REQUEST}
use Rattle.nb_entry.specs.declared.entry.Entry.{Entry}
use Rattle.nb_escrow.specs.declared.order.Presented.{Presented}
use Rattle.nb_escrow.specs.Head.{head_of}
use Rattle.nb_escrow.specs.Payable.{IsPayable, TellsPayment, payment_of}
use Rattle.nb_escrow.specs.Verdict.{verdict}
use Rattle.nb_turns.specs.declared.limits.TheConstants.{MAX_FAULTS}
use Rattle.nb_turns.specs.Lines.{faults_of}
use Rattle.nb_turns.specs.Turns.{Request, SettlesInto, decided, recorded, replies}
use Rattle.nb_vault.specs.declared.answer.AnswerAll.{AnswerAll}
use Rattle.nb_vault.specs.Holdings.{StandsFor}
use Rattle.nb_vault.specs.Vaults.{Chronicled, entries_in, house_in, state_of, TurnOf, FaultWithin}

-- over these entries the order is paid: its payment is recorded behind them, and both receipts of the reply say so, with the key
pub record IsPaidOver {D : Type 0} (old new : Chronicled D) (before : List Request) (request : Request) (p : Presented) (out out' : List ℕ) (first over : List Entry) : Type 0 where
  pub later : List Entry
  pub recorded : entries_in new ≡ over ++ (payment_of (head_of old.origin.charter) p request.moment ∷ later)
  pub rest : List ℕ
  pub replied : out' ≡ out ++ (replies (decided (house_in old) first before) ++ (((house_in old).rules over request).reply ++ rest))
  pub told : TellsPayment p (verdict over (head_of old.origin.charter) old.origin.cap request.kind request.body request.moment).reply

-- the turn was decided over these entries, which are those from before, without what was in doubt or with it, and for which the content
-- stood; and a request of it that is an order, and is payable over these and what the requests before it record, is paid over them
pub record IsDecidedSo {D : Type 0} (tells : DiskTells D) (old new : Chronicled D) (before : List Request) (request : Request) (p : Presented) (out out' : List ℕ) : Type 0 where
  pub first : List Entry
  pub settled : SettlesInto (state_of old) first
  pub stood : IfSome (tells.content old.disk) (StandsFor old.origin.charter old.origin.cap first)
  pub paid : IsPayable (first ++ recorded (house_in old) first before) old.origin.cap request.body request.moment p
      → IsPaidOver old new before request p out out' first (first ++ recorded (house_in old) first before)

-- so it is of each order of a turn of a vault that is not worn, in which the count of the disk does not rise
abbrev pub PayableIsPaid : {D : Type 0} → DiskTells D → Type 0
PayableIsPaid {D} tells =
    (old new : Chronicled D) (by : ℕ) (before behind : List Request) (request : Request) (p : Presented) (found out out' : List ℕ) (answer : AnswerAll)
    → TurnOf tells old new by (before ++ request ∷ behind) found out out' answer → FaultWithin tells old new answer
    → faults_of old.lines < MAX_FAULTS → (Rose (tells.faults old.disk) (tells.faults new.disk) → ⊥)
    → request.kind ≡ ORDER_REQUEST → IsDecidedSo tells old new before request p out out'

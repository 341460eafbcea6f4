-- How one frame is answered: by a house, or by a standby.
use Rattle.std.specs.Prelude.{◌≡◌, ◌⊎◌, ℕ, List, ◌++◌, length, Option, None, Some}
use Rattle.std.specs.Option.{option_to_list}
use Rattle.nb_units.specs.declared.charter.Charter.{Charter}
use Rattle.nb_units.specs.Frames.{frame}
use Rattle.nb_port.specs.Clock.{Gives}
use Rattle.nb_port.specs.Faults.{Failure, Backed}
use Rattle.nb_port.specs.Tells.{DiskTells}
use Rattle.nb_turns.specs.declared.mark.Mark.{Mark}
use Rattle.nb_turns.specs.declared.mark.Mark.TheVariants.{Fault}
use Rattle.nb_turns.specs.Turns.{Request, State, Answered}
use Rattle.nb_turns.specs.Laws.{TurnOfOne, RunOfOnes}
use Rattle.nb_escrow.specs.Head.{head_of}
use Rattle.nb_vault.specs.Rules.{house_of}
use Rattle.nb_vault.specs.Sending.{MaySend}
use Rattle.nb_vault.specs.Vaults.{Chronicled, IsDurable, entries_in, state_of}
use Rattle.nb_standby.specs.declared.code.TheConstants.{TAKEN, SAME}
use Rattle.nb_standby.specs.declared.limits.TheConstants.{ACKNOWLEDGED_FRAME}
use Rattle.nb_standby.specs.Answering.{Acknowledges, AcknowledgesAll}
use Rattle.nb_standby.specs.Following.{house_key}
use Rattle.nb_standby.specs.Spelling.{acknowledged_bytes, told}
use Rattle.nb_batch.specs.declared.answering.Answerer.{Answerer}
use Rattle.nb_batch.specs.declared.answering.Answerer.TheVariants as answers

-- a frame was answered so, from one state to the next, where the charter and the cap are these: by a turn of the house, or as a standby does
abbrev pub GoesTo : Answerer → Charter → ℕ → State → Request → Mark → List ℕ → State → Type 0
GoesTo answers.House charter cap old request mark reply new = TurnOfOne (house_of (head_of charter) cap) old request mark reply new
GoesTo answers.Standby charter cap old request mark reply new = Acknowledges charter cap old request mark reply new

-- these frames were answered one at a time, and it came to these states
abbrev pub Goes : Answerer → Charter → ℕ → State → List Answered → List State → Type 0
Goes answers.House charter cap first answered states = RunOfOnes (house_of (head_of charter) cap) first answered states
Goes answers.Standby charter cap first answered states = AcknowledgesAll charter cap first answered states

-- the counts of the disk's faults between which its turn failed
abbrev pub failure_in_mark : Mark → Option Failure
failure_in_mark (Fault before after) = Some (record { before = before; after = after })
failure_in_mark other = None

-- a request was answered so: by a turn, whose fault lies between the disk's counts before it and after
pub record AnswersWith {D : Type 0} (tells : DiskTells D) (by : Answerer) (old new : Chronicled D) (request : Request) (reply : List ℕ) : Type 0 where
  pub mark : Mark
  pub turn : GoesTo by old.origin.charter old.origin.cap (state_of old) request mark reply (state_of new)
  pub backed : Backed (tells.faults old.disk) (option_to_list (failure_in_mark mark)) (tells.faults new.disk)

-- an acknowledgement tells of what stands: where it says of an entry that it is taken in, or that it stood there, each image that a stop may leave stands
-- for the entries that it counts
pub record MayAcknowledge {D : Type 0} (tells : DiskTells D) (standby : Chronicled D) (sent : List ℕ) : Type 0 where
  pub code : ℕ
  pub sent_is : sent ≡ frame (record { kind = ACKNOWLEDGED_FRAME; body = acknowledged_bytes (told (house_key standby) code (length (entries_in standby))) })
  pub durable : (code ≡ TAKEN) ⊎ (code ≡ SAME) → IsDurable tells standby

-- the bytes may be sent
abbrev pub MayBeSent : {D : Type 0} → DiskTells D → Answerer → Chronicled D → List ℕ → Type 0
MayBeSent tells answers.House house sent = MaySend tells house sent
MayBeSent tells answers.Standby house sent = MayAcknowledge tells house sent

-- a clock gave these moments
abbrev pub Gave : Option (List ℕ) → Option (List ℕ) → List ℕ → Type 0
Gave old None moments = Unit {0}
Gave None (Some given) moments = ⊥
Gave (Some before) (Some given) moments = given ≡ before ++ moments

-- a house asked the clock, which gave this moment; a standby asks none
abbrev pub AsksOnce : Answerer → Option (List ℕ) → Option (List ℕ) → ℕ → Type 0
AsksOnce answers.House old new moment = Gives old new moment
AsksOnce answers.Standby old new moment = new ≡ old

-- a house asked it for each of these
abbrev pub Asked : Answerer → Option (List ℕ) → Option (List ℕ) → List ℕ → Type 0
Asked answers.House old new moments = Gave old new moments
Asked answers.Standby old new moments = new ≡ old

-- What a standby answers to a frame of its stream: the acknowledgement, and the state that it comes to.
use Rattle.std.specs.Prelude.{◌≡◌, ◌≢◌, ◌⊎◌, ℕ, ◌==◌, List, [], ◌∷◌, length, Result, Ok, Err, if◌then◌else◌}
use Rattle.nb_units.specs.declared.charter.Charter.{Charter}
use Rattle.nb_units.specs.Frames.{frame}
use Rattle.nb_turns.specs.declared.mark.Mark.{Mark}
use Rattle.nb_turns.specs.declared.mark.Mark.TheVariants.{At, Fault, Worn}
use Rattle.nb_turns.specs.Turns.{Answered, Request, State}
use Rattle.nb_escrow.specs.Head.{head_of}
use Rattle.nb_vault.specs.declared.taking.TakeIn.{TakeIn}
use Rattle.nb_vault.specs.declared.taking.TakeIn.TheVariants as takes
use Rattle.nb_standby.specs.declared.code.TheConstants.{BAD_TAG, BAD_RECORD}
use Rattle.nb_standby.specs.declared.limits.TheConstants.{SHIPPED_FRAME, ACKNOWLEDGED_FRAME}
use Rattle.nb_standby.specs.declared.shipped.Shipped.{Shipped}
use Rattle.nb_standby.specs.Following.{code_of}
use Rattle.nb_standby.specs.Reading.{shipped_of}
use Rattle.nb_standby.specs.Spelling.{acknowledged_bytes, ship_tag, told}
use Rattle.nb_standby.specs.World.{TakesTo}

-- what is read of a frame as a record: nothing of one of another kind, which is no record then
abbrev pub body_of : ℕ → List ℕ → List ℕ
body_of kind body = if kind == SHIPPED_FRAME then body else []

-- the record that a frame spells
abbrev pub record_in : Request → Result Shipped ℕ
record_in request = shipped_of (body_of request.kind request.body)

-- the mark of an entry that came of a record so
abbrev pub mark_of : ℕ → TakeIn → Mark
mark_of place (takes.DiskFault before after) = Fault before after
mark_of place (takes.Worn faults) = Worn
mark_of place how = At place

-- by cases on what the frame spells, for the key of the house: the code that is told, and the state that is come to. What is no record, and a record of
-- another tag, change nothing
abbrev pub CameOf : List ℕ → Charter → ℕ → State → Result Shipped ℕ → Mark → ℕ → State → Type 0
CameOf key charter cap old (Err place) mark code new = (mark ≡ At 0) × (code ≡ BAD_RECORD) × (new ≡ old)
CameOf key charter cap old (Ok r) mark code new =
    ((r.tag ≢ ship_tag key r.place r.entry) × (mark ≡ At r.place) × (code ≡ BAD_TAG) × (new ≡ old))
    ⊎ ((r.tag ≡ ship_tag key r.place r.entry)
    × ((how : TakeIn) × (mark ≡ mark_of r.place how) × (code ≡ code_of how) × TakesTo charter cap old r.place r.entry how new))

-- the frame of the acknowledgement of this code and this number of entries, as a house with this key signs it
abbrev pub acknowledgement : List ℕ → ℕ → ℕ → List ℕ
acknowledgement key code entries = frame (record { kind = ACKNOWLEDGED_FRAME; body = acknowledged_bytes (told key code entries) })

-- the frame was answered by an acknowledgement, of the code and of how many entries stand then
pub record Acknowledges (charter : Charter) (cap : ℕ) (old : State) (request : Request) (mark : Mark) (reply : List ℕ) (new : State) : Type 0 where
  pub code : ℕ
  pub reply_is : reply ≡ acknowledgement (head_of charter).house code (length new.entries)
  pub came : CameOf (head_of charter).house charter cap old (record_in request) mark code new

-- these frames were answered, one after another, and the standby came to these states
abbrev pub AcknowledgesAll : Charter → ℕ → State → List Answered → List State → Type 0
AcknowledgesAll charter cap first [] [] = Unit {0}
AcknowledgesAll charter cap first (a ∷ more) (next ∷ states) =
    Acknowledges charter cap first a.request a.mark a.reply next × AcknowledgesAll charter cap next more states
AcknowledgesAll charter cap first [] (next ∷ states) = ⊥
AcknowledgesAll charter cap first (a ∷ more) [] = ⊥

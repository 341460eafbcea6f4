-- The memory forms: what each is seen as, and what a call makes of it.
use Rattle.std.specs.Prelude.{◌≡◌, ◌⊎◌, ⊤, ℕ, ◌-◌, ◌<◌, List, [], ◌∷◌, ◌++◌, Option, Some, None, length, take, drop, replicate, slice_index, slice_index_or, min, nat_lt, if◌then◌else◌}
use Rattle.nb_port.specs.Faults.{last_count}
use Rattle.nb_port.specs.Calls.{Calls, worked, failed}
use Rattle.nb_port.specs.declared.source.ReadOut.{ReadOut}
use Rattle.nb_port.specs.declared.source.ReadOut.TheVariants as reads
use Rattle.nb_port.specs.declared.sink.WriteOut.{WriteOut}
use Rattle.nb_port.specs.declared.sink.WriteOut.TheVariants as writes
use Rattle.nb_port.specs.declared.disk.DiskRead.{DiskRead}
use Rattle.nb_port.specs.declared.disk.DiskRead.TheVariants as disks
use Rattle.nb_port.specs.declared.disk.DiskOut.{DiskOut}
use Rattle.nb_port.specs.declared.disk.DiskOut.TheVariants as outs
use Rattle.nb_port.specs.declared.memory.step.DiskStep.{DiskStep}
use Rattle.nb_port.specs.declared.memory.step.DiskStep.TheVariants.{Pause, Wrote, Tore, Synced}
use Rattle.nb_port.specs.Images.{fresh, after}

-- a source: the bytes that are left, the most that one read gives, and its calls
pub record SourceState : Type 0 where
  pub left : List ℕ
  pub step : ℕ
  pub calls : Calls

-- what a read that gives n bytes, or finds the end, or fails makes of it: n is the least of what is left,
-- what one read gives and what there is room for
abbrev pub SourceReads : SourceState → SourceState → ℕ → ReadOut → Type 0
SourceReads old new room (reads.Bytes n) =
    (n ≡ min (min (length old.left) old.step) room)
    × (new ≡ record { left = drop n old.left; step = old.step; calls = worked old.calls })
SourceReads old new room reads.End = new ≡ record { left = []; step = old.step; calls = worked old.calls }
SourceReads old new room reads.Failed =
    new ≡ record { left = old.left; step = old.step; calls = failed old.calls }

-- a sink: the bytes that were sent, how many more it keeps without taking memory, and its calls
pub record SinkState : Type 0 where
  pub sent : List ℕ
  pub spare : ℕ
  pub calls : Calls

-- what a write makes of it: one that works takes the whole piece
abbrev pub SinkWrites : SinkState → SinkState → List ℕ → WriteOut → Type 0
SinkWrites old new piece (writes.Took n) =
    (n ≡ length piece) × (new.sent ≡ old.sent ++ piece) × (new.calls ≡ worked old.calls)
SinkWrites old new piece writes.Failed = (new.sent ≡ old.sent) × (new.calls ≡ failed old.calls)

-- a disk: its bytes from place 0 on when it was made, its steps since, two for each call that is recorded, how many more steps
-- it records without taking memory, and its calls
pub record DiskState : Type 0 where
  pub start : List ℕ
  pub steps : List DiskStep
  pub spare : ℕ
  pub calls : Calls

-- its bytes from place 0 on
abbrev pub content_of : DiskState → List ℕ
content_of d = (after (fresh d.start) d.steps).content

-- a call that is recorded by these two steps, and worked
abbrev pub Worked : DiskState → DiskState → DiskStep → DiskStep → Type 0
Worked old new first second =
    (new.start ≡ old.start) × (new.steps ≡ old.steps ++ first ∷ second ∷ []) × (new.calls ≡ worked old.calls)

-- a call that failed: it is recorded by these two steps, or else there was no room for them
abbrev pub FailedCall : DiskState → DiskState → DiskStep → DiskStep → Type 0 → Type 0
FailedCall old new first second no_room =
    (new.start ≡ old.start) × (new.calls ≡ failed old.calls)
    × ((new.steps ≡ old.steps ++ first ∷ second ∷ []) ⊎ ((new.steps ≡ old.steps) × no_room))

-- what a read makes of it
abbrev pub DiskReads : DiskState → DiskState → DiskRead → Type 0
DiskReads old new (disks.Got n) = Worked old new Pause Pause
DiskReads old new disks.Failed = FailedCall old new Pause Pause (old.spare < 2)

-- what a write makes of it; its record takes memory for its bytes too
abbrev pub DiskWrites : DiskState → DiskState → ℕ → List ℕ → DiskOut → Type 0
DiskWrites old new place piece outs.Done = Worked old new (Wrote place piece) Pause
DiskWrites old new place piece outs.Failed = FailedCall old new (Tore place piece) Pause ⊤

-- what a sync makes of it
abbrev pub DiskSyncs : DiskState → DiskState → DiskOut → Type 0
DiskSyncs old new outs.Done = Worked old new Pause Synced
DiskSyncs old new outs.Failed = FailedCall old new Pause Pause (old.spare < 2)

-- a clock: the moments that it was made with, and how many calls there were
pub record ClockState : Type 0 where
  pub moments : List ℕ
  pub calls : ℕ

-- the last moment, 0 where there is none
abbrev pub last_of : List ℕ → ℕ
last_of moments = slice_index moments (length moments - 1)

-- the moment that the call after n others gives
abbrev pub moment_at : List ℕ → ℕ → ℕ
moment_at moments n = slice_index_or moments n (last_of moments)

-- the moments that the first n calls give: those at hand, and then the last one again
unfoldable pub given_of : List ℕ → ℕ → List ℕ
given_of moments n = take n moments ++ replicate (n - length moments) (last_of moments)

-- they are told until the count of the calls stays
abbrev pub told_by : ClockState → Option (List ℕ)
told_by clock = if nat_lt clock.calls last_count then Some (given_of clock.moments clock.calls) else None

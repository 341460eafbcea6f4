-- A journal between its calls, and what its calls make of it, over what a disk tells.
use Rattle.std.specs.Prelude.{◌≡◌, ◌≢◌, ℕ, ◌+◌, ◌<◌, ◌≤◌, List, [], ◌∷◌, ◌++◌, length, false, true, Option, IfSome, slice_index_or, ⊤, Result, Ok, Err}
use Rattle.nb_port.specs.Tells.{DiskTells}
use Rattle.nb_port.specs.Disk.{Only, MayTear, wrote_at}
use Rattle.nb_port.specs.Faults.{Rose}
use Rattle.nb_port.specs.declared.disk.DiskOut.{DiskOut}
use Rattle.nb_port.specs.declared.disk.DiskOut.TheVariants as outs
use Rattle.nb_journal.specs.declared.journal.Journal.{Journal}
use Rattle.nb_journal.specs.declared.journal.AppendFault.{AppendFault}
use Rattle.nb_journal.specs.declared.journal.AppendFault.TheVariants as appends
use Rattle.nb_journal.specs.declared.journal.Settled.{Settled}
use Rattle.nb_journal.specs.declared.journal.Settled.TheVariants as settles
use Rattle.nb_journal.specs.declared.journal.StillStale.{StillStale}
use Rattle.nb_journal.specs.declared.reading.ByteRead.{ByteRead}
use Rattle.nb_journal.specs.declared.reading.ByteRead.TheVariants as bytes
use Rattle.nb_journal.specs.Layout.{open_gate, appended_bytes, up_to_gate, zeros_behind}
use Rattle.nb_journal.specs.Stands.{Stands, BeforeOrAfter}

-- nothing is in doubt: the content stands for the items, and a stop leaves nothing else
pub record AtRest {D : Type 0} (tells : DiskTells D)
    (front : List ℕ) (items : List (List ℕ)) (j : Journal D) : Type 0 where
  pub fresh : j.stale ≡ false
  pub place : j.gate ≡ length (up_to_gate front items)
  pub count : j.len ≡ length items
  pub bytes : IfSome (tells.content j.disk) (Stands front items)
  pub only : Only (tells.content j.disk) (tells.allowed j.disk)

-- an item is in doubt: the content, and what a stop leaves, stands for the items without it or with it
pub record InDoubt {D : Type 0} (tells : DiskTells D)
    (front : List ℕ) (items : List (List ℕ)) (item : List ℕ) (j : Journal D) : Type 0 where
  pub stale : j.stale ≡ true
  pub place : j.gate ≡ length (up_to_gate front items)
  pub next : j.next ≡ length (up_to_gate front (items ++ item ∷ []))
  pub count : j.len ≡ length items
  pub bytes : IfSome (tells.content j.disk) (BeforeOrAfter front items item)
  pub images : (c : List ℕ) → tells.allowed j.disk c → BeforeOrAfter front items item c

-- the gate's place is within the content
abbrev pub HasGate : {D : Type 0} → DiskTells D → Journal D → Type 0
HasGate tells j = IfSome (tells.content j.disk) (λ bytes. j.gate < length bytes)

-- the limits stay
abbrev pub SameLimits : {D : Type 0} → Journal D → Journal D → Type 0
SameLimits old new = (new.cap ≡ old.cap) × (new.room ≡ old.room)

-- ---- append

-- one item more may be held, and its bytes have room
abbrev pub HasRoomFor : {D : Type 0} → Journal D → List ℕ → Type 0
HasRoomFor j item = (j.len < j.cap) × (length item ≤ j.room)

-- nothing is written but an item that there was room for
abbrev pub AppendFits : {D : Type 0} → Journal D → List ℕ → Result (Unit {0}) AppendFault → Type 0
AppendFits old item (Ok done) = HasRoomFor old item
AppendFits old item (Err (appends.Full cap)) = ⊤
AppendFits old item (Err (appends.TooBig len room)) = ⊤
AppendFits old item (Err (appends.DiskFault before after)) = HasRoomFor old item

-- what is written, for the content before and after: where the disk failed bytes from the gate on up to the end of the next gate, or
-- of the zeros behind it, may have changed, and no others
abbrev pub AppendWrites : Option (List ℕ) → Option (List ℕ) → ℕ → List ℕ → Result (Unit {0}) AppendFault → Type 0
AppendWrites old new gate item (Ok done) = new ≡ wrote_at old gate (appended_bytes gate item)
AppendWrites old new gate item (Err (appends.Full cap)) = new ≡ old
AppendWrites old new gate item (Err (appends.TooBig len room)) = new ≡ old
AppendWrites old new gate item (Err (appends.DiskFault before after)) = MayTear old new gate (length item + 6 + zeros_behind gate item)

-- an item is in doubt then where the disk failed, and nowhere else
abbrev pub DoubtAfterAppend : {D : Type 0} → Journal D → Result (Unit {0}) AppendFault → Type 0
DoubtAfterAppend new (Ok done) = new.stale ≡ false
DoubtAfterAppend new (Err (appends.Full cap)) = new.stale ≡ false
DoubtAfterAppend new (Err (appends.TooBig len room)) = new.stale ≡ false
DoubtAfterAppend new (Err (appends.DiskFault before after)) = new.stale ≡ true

-- by cases on the fault, for the journal before and after
abbrev pub AppendFails : {D : Type 0} → DiskTells D → Journal D → Journal D → List ℕ → AppendFault → Type 0
AppendFails tells old new item (appends.Full cap) = (new ≡ old) × (cap ≡ old.cap) × (old.cap ≤ old.len)
AppendFails tells old new item (appends.TooBig len room) =
    (new ≡ old) × (len ≡ length item) × (room ≡ old.room) × (old.len < old.cap) × (old.room < length item)
AppendFails tells old new item (appends.DiskFault before after) =
    (before ≡ tells.faults old.disk) × (after ≡ tells.faults new.disk) × Rose before after
    × ((front : List ℕ) (items : List (List ℕ)) → AtRest tells front items old → InDoubt tells front items item new)

-- the item stands behind the others
abbrev pub AppendGives : {D : Type 0} → DiskTells D → Journal D → Journal D → List ℕ → Result (Unit {0}) AppendFault → Type 0
AppendGives tells old new item (Ok done) =
    (front : List ℕ) (items : List (List ℕ)) → AtRest tells front items old → AtRest tells front (items ++ item ∷ []) new
AppendGives tells old new item (Err fault) = AppendFails tells old new item fault

-- ---- settle

-- the byte at the gate has P, where the disk tells
abbrev pub GateIs : {D : Type 0} → DiskTells D → Journal D → (ℕ → Type 0) → Type 0
GateIs tells j P = IfSome (tells.content j.disk) (λ bytes. j.gate < length bytes → P (slice_index_or bytes j.gate 0))

-- whether an item was in doubt
abbrev pub DoubtBeforeSettle : {D : Type 0} → Journal D → Result Settled StillStale → Type 0
DoubtBeforeSettle old (Ok settles.Nothing) = old.stale ≡ false
DoubtBeforeSettle old (Ok settles.Kept) = old.stale ≡ true
DoubtBeforeSettle old (Ok settles.Dropped) = old.stale ≡ true
DoubtBeforeSettle old (Err failed) = old.stale ≡ true

-- an item is in doubt then where the disk failed, and nowhere else
abbrev pub DoubtAfterSettle : {D : Type 0} → Journal D → Result Settled StillStale → Type 0
DoubtAfterSettle new (Ok settled) = new.stale ≡ false
DoubtAfterSettle new (Err failed) = new.stale ≡ true

-- by cases on what was found out, for the journal before and after
abbrev pub SettlesAs : {D : Type 0} → DiskTells D → Journal D → Journal D → Settled → Type 0
SettlesAs tells old new settles.Nothing = new ≡ old
SettlesAs tells old new settles.Kept =
    GateIs tells old (λ byte. byte ≡ open_gate)
    × ((front : List ℕ) (items : List (List ℕ)) (item : List ℕ)
    → InDoubt tells front items item old → AtRest tells front (items ++ item ∷ []) new)
SettlesAs tells old new settles.Dropped =
    GateIs tells old (λ byte. byte ≢ open_gate)
    × ((front : List ℕ) (items : List (List ℕ)) (item : List ℕ) → InDoubt tells front items item old → AtRest tells front items new)

-- or the disk failed, and the item is in doubt as before
abbrev pub SettleGives : {D : Type 0} → DiskTells D → Journal D → Journal D → Result Settled StillStale → Type 0
SettleGives tells old new (Ok settled) = SettlesAs tells old new settled
SettleGives tells old new (Err failed) =
    (failed.before ≡ tells.faults old.disk) × (failed.after ≡ tells.faults new.disk) × Rose failed.before failed.after
    × ((front : List ℕ) (items : List (List ℕ)) (item : List ℕ) → InDoubt tells front items item old → InDoubt tells front items item new)

-- ---- for the contracts of private functions alone

-- a byte of the content, 0 past its end; a stop leaves nothing but the content then
abbrev pub ByteGives : ℕ → ℕ → Option (List ℕ) → (List ℕ → Type 0) → ℕ → ByteRead → Type 0
ByteGives before after content images place (bytes.Got byte) = IfSome content (λ image. byte ≡ slice_index_or image place 0) × Only content images
ByteGives before after content images place bytes.Failed = Rose before after

-- a write and a sync, as one call
abbrev pub PutGives : ℕ → ℕ → Option (List ℕ) → Option (List ℕ) → ℕ → List ℕ → (List ℕ → Type 0) → DiskOut → Type 0
PutGives before after old new place piece images outs.Done = (new ≡ wrote_at old place piece) × Only new images
PutGives before after old new place piece images outs.Failed = Rose before after × MayTear old new place (length piece)

-- nothing is in doubt, so many items were found and the gate behind them at the place, under these limits
pub record IsOver {D : Type 0} (d : D) (place count max_items max_bytes : ℕ) (j : Journal D) : Type 0 where
  pub disk : j.disk ≡ d
  pub gate : j.gate ≡ place
  pub len : j.len ≡ count
  pub cap : j.cap ≡ max_items
  pub room : j.room ≡ max_bytes
  pub fresh : j.stale ≡ false

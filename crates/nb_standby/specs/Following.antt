-- What comes of a record at a standby, and the code that tells it.
use Rattle.std.specs.Prelude.{◌≡◌, ◌≢◌, ◌⊎◌, ℕ, List, Result, Ok, Err}
use Rattle.nb_port.specs.Tells.{DiskTells}
use Rattle.nb_escrow.specs.Head.{head_of}
use Rattle.nb_vault.specs.declared.taking.TakeIn.{TakeIn}
use Rattle.nb_vault.specs.declared.taking.TakeIn.TheVariants as takes
use Rattle.nb_vault.specs.Taking.{TakesIn, all_in}
use Rattle.nb_vault.specs.Vaults.{Chronicled, DurableWhere, FaultWithin, SameWhere}
use Rattle.nb_standby.specs.declared.code.TheConstants.{TAKEN, SAME, OTHER, AHEAD, BAD_TAG, BAD_RECORD, ILLEGAL, DISK_FAULT, WORN}
use Rattle.nb_standby.specs.declared.limits.TheConstants.{PRIMARY}
use Rattle.nb_standby.specs.declared.shipped.Shipped.{Shipped}
use Rattle.nb_standby.specs.Spelling.{ship_tag}

-- the key of the house
abbrev pub house_key : {D : Type 0} → Chronicled D → List ℕ
house_key v = (head_of v.origin.charter).house

-- the code of a record that was spelled and signed, by what came of its entry
abbrev pub code_of : TakeIn → ℕ
code_of takes.Taken = TAKEN
code_of takes.Same = SAME
code_of takes.Other = OTHER
code_of takes.Ahead = AHEAD
code_of takes.Illegal = ILLEGAL
code_of (takes.DiskFault before after) = DISK_FAULT
code_of (takes.Worn faults) = WORN

-- the entry was taken in so at its place, and that is the code. Where it tells neither a fault nor that the vault is worn, every later stop leaves
-- the entries that stand, and nothing is in doubt. Where the disk failed its count rose in this call. A worn vault is as before
pub record IsTaken {D : Type 0} (tells : DiskTells D) (old new : Chronicled D) (r : Shipped) (code : ℕ) : Type 0 where
  pub how : TakeIn
  pub code_is : code ≡ code_of how
  pub taken : TakesIn tells old new PRIMARY r.place r.entry how
  pub durable : DurableWhere tells new (all_in how)
  pub same : SameWhere old new (all_in how)
  pub fault : FaultWithin tells old new (all_in how)

-- by cases on what the body spells: a body that is no record, and a record whose tag is another one, leave the vault as it was
abbrev pub FollowsAs : {D : Type 0} → DiskTells D → Chronicled D → Chronicled D → Result Shipped ℕ → ℕ → Type 0
FollowsAs tells old new (Err place) code = (code ≡ BAD_RECORD) × (new ≡ old)
FollowsAs tells old new (Ok r) code =
    ((r.tag ≢ ship_tag (house_key old) r.place r.entry) × (code ≡ BAD_TAG) × (new ≡ old))
    ⊎ ((r.tag ≡ ship_tag (house_key old) r.place r.entry) × IsTaken tells old new r code)

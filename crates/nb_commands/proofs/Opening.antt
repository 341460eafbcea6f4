-- Why the journal of a command was not opened, as the end of a run.
use Rattle.std.proofs.Common.{◌≡◌, ◌≢◌, ℕ, List, [], Err, refl, ap, subst, ◌∙◌, append-nil, arith}
use Rattle.nb_port.specs.Tells.{DiskTells}
use Rattle.nb_port.specs.Faults.{Rose}
use Rattle.nb_vault.specs.declared.vault.opening.VaultFault.{VaultFault}
use Rattle.nb_vault.specs.declared.vault.opening.VaultFault.TheVariants.{Unborn, Damaged, BadEntry, DiskFault, NoMemory as Starved}
use Rattle.nb_entry.specs.declared.entry.Entry.{Entry}
use Rattle.nb_turns.specs.Lines.{entries_of}
use Rattle.nb_vault.specs.Holdings.{StandsFor}
use Rattle.nb_vault.specs.Vaults.{Chronicled, entries_in}
use Rattle.nb_vault.specs.Opens.{VaultOpenFails, VaultOpensAs, WholeOpens}
use Rattle.nb_commands.specs.declared.ending.TheConstants.{OUT_OF_MEMORY, DISK_FAILED, NO_JOURNAL}
use Rattle.nb_commands.specs.Opening.{IsJournal, Opened, unopened}

-- a vault that has done nothing since it was opened has the entries that it was opened with
pub all_at_start : {D : Type 0} (v : Chronicled D) → v.lines ≡ [] → entries_in v ≡ v.origin.entries
all_at_start v none = ap (entries_of v.origin.entries) none ∙ append-nil v.origin.entries

-- a content that stands for entries is opened, unless the disk failed or memory was wanting
pub unopened_end : {D : Type 0} (tells : DiskTells D) (disk : D) (fault : VaultFault) (new : D) → WholeOpens (tells.content disk) (Err (fault, new)) → VaultOpenFails tells disk new fault → IsJournal (tells.content disk)
    → (Rose (tells.faults disk) (tells.faults new) → ⊥) → ((unopened fault).status ≢ NO_JOURNAL) × ((unopened fault).status ≢ DISK_FAILED)
unopened_end tells disk (Unborn found) new whole why j no_disk = absurd (whole j.image j.charter j.cap j.entries j.is j.stands)
unopened_end tells disk (Damaged item place) new whole why j no_disk = absurd (whole j.image j.charter j.cap j.entries j.is j.stands)
unopened_end tells disk (BadEntry item) new whole why j no_disk = absurd (whole j.image j.charter j.cap j.entries j.is j.stands)
unopened_end tells disk (DiskFault before after) new whole why j no_disk =
    let P : ℕ → ℕ → Type 0 = λ a b. Rose a b in
    absurd (no_disk (subst (λ (b : ℕ). P (tells.faults disk) b) why.1 (subst (λ (a : ℕ). P a after) why.0 why.2)))
unopened_end tells disk Starved new whole why j no_disk = (λ e. omega (arith, e), λ e. omega (arith, e))

-- a content that stands for entries is opened, unless the disk failed or memory was wanting
pub unopened_starved : {D : Type 0} (tells : DiskTells D) (disk : D) (fault : VaultFault) (new : D) → WholeOpens (tells.content disk) (Err (fault, new)) → VaultOpenFails tells disk new fault → IsJournal (tells.content disk)
    → (Rose (tells.faults disk) (tells.faults new) → ⊥) → (unopened fault).status ≡ OUT_OF_MEMORY
unopened_starved tells disk fault new whole why journal no_disk = by fault (unopened_end tells disk fault new whole why journal no_disk)
  where
    by : (f : VaultFault) → ((unopened f).status ≢ NO_JOURNAL) × ((unopened f).status ≢ DISK_FAILED) → (unopened f).status ≡ OUT_OF_MEMORY
    by (Unborn found) other = absurd (other.0 refl)
    by (Damaged item place) other = absurd (other.0 refl)
    by (BadEntry item) other = absurd (other.0 refl)
    by (DiskFault before after) other = absurd (other.1 refl)
    by Starved other = refl

-- what was opened, where the disk is handed back as the vault had it
abbrev pub opened_as : {D : Type 0} (tells : DiskTells D) (old new : D) (v : Chronicled D) → VaultOpensAs tells old v → new ≡ v.disk → Opened tells old new
opened_as tells old new v opens is = record {
  charter = v.origin.charter;
  cap = v.origin.cap;
  entries = v.origin.entries;
  stands = opens.stands;
  images = λ image allowed.
      subst (λ (H : List Entry). StandsFor v.origin.charter v.origin.cap H image) (all_at_start v opens.lines)
      (opens.durable.images image (subst (λ (d : _). tells.allowed d image) is allowed));
}

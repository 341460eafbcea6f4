-- A job over links that do not fail is done, or memory was wanting.
use Rattle.std.proofs.Common.{◌≡◌, ◌⊎◌, inl, inr, ⊎_elim, ℕ, zero, suc, List, [], ◌∷◌, Some, refl, sym, ap, subst, ◌∙◌}
use Rattle.std.specs.List.{slice_get}
use Rattle.std.proofs.lemmas.Option.{same_Some}
use Rattle.nb_units.specs.declared.charter.Charter.{Charter}
use Rattle.nb_port.specs.Tells.{DiskTells}
use Rattle.nb_port.specs.Faults.{Rose}
use Rattle.nb_entry.specs.declared.entry.Entry.{Entry}
use Rattle.nb_turns.specs.declared.line.Line.{Line}
use Rattle.nb_journal.specs.Reading.{IsUnborn, IsDamaged}
use Rattle.nb_vault.specs.declared.vault.opening.VaultFault.{VaultFault}
use Rattle.nb_vault.specs.declared.vault.opening.VaultFault.TheVariants as opens
use Rattle.nb_vault.specs.Holdings.{StandsFor}
use Rattle.nb_vault.specs.Opens.{IsBadEntry, VaultOpenFails}
use Rattle.nb_vault.proofs.Founding.{told_of}
use Rattle.nb_vault.proofs.HoldingLaws.{no_unborn, no_damage, no_bad}
use Rattle.nb_server.specs.declared.worker.How.TheVariants.{Closed, PortFault, NoMemory}
use Rattle.nb_server.specs.declared.worker.WorkerEnd.{WorkerEnd}
use Rattle.nb_server.specs.Served.{WorkerSeen}
use Rattle.nb_server.specs.Laws.{AreFaultless, AllServeWhole, ServesWhole}
use Rattle.nb_server.proofs.Resting.{complete_all}
use Rattle.nb_commands.specs.declared.ending.Ending.{Ending}
use Rattle.nb_commands.specs.declared.ending.TheConstants.{CLEAN, OUT_OF_MEMORY}
use Rattle.nb_commands.specs.Ending.{at_no_place}
use Rattle.nb_commands.specs.Opening.{unopened}
use Rattle.nb_work.specs.Work.{IsServed, StoppedAs}
use Rattle.nb_work.specs.Laws.{Completes}

-- no worker that served its links whole stopped at a port that failed
no_port : (old : WorkerSeen) (end : WorkerEnd) → ServesWhole old end → end.how ≡ PortFault → ⊥
no_port old end whole failed = ⊎_elim (λ closed. closed_port (sym closed.0 ∙ failed)) (λ starved. starved_port (sym starved ∙ failed)) whole.how
  where
    closed_port : Closed ≡ PortFault → ⊥
    closed_port e = cc

    starved_port : NoMemory ≡ PortFault → ⊥
    starved_port e = cc

no_port_of : (olds : List WorkerSeen) (ends : List WorkerEnd) → AllServeWhole olds ends → (k : ℕ) (end : WorkerEnd) → slice_get ends k ≡ Some end → end.how ≡ PortFault → ⊥
no_port_of [] [] all k end is failed = absurd cc
no_port_of [] (e ∷ ends) all k end is failed = absurd all
no_port_of (old ∷ olds) [] all k end is failed = absurd all
no_port_of (old ∷ olds) (e ∷ ends) all zero end is failed = no_port old e all.0 (ap (λ (x : WorkerEnd). x.how) (same_Some e end is) ∙ failed)
no_port_of (old ∷ olds) (e ∷ ends) all (suc k) end is failed = no_port_of olds ends all.1 k end is failed

module _ {D : Type 0} (tells : DiskTells D) (old new : D) (image : List ℕ) (charter : Charter) (cap : ℕ) (entries : List Entry) (content : tells.content old ≡ Some image) (stands : StandsFor charter cap entries image)
    (still : Rose (tells.faults old) (tells.faults new) → ⊥) where
  -- what stands for a list is opened, or there was no memory
  not_opened : (fault : VaultFault) → VaultOpenFails tells old new fault → unopened fault ≡ at_no_place OUT_OF_MEMORY
  not_opened (opens.Unborn found) fails = absurd (no_unborn charter cap entries image found stands (told_of (tells.content old) (λ (image : List ℕ). IsUnborn image found) image content fails.1))
  not_opened (opens.Damaged item place) fails = absurd (no_damage charter cap entries image item place stands (told_of (tells.content old) (λ (image : List ℕ). IsDamaged image item place) image content fails))
  not_opened (opens.BadEntry item) fails = absurd (no_bad charter cap entries image item stands (told_of (tells.content old) (λ (image : List ℕ). IsBadEntry image item) image content fails))
  not_opened (opens.DiskFault before after) fails = absurd (still (subst (λ (x : ℕ × ℕ). Rose x.0 x.1) (λ i. (fails.0 i, fails.1 i)) fails.2))
  not_opened opens.NoMemory fails = refl

  -- where all was served, all is whole
  all_whole : (before after : List WorkerSeen) (lines : List Line) (ends : List WorkerEnd) → IsServed tells old new before after lines ends → AreFaultless before after → AllServeWhole before ends
  all_whole before after lines ends is faultless =
      complete_all tells is.opened is.served before after ends is.all
      (λ rose. still (subst (λ (x : ℕ × D). Rose x.0 (tells.faults x.1)) (λ i. (is.opens.count i, sym is.disk_is i)) rose)) faultless

  ends_so : (before : List WorkerSeen) (ends : List WorkerEnd) (ending : Ending) → AllServeWhole before ends → StoppedAs ends ending → (ending ≡ at_no_place OUT_OF_MEMORY) ⊎ ((ending ≡ at_no_place CLEAN) × AllServeWhole before ends)
  ends_so before ends ending whole stopped = elim stopped [
    | inl failed ↦ absurd (no_port_of before ends whole failed.0.0 failed.0.1 failed.0.2 failed.0.3)
    | inr (inl starved) ↦ inl starved.2
    | inr (inr closed) ↦ inr (closed.1, whole)
  ]

pub completes : {D W : Type 0} (tells : DiskTells D) (sees : W → List WorkerSeen) → Completes tells sees
completes tells sees old new before after lines ends ending image charter cap entries serves content stands still faultless = elim serves [
  | inl failed ↦ inl (failed.1 ∙ not_opened tells old new image charter cap entries content stands still failed.0 failed.2)
  | inr (inl idle) ↦ inl idle.0
  | inr (inr all) ↦ ends_so tells old new image charter cap entries content stands still (sees before) ends ending (all_whole tells old new image charter cap entries content stands still (sees before) (sees after) lines ends all.0 faultless) all.1
]

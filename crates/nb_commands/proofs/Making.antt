-- A head alone, for a disk without a journal, makes one, unless something failed.
use Rattle.std.proofs.Common.{◌≡◌, ℕ, ◌+◌, ◌≤◌, List, [], ◌∷◌, ◌++◌, length, subst, Option, None, Some, IfSome, refl, ap, ◌∙◌, arith, inl, inr}
use Rattle.std.specs.Io.KnownBytes.{IsAtEnd}
use Rattle.std.proofs.lemmas.List.{length-append}
use Rattle.std.proofs.lemmas.Option.{same_Some}
use Rattle.nb_port.specs.Tells.{DiskTells}
use Rattle.nb_port.specs.Faults.{Rose}
use Rattle.nb_units.specs.Charter.{AreVersionAndRate}
use Rattle.nb_units.specs.declared.charter.Charter.{Charter}
use Rattle.nb_units.specs.declared.limits.TheConstants.{HEAD, MAX_RATE}
use Rattle.nb_port.specs.Disk.{Only, wrote_at}
use Rattle.nb_book.specs.Legal.{Legal}
use Rattle.nb_journal.specs.Layout.{AreTerms, IsMagic, front_bytes}
use Rattle.nb_journal.specs.Stands.{Stands}
use Rattle.nb_vault.specs.Holdings.{StandsFor}
use Rattle.nb_journal.specs.Making.{IsCap, NoJournal}
use Rattle.nb_journal.specs.Reading.{found_in}
use Rattle.nb_commands.specs.declared.ending.TheConstants.{CLEAN}
use Rattle.nb_commands.specs.declared.init.InitEnd.{InitEnd}
use Rattle.nb_commands.specs.declared.init.InitEnd.TheVariants.{Made, BadCap, ReadFault, BadInput, Exists, LookFault, DiskFault}
use Rattle.nb_commands.specs.Init.{charter_with, IsMade, MakesAs, ending_of, TookOther, IsHeadInput, HasNoJournal}

-- an input of a head has no other length
not_other : (left left' : Option (List ℕ)) (count : ℕ) → IsHeadInput left → TookOther left left' count → ⊥
not_other None left' count input took = absurd cc
not_other (Some bytes) None count input took = absurd took.took
not_other (Some bytes) (Some behind) count input took =
    let whole : length bytes ≡ HEAD = ap length (same_Some bytes input.0 input.2) ∙ input.1 in
    let parts : length bytes ≡ length took.taken + length behind = ap length took.took ∙ length-append took.taken behind in
    elim took.other [
      | inl few ↦ absurd (omega (arith, whole, parts, few.0, ends few.1))
      | inr many ↦ absurd (omega (arith, whole, parts, many))
    ]
  where
    ends : IsAtEnd (Some behind) → length behind ≡ 0
    ends is = ap length is

-- a disk without a journal is not spared
pub not_born : (content : Option (List ℕ)) → HasNoJournal content → IfSome content (λ image. IsMagic (found_in image)) → ⊥
not_born None none born = absurd cc
not_born (Some image) none born = none.1 (subst (λ (i : List ℕ). IsMagic (found_in i)) (same_Some image none.0 none.2) born)

pub makes_clean : {D : Type 0} (tells : DiskTells D) (rest rest' : Option (List ℕ)) (source source' : ℕ) (old new : D) (cap : ℕ) (rate : Option ℕ) (end : InitEnd) → MakesAs tells rest rest' source source' old new cap rate end
    → IsCap cap → IsHeadInput rest → HasNoJournal (tells.content old) → (Rose source source' → ⊥) → (Rose (tells.faults old) (tells.faults new) → ⊥) → (ending_of end).status ≡ CLEAN
makes_clean tells rest rest' source source' old new cap rate Made is range input none no_source no_disk = refl
makes_clean tells rest rest' source source' old new cap rate BadCap is range input none no_source no_disk = absurd (is.0 range)
makes_clean tells rest rest' source source' old new cap rate ReadFault is range input none no_source no_disk = absurd (no_source is.1)
makes_clean tells rest rest' source source' old new cap rate (BadInput bytes) is range input none no_source no_disk = absurd (not_other rest rest' bytes input is.1)
makes_clean tells rest rest' source source' old new cap rate Exists is range input none no_source no_disk = absurd (not_born (tells.content old) none is.2.born)
makes_clean tells rest rest' source source' old new cap rate LookFault is range input none no_source no_disk = absurd (no_disk is.2)
makes_clean tells rest rest' source source' old new cap rate DiskFault is range input none no_source no_disk = absurd (no_disk is.2)

-- ---- a journal that was just made

no_entries : Legal []
no_entries = record { each = λ k h d. absurd (omega (arith, h)) }

stands_for_none : (charter : Charter) (cap : ℕ) (image : List ℕ) → AreTerms cap charter → Stands (front_bytes cap charter) [] image → StandsFor charter cap [] image
stands_for_none charter cap image terms stands = record {
  items = [];
  terms = terms;
  stands = stands;
  joins = record { groups = []; spelled = refl; each = tt; joined = refl };
  legal = record { legal = no_entries; each = tt };
  within = omega arith;
}

-- what is made with a rate or without one has the head that was given, and a rate that its version may have
pub head_whole : (head : List ℕ) (rate : Option ℕ) → length head ≡ HEAD → length (charter_with head rate).head ≡ HEAD
head_whole head None whole = whole
head_whole head (Some rate) whole = whole

pub rate_ruled : (head : List ℕ) (rate : Option ℕ) → IfSome rate (λ r. r ≤ MAX_RATE) → AreVersionAndRate (charter_with head rate).version (charter_with head rate).rate
rate_ruled head None few = inl (refl, refl)
rate_ruled head (Some rate) few = inr (refl, few)

pub made_of : {D : Type 0} (tells : DiskTells D) (old new : D) (charter : Charter) (cap : ℕ) → length charter.head ≡ HEAD → AreVersionAndRate charter.version charter.rate → IsCap cap → NoJournal (tells.content old)
    → IfSome (tells.content new) (Stands (front_bytes cap charter) []) → Only (tells.content new) (tells.allowed new) → tells.content new ≡ wrote_at (tells.content old) 0 (front_bytes cap charter ++ 0 ∷ []) → IsMade tells old new charter cap
made_of tells old new charter cap whole ruled range unborn stands only bytes =
    let terms : AreTerms cap charter = record { some = range.0; most = range.1; whole = whole; ruled = ruled } in
    record {
      unborn = unborn;
      bytes = bytes;
      stands = each (tells.content new) terms stands;
      images = λ image allowed. stands_for_none charter cap image terms (subst (λ (content : Option (List ℕ)). IfSome content (Stands (front_bytes cap charter) [])) (only image allowed) stands);
    }
  where
    each : (content : Option (List ℕ)) → AreTerms cap charter → IfSome content (Stands (front_bytes cap charter) []) → IfSome content (StandsFor charter cap [])
    each None terms is = is
    each (Some image) terms is = stands_for_none charter cap image terms is

-- A reader's steps: where its cut stands, and the field that it read there.
use Rattle.std.proofs.Common.{◌≡◌, ℕ, ◌+◌, Bool, true, false, List, Result, Ok, refl, ap, sym, ◌∙◌}
use Rattle.nb_units.specs.Reading.{Reading}
use Rattle.nb_units.specs.Fields.{moved, allowed}
use Rattle.nb_units.specs.declared.cut.CutFault.{CutFault}

-- the cut stands at this place of these bytes
abbrev pub Stands : Reading → List ℕ → ℕ → Type 0
Stands cut bytes place = cut ≡ record { bytes = bytes; place = place }

pub stands : (cut : Reading) (place : ℕ) → cut.place ≡ place → Stands cut cut.bytes place
stands cut place is = ap (λ (n : ℕ). record { bytes = cut.bytes; place = n }) is

-- a cut that moved past n bytes
pub went : (n : ℕ) {old new : Reading} {bytes : List ℕ} {place : ℕ} → new ≡ moved old n → Stands old bytes place → Stands new bytes (place + n)
went n went_by stood = went_by ∙ ap (λ (r : Reading). moved r n) stood

-- the field that was read where the cut stood
pub took : {A : Type 0} (at : List ℕ → ℕ → Result A CutFault) {cut : Reading} {bytes : List ℕ} {place : ℕ} {x : A} → Stands cut bytes place
    → (let read : Result A CutFault = Ok x in read ≡ at cut.bytes cut.place) → at bytes place ≡ Ok x
took at stood is = sym (is ∙ ap (λ (r : Reading). at r.bytes r.place) stood)

-- a value that was allowed passed its test
pub passed : (test : Bool) (place : ℕ) (end : Unit {0}) → allowed test place ≡ Ok end → test ≡ true
passed true place end e = refl
passed false place end e = absurd cc

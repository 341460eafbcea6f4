-- What was read of a content is what it stands for.
use Rattle.std.proofs.Common.{◌≡◌, ◌≢◌, ℕ, Bool, true, false, List, [], ◌∷◌, ◌++◌, length, take, drop, Option, IfSome, arith, refl, sym, ap, subst, ◌∙◌, length-append}
use Rattle.std.specs.Prelude.{◌==◌, if◌then◌else◌, nat_lt}
use Rattle.std.specs.Int.{w32, from_be_bytes}
use Rattle.std.specs.List.{flat_map}
use Rattle.std.proofs.lemmas.Bool.{eqb-false}
use Rattle.std.proofs.lemmas.List.{append_assoc, take-append-drop}
use Rattle.nb_port.specs.Tells.{DiskTells}
use Rattle.nb_port.specs.Disk.{Only}
use Rattle.nb_journal.specs.Layout.{open_gate, front_bytes, AreTerms, item_bytes, up_to_gate}
use Rattle.nb_journal.specs.Stands.{Stands}
use Rattle.nb_journal.specs.Reading.{Seen, Shut, Item, Broken, first_of, behind_gate, item_of, Holds}
use Rattle.nb_journal.specs.Scanning.{AreItems, IsWholeJournal}
use Rattle.nb_journal.specs.States.{IsOver}
use Rattle.nb_journal.specs.Opening.{OpensJournal, charter_of}
use Rattle.nb_units.specs.declared.charter.Charter.{Charter}
use Rattle.nb_units.specs.Fields.{be2}
use Rattle.nb_journal.specs.declared.opening.Opened.{Opened}
use Rattle.nb_journal.proofs.Telling.{some_each}

-- neither branch of a test is a gate that is not open
neither : (b : Bool) (x y : Seen) → x ≢ Shut → y ≢ Shut → (if b then x else y) ≢ Shut
neither true x y first second = first
neither false x y first second = second

-- what is broken is no gate
broken_shut : Broken ≢ Shut
broken_shut e = cc

-- an item is no gate that is not open
item_shut : (item rest : List ℕ) → Item item rest ≢ Shut
item_shut item rest e = cc

-- behind an open gate no gate is seen that is not open
open_shut : (bytes : List ℕ) → behind_gate bytes ≢ Shut
unfolding behind_gate item_of
open_shut bytes =
    let n = from_be_bytes w32 (take 4 bytes) in
    let ys = drop 4 bytes in
    neither (nat_lt (length bytes) 4) _ _ broken_shut (neither (nat_lt 2097152 n) _ _ broken_shut (neither (nat_lt (length ys) n) _ _ broken_shut (item_shut (take n ys) (drop n ys))))

-- a gate that is not open, and what follows it
pub shut_gate : (bytes : List ℕ) → first_of bytes ≡ Shut → (gate : ℕ) × (rest : List ℕ) × (gate ≢ open_gate) × (bytes ≡ gate ∷ rest)
unfolding first_of
shut_gate [] seen = absurd (broken_shut seen)
shut_gate (gate ∷ rest) seen = (gate, rest, tested (gate == open_gate) refl, refl)
  where
    tested : (b : Bool) → (gate == open_gate) ≡ b → gate ≢ open_gate
    tested true test = absurd (open_shut rest (sym (ap (λ (c : Bool). if c then behind_gate rest else Shut) test) ∙ seen))
    tested false test = eqb-false gate open_gate test

-- a whole content stands for its items
pub whole_stands : (image : List ℕ) (cap : ℕ) (charter : Charter) (items : List (List ℕ)) (place : ℕ) → IsWholeJournal image cap charter items place → Stands (front_bytes cap charter) items image
whole_stands image cap charter items place whole =
    let behind = shut_gate (drop place image) whole.read.shut in
    let front = front_bytes cap charter in
    record {
      gate = behind.0;
      rest = behind.1;
      shut = behind.2;
      bytes =
          sym (take-append-drop 96 image)
          ∙ ap (λ (xs : List ℕ). xs ++ drop 96 image) whole.front
          ∙ ap (λ (xs : List ℕ). front ++ xs) (whole.read.bytes ∙ ap (λ (xs : List ℕ). flat_map item_bytes items ++ xs) behind.3)
          ∙ sym (append_assoc front (flat_map item_bytes items) (behind.0 ∷ behind.1));
    }

-- a front has 96 bytes
pub front_length : (cap : ℕ) (charter : Charter) → AreTerms cap charter → length (front_bytes cap charter) ≡ 96
front_length cap charter are = omega (arith, are.whole, length-append charter.head (be2 charter.rate ++ 0 ∷ 0 ∷ []))

-- the journal over what was read
pub opens : {D : Type 0} (tells : DiskTells D) (disk mid : D) (most place count : ℕ) (o : Opened D) → AreTerms o.cap (charter_of o) → AreItems o.cap o.items.items place
    → IfSome (tells.content disk) (λ image. IsWholeJournal image o.cap (charter_of o) o.items.items place) → tells.content mid ≡ tells.content disk → Only (tells.content disk) (tells.allowed mid) → count ≡ length o.items.items → IsOver mid place count o.cap most o.journal
    → OpensJournal tells disk most o
opens tells disk mid most place count o terms items whole same only counts over =
    let told : tells.content o.journal.disk ≡ tells.content disk = ap tells.content over.disk ∙ same in
    record {
      terms = terms;
      fit = items.fit;
      rest = record {
        fresh = over.fresh;
        place = over.gate ∙ gate;
        count = over.len ∙ counts;
        bytes = subst (λ (t : Option (List ℕ)). IfSome t (Stands (front_bytes o.cap (charter_of o)) o.items.items)) (sym told)
            (some_each (tells.content disk) (λ image. IsWholeJournal image o.cap (charter_of o) o.items.items place) (Stands (front_bytes o.cap (charter_of o)) o.items.items) (λ image is. whole_stands image o.cap (charter_of o) o.items.items place is) whole);
        only = λ image is. told ∙ only image (subst (λ d. tells.allowed d image) over.disk is);
      };
      cap = over.cap;
      room = over.room;
      holds = some_each (tells.content disk) (λ image. IsWholeJournal image o.cap (charter_of o) o.items.items place) (λ image. Holds image o.cap (charter_of o) o.items.items) (λ image is. record { terms = terms; front = is.front; found = is.read.found }) whole;
    }
  where
    gate : place ≡ length (up_to_gate (front_bytes o.cap (charter_of o)) o.items.items)
    gate = omega (arith, items.at, front_length o.cap (charter_of o) terms, length-append (front_bytes o.cap (charter_of o)) (flat_map item_bytes o.items.items))

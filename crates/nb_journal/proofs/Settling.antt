-- What the byte at the gate tells of an item in doubt.
use Rattle.std.proofs.Common.{◌≡◌, ◌≢◌, inl, inr, ℕ, ◌+◌, ◌<◌, false, List, [], ◌∷◌, ◌++◌, length, Option, Some, None, IfSome, get_or, arith, sym, ap, subst, ◌∙◌, length-append}
use Rattle.std.proofs.lemmas.List.{append_assoc, get_or_at}
use Rattle.nb_port.specs.Tells.{DiskTells}
use Rattle.nb_port.specs.Disk.{Only}
use Rattle.nb_units.specs.Fields.{sized}
use Rattle.nb_journal.specs.Layout.{open_gate, item_bytes, up_to_gate}
use Rattle.nb_journal.specs.Stands.{Stands, BeforeOrAfter}
use Rattle.nb_journal.specs.States.{AtRest, InDoubt}
use Rattle.nb_journal.specs.declared.journal.Journal.{Journal}
use Rattle.nb_journal.proofs.Layouts.{up_to_next}

-- without the item the gate is not open
shut_at : (front : List ℕ) (items : List (List ℕ)) (image : List ℕ) (gate : ℕ) → gate ≡ length (up_to_gate front items) → Stands front items image → get_or image gate 0 ≢ open_gate
shut_at front items image gate place stands is =
    let byte : get_or image gate 0 ≡ stands.gate = ap (λ (xs : List ℕ). get_or xs gate 0) stands.bytes ∙ get_or_at (up_to_gate front items) stands.gate stands.rest 0 gate (sym place) in
    stands.shut (sym byte ∙ is)

-- with it the gate is open
open_at : (front : List ℕ) (items : List (List ℕ)) (item image : List ℕ) (gate : ℕ) → gate ≡ length (up_to_gate front items) → Stands front (items ++ item ∷ []) image → get_or image gate 0 ≡ open_gate
unfolding item_bytes
open_at front items item image gate place stands =
    let behind : up_to_gate front (items ++ item ∷ []) ++ stands.gate ∷ stands.rest ≡ up_to_gate front items ++ open_gate ∷ (sized item ++ stands.gate ∷ stands.rest) =
    ap (λ (xs : List ℕ). xs ++ stands.gate ∷ stands.rest) (up_to_next front items item) ∙ append_assoc (up_to_gate front items) (item_bytes item) (stands.gate ∷ stands.rest) in
    ap (λ (xs : List ℕ). get_or xs gate 0) (stands.bytes ∙ behind) ∙ get_or_at (up_to_gate front items) open_gate (sized item ++ stands.gate ∷ stands.rest) 0 gate (sym place)

-- the byte is that of the content, so it tells which of the two stands there
pub with_item : (told : Option (List ℕ)) (front : List ℕ) (items : List (List ℕ)) (item : List ℕ) (gate byte : ℕ) → gate ≡ length (up_to_gate front items)
    → IfSome told (λ image. byte ≡ get_or image gate 0) → byte ≡ open_gate → IfSome told (BeforeOrAfter front items item) → IfSome told (Stands front (items ++ item ∷ []))
with_item None front items item gate byte place read is stands = tt
with_item (Some image) front items item gate byte place read is (inl before) = absurd (shut_at front items image gate place before (sym read ∙ is))
with_item (Some image) front items item gate byte place read is (inr after) = after

-- a byte that is not open
pub without_item : (told : Option (List ℕ)) (front : List ℕ) (items : List (List ℕ)) (item : List ℕ) (gate byte : ℕ) → gate ≡ length (up_to_gate front items)
    → IfSome told (λ image. byte ≡ get_or image gate 0) → byte ≢ open_gate → IfSome told (BeforeOrAfter front items item) → IfSome told (Stands front items)
without_item None front items item gate byte place read is stands = tt
without_item (Some image) front items item gate byte place read is (inl before) = before
without_item (Some image) front items item gate byte place read is (inr after) = absurd (is (read ∙ open_at front items item image gate place after))

-- what was read of the content is so of the byte there
pub gate_is : (told : Option (List ℕ)) (gate byte : ℕ) (P : ℕ → Type 0) → P byte → IfSome told (λ image. byte ≡ get_or image gate 0) → IfSome told (λ image. gate < length image → P (get_or image gate 0))
gate_is None gate byte P is read = tt
gate_is (Some image) gate byte P is read = λ within. subst P read is

module _ {D : Type 0} (tells : DiskTells D) (front : List ℕ) (items : List (List ℕ)) (item : List ℕ) where
  -- the journal behind an item that is there
  pub kept : (old new : Journal D) (byte : ℕ) → InDoubt tells front items item old → IfSome (tells.content old.disk) (λ image. byte ≡ get_or image old.gate 0) → byte ≡ open_gate
      → tells.content new.disk ≡ tells.content old.disk → Only (tells.content new.disk) (tells.allowed new.disk) → new.stale ≡ false → new.gate ≡ old.next → new.len ≡ old.len + 1 → AtRest tells front (items ++ item ∷ []) new
  kept old new byte doubt read is same only fresh gate count = record {
    fresh = fresh;
    place = gate ∙ doubt.next;
    count = omega (arith, count, doubt.count, length-append items (item ∷ []));
    bytes = subst (λ (told : Option (List ℕ)). IfSome told (Stands front (items ++ item ∷ []))) (sym same) (with_item (tells.content old.disk) front items item old.gate byte doubt.place read is doubt.bytes);
    only = only;
  }

  -- the journal behind one that is not
  pub dropped : (old new : Journal D) (byte : ℕ) → InDoubt tells front items item old → IfSome (tells.content old.disk) (λ image. byte ≡ get_or image old.gate 0) → byte ≢ open_gate
      → tells.content new.disk ≡ tells.content old.disk → Only (tells.content new.disk) (tells.allowed new.disk) → new.stale ≡ false → new.gate ≡ old.gate → new.len ≡ old.len → AtRest tells front items new
  dropped old new byte doubt read is same only fresh gate count = record {
    fresh = fresh;
    place = gate ∙ doubt.place;
    count = count ∙ doubt.count;
    bytes = subst (λ (told : Option (List ℕ)). IfSome told (Stands front items)) (sym same) (without_item (tells.content old.disk) front items item old.gate byte doubt.place read is doubt.bytes);
    only = only;
  }

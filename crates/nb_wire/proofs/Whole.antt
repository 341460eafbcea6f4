-- What was received of a whole link is what its bytes are read as.
use Rattle.std.proofs.Common.{◌≡◌, ℕ, List, [], ◌++◌, length, Option, Some, sym, ap, subst, ◌∙◌, append_assoc, append-nil, arith}
use Rattle.std.specs.List.{flat_map}
use Rattle.std.specs.Io.KnownBytes.{Consumes, IsAtEnd}
use Rattle.nb_units.specs.Frames.{Frame, frame, Bad, front_of}
use Rattle.nb_units.proofs.FrameLaws.{bad_stays}
use Rattle.nb_frame.specs.State.{Collected, waiting, unfed}
use Rattle.nb_frame.specs.Faults.{placed}
use Rattle.nb_frame.proofs.Shortness.{short_not_whole, bad_not_whole}
use Rattle.nb_wire.specs.Reads.{joined}
use Rattle.nb_wire.specs.Received.{Wire, Received}
use Rattle.nb_wire.specs.Laws.{ReceivedFirst, ReceivedAll, ReceivedUpToAFault}

-- all bytes of the link are those that were read, and what is left
bytes_are : (bytes left : List ℕ) (old last : Wire) (frames : List Frame) → old.link.left ≡ Some bytes → last.link.left ≡ Some left → old.held ≡ unfed → Received old last frames
    → bytes ≡ flat_map frame frames ++ (waiting last.held ++ left)
bytes_are bytes left old last frames tells told begun got =
    let took : bytes ≡ joined got.pieces ++ left = subst (λ (x : Option (List ℕ)). Consumes (Some bytes) x (joined got.pieces)) told (subst (λ (x : Option (List ℕ)). Consumes x last.link.left (joined got.pieces)) tells got.took) in
    let read : joined got.pieces ≡ flat_map frame frames ++ waiting last.held = sym (ap (λ (c : Collected). waiting c ++ joined got.pieces) begun) ∙ got.is in
    took ∙ ap (λ (xs : List ℕ). xs ++ left) read ∙ append_assoc (flat_map frame frames) (waiting last.held) left

taken_is : (old last : Wire) (frames : List Frame) → old.held ≡ unfed → Received old last frames → last.held.taken ≡ length (flat_map frame frames)
taken_is old last frames begun got = omega (arith, got.taken, ap (λ (c : Collected). c.taken) begun)

pub received_first : ReceivedFirst
received_first bytes left old last frames tells told begun got = (bytes_are bytes left old last frames tells told begun got, got.lawful, taken_is old last frames begun got)

pub received_all : ReceivedAll
received_all bytes left old new last frames rest tells told begun got ends =
    let none : left ≡ [] = subst IsAtEnd told ends.0 in (
      record {
        splits = record {
          bytes = bytes_are bytes left old last frames tells told begun got
              ∙ ap (λ (xs : List ℕ). flat_map frame frames ++ (waiting last.held ++ xs)) none
              ∙ ap (λ (xs : List ℕ). flat_map frame frames ++ xs) (append-nil (waiting last.held));
          lawful = got.lawful;
          ends = short_not_whole (front_of (waiting last.held)) ends.1;
        };
        ends = ends.1;
      },
      ends.2,
    )

pub received_up_to_a_fault : ReceivedUpToAFault
received_up_to_a_fault bytes left old new last frames fault tells told begun got ends =
    let front : front_of (waiting last.held ++ left) ≡ Bad ends.0 = bad_stays (waiting last.held) left ends.0 ends.1 in
    record {
      splits = record {
        bytes = bytes_are bytes left old last frames tells told begun got;
        lawful = got.lawful;
        ends = bad_not_whole ends.0 (front_of (waiting last.held ++ left)) front;
      };
      ends = (ends.0, front, ends.2 ∙ ap (λ (n : ℕ). placed n ends.0) (taken_is old last frames begun got));
    }

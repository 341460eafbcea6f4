-- Spelling and reading are the two sides of one thing.
use Rattle.std.specs.Prelude.{◌≡◌, ℕ, ◌+◌, List, [], ◌∷◌, length, replicate, codes, Ok}
use Rattle.nb_units.specs.Frames.{AreBytes}
use Rattle.nb_endorse.specs.declared.endorsement.TheConstants.{MAX_SEALED, ENDORSE_LABEL}
use Rattle.nb_endorse.specs.declared.endorsement.Endorsement.{Endorsement}
use Rattle.nb_endorse.specs.declared.receipt.TheConstants.{PAID_CODE, RECEIPT_BYTES, RECEIPT_LABEL, ABSENT, PRESENT, NO_KEY}
use Rattle.nb_endorse.specs.declared.receipt.Signed.{Signed}
use Rattle.nb_endorse.specs.Spelling.{IsEndorsement, endorsement_bytes, IsSigned, signed_bytes}
use Rattle.nb_endorse.specs.Reading.{endorsement_of, signed_of}

-- what was spelled of an endorsement is read as that endorsement
abbrev pub EndorsementReadsBack : Type 0
EndorsementReadsBack = (e : Endorsement) → IsEndorsement e → endorsement_of (endorsement_bytes e) ≡ Ok e

-- what was read as an endorsement is spelled as those bytes, and is within its limits
abbrev pub EndorsementSpellsBack : Type 0
EndorsementSpellsBack = (bytes : List ℕ) (e : Endorsement) → AreBytes bytes → endorsement_of bytes ≡ Ok e
    → IsEndorsement e × (bytes ≡ endorsement_bytes e)

-- two endorsements with one spelling are one
abbrev pub OneEndorsement : Type 0
OneEndorsement = (a b : Endorsement) → IsEndorsement a → IsEndorsement b → endorsement_bytes a ≡ endorsement_bytes b → a ≡ b

-- what was spelled of a receipt and its tag is read as these
abbrev pub ReceiptReadsBack : Type 0
ReceiptReadsBack = (s : Signed) → IsSigned s → signed_of (signed_bytes s) ≡ Ok s

-- what was read as a receipt and its tag is spelled as those bytes, and is within its limits
abbrev pub ReceiptSpellsBack : Type 0
ReceiptSpellsBack = (bytes : List ℕ) (s : Signed) → AreBytes bytes → signed_of bytes ≡ Ok s → IsSigned s × (bytes ≡ signed_bytes s)

-- two receipts with one spelling are one
abbrev pub OneReceipt : Type 0
OneReceipt = (a b : Signed) → IsSigned a → IsSigned b → signed_bytes a ≡ signed_bytes b → a ≡ b

-- a receipt and its tag have 32 bytes less than their seal
abbrev pub ReceiptIsAsLong : Type 0
ReceiptIsAsLong = (s : Signed) → IsSigned s → length (signed_bytes s) + 32 ≡ RECEIPT_BYTES

-- the limits and the labels
abbrev pub EndorsementLimitsAre : Type 0
EndorsementLimitsAre = (MAX_SEALED ≡ 420) × (RECEIPT_BYTES ≡ 167) × (ENDORSE_LABEL ≡ codes "endo") × (RECEIPT_LABEL ≡ codes "rcpt")

-- the code of a paid order, and what stands before a field and in place of one
abbrev pub CodesOfReceiptsAre : Type 0
CodesOfReceiptsAre = (PAID_CODE ≡ 0) × (ABSENT ∷ PRESENT ∷ [] ≡ 0 ∷ 1 ∷ []) × (NO_KEY ≡ replicate 32 0)

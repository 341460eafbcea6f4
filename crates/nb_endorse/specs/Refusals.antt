-- What a refusal shows, and the numbers of its codes.
use Rattle.std.specs.Prelude.{◌≡◌, ℕ, List, [], ◌∷◌, replicate}
use Rattle.nb_endorse.specs.declared.refusal.TheConstants.{SHOWN_BYTES, MALFORMED, IN_BODY, IN_ENDORSEMENT, IN_ORDER, IN_HIDDEN, NOT_ENROLLED, NOT_SEALED, OTHER_MERCHANT, WRONG_TAG, IDENTIFIER_USED, PARTY_HELD, REFERENCE_HELD, ACCOUNT_NOT_HELD, TOTAL_TOO_HIGH, JOURNAL_FULL, TOO_FEW_ENTRIES, DISK_FAULT, WORN, NO_MEMORY, NOT_SERVED}
use Rattle.nb_endorse.specs.declared.refusal.Refusal.{Refusal}

-- what is not shown
abbrev pub zeros : List ℕ
zeros = replicate SHOWN_BYTES 0

-- a refusal that shows two numbers
abbrev pub refusal : ℕ → ℕ → ℕ → Refusal
refusal code a b = record { code = code; a = a; b = b; x = zeros }

-- a refusal that shows 32 bytes
abbrev pub refusal_with : ℕ → List ℕ → Refusal
refusal_with code x = record { code = code; a = 0; b = 0; x = x }

-- the codes of refusals: of what was asked for, of a status query alone, of a turn that failed, and of a kind that is not served
abbrev pub CodesAre : Type 0
CodesAre =
    (MALFORMED ∷ NOT_ENROLLED ∷ NOT_SEALED ∷ OTHER_MERCHANT ∷ WRONG_TAG ∷ IDENTIFIER_USED ∷ [] ≡ 10 ∷ 11 ∷ 12 ∷ 13 ∷ 14 ∷ 15 ∷ [])
    × (PARTY_HELD ∷ REFERENCE_HELD ∷ ACCOUNT_NOT_HELD ∷ TOTAL_TOO_HIGH ∷ JOURNAL_FULL ∷ [] ≡ 16 ∷ 17 ∷ 18 ∷ 19 ∷ 20 ∷ [])
    × (TOO_FEW_ENTRIES ≡ 40)
    × (DISK_FAULT ∷ WORN ∷ NO_MEMORY ∷ NOT_SERVED ∷ [] ≡ 50 ∷ 51 ∷ 52 ∷ 53 ∷ [])

-- the parts of a body: the body itself, the endorsement in it, the order in that, and the hidden part in that
abbrev pub PartsAre : Type 0
PartsAre = IN_BODY ∷ IN_ENDORSEMENT ∷ IN_ORDER ∷ IN_HIDDEN ∷ [] ≡ 0 ∷ 1 ∷ 2 ∷ 3 ∷ []

-- What reading sealed bytes gives.
use Rattle.std.specs.Prelude.{◌≡◌, ℕ, List, Result, Ok, Err}
use Rattle.nb_seal.specs.Seal.{OpensAs, IsNoSeal, iv_shown}
use Rattle.nb_endorse.specs.declared.endorsement.DigestedEndorsement.{DigestedEndorsement}
use Rattle.nb_endorse.specs.declared.endorsement.Endorsement.{Endorsement}
use Rattle.nb_endorse.specs.declared.sealed.SealedFault.{SealedFault}
use Rattle.nb_endorse.specs.declared.sealed.SealedFault.TheVariants.{BadSeal, Malformed}

-- the value that is sealed there; or that it is the seal of no text, and its front; or the bad place of the text
abbrev pub ReadsSealed : {A : Type 0} → (List ℕ → Result A ℕ) → List ℕ → List ℕ → List ℕ → Result A SealedFault → Type 0
ReadsSealed reading key label bytes (Ok value) = OpensAs reading key label bytes (Ok value)
ReadsSealed reading key label bytes (Err (BadSeal iv)) = IsNoSeal key label bytes × (iv ≡ iv_shown bytes)
ReadsSealed reading key label bytes (Err (Malformed place)) = OpensAs reading key label bytes (Err place)

-- an endorsement that was read, without its digest
abbrev pub undigested : Result DigestedEndorsement SealedFault → Result Endorsement SealedFault
undigested (Ok read) = Ok read.endorsement
undigested (Err fault) = Err fault

-- What was sealed is read: a seal opens to one text.
use Rattle.std.proofs.Common.{◌≡◌, ℕ, List, Result, Ok, Err, sym, ap, ◌∙◌}
use Rattle.nb_seal.specs.Seal.{Opens}
use Rattle.nb_seal.proofs.Opening.{opens_once}
use Rattle.nb_units.proofs.Rows.{ok_is}
use Rattle.nb_endorse.specs.declared.sealed.SealedFault.{SealedFault}
use Rattle.nb_endorse.specs.declared.sealed.SealedFault.TheVariants.{BadSeal, Malformed}
use Rattle.nb_endorse.specs.Sealed.{ReadsSealed}

-- where the bytes are the seal of a text that is read as a value, that value is what reading them gives
pub sealed_found : {A : Type 0} (reading : List ℕ → Result A ℕ) (key label bytes plain : List ℕ) (value : A) (result : Result A SealedFault)
    → ReadsSealed reading key label bytes result → Opens key label bytes plain → reading plain ≡ Ok value → result ≡ Ok value
sealed_found reading key label bytes plain value (Ok other) is opens read =
    ap Ok (ok_is other value (sym is.2 ∙ ap reading (opens_once key label bytes is.0 plain is.1 opens) ∙ read))
sealed_found reading key label bytes plain value (Err (BadSeal iv)) is opens read = absurd (is.0 plain opens)
sealed_found reading key label bytes plain value (Err (Malformed place)) is opens read =
    let e = sym is.2 ∙ ap reading (opens_once key label bytes is.0 plain is.1 opens) ∙ read in
    absurd cc

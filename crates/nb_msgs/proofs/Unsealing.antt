-- What opening sealed bytes gives.
use Rattle.std.proofs.Common.{◌≡◌, ℕ, List, Ok, Err, Result, refl}
use Rattle.nb_seal.specs.Seal.{Opens, IsNoSeal}
use Rattle.nb_seal.proofs.Opening.{text_in_opens, text_in_no_seal}
use Rattle.nb_endorse.specs.declared.receipt.Signed.{Signed}
use Rattle.nb_endorse.specs.declared.sealed.SealedFault.{SealedFault}
use Rattle.nb_endorse.specs.declared.sealed.SealedFault.TheVariants as sealed
use Rattle.nb_endorse.specs.Sealed.{ReadsSealed}
use Rattle.nb_endorse.specs.Spelling.{IsSigned}
use Rattle.nb_endorse.specs.Replies.{ReceiptKeepsRules}
use Rattle.nb_msgs.specs.declared.node.Reason.{Reason}
use Rattle.nb_msgs.specs.declared.node.Reason.TheVariants as reason
use Rattle.nb_msgs.specs.Tests.{or_seal, opened}

-- the bytes open to a text that is read so
pub opened_so : {A E : Type 0} (reading : List ℕ → Result A E) (key label bytes plain : List ℕ) (r : Result A E) → Opens key label bytes plain → reading plain ≡ r
    → or_seal r ≡ opened reading key label bytes
unfolding opened
opened_so reading key label bytes plain r opens is = rw ((text_in_opens key label bytes plain).1 opens) (rw is refl)

-- they are the seal of none
pub no_text : {A E : Type 0} (reading : List ℕ → Result A E) (key label bytes : List ℕ) → IsNoSeal key label bytes
    → (let none : Result A Reason = Err reason.Seal in none ≡ opened reading key label bytes)
unfolding opened
no_text reading key label bytes bad = rw ((text_in_no_seal key label bytes).1 bad) refl

pub sealed_so : {A : Type 0} (reading : List ℕ → Result A ℕ) (key label bytes : List ℕ) (r : Result A SealedFault) → ReadsSealed reading key label bytes r
    → or_seal r ≡ opened reading key label bytes
sealed_so reading key label bytes (Ok value) is = opened_so reading key label bytes is.0 (Ok value) is.1 is.2
sealed_so reading key label bytes (Err (sealed.BadSeal iv)) is = no_text reading key label bytes is.0
sealed_so reading key label bytes (Err (sealed.Malformed place)) is = opened_so reading key label bytes is.0 (Err place) is.1 is.2

-- a receipt that was read keeps the rules of receipts
pub receipt_lawful : (s : Signed) → IsSigned s → ReceiptKeepsRules s.receipt
receipt_lawful s is = record { code = is.receipt.code; keyed = is.receipt.keyed; showing = is.receipt.showing }

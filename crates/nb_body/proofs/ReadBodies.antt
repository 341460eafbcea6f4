-- What a reader that takes memory gave.
use Rattle.std.proofs.Common.{◌≡◌, ℕ, ◌⊎◌, Ok, Err, Result, refl, sym, ap, ◌∙◌, inl, inr}
use Rattle.std.specs.Prelude.{IfOk}
use Rattle.nb_units.proofs.Rows.{ok_is}
use Rattle.nb_body.specs.declared.fault.BodyFault.{BodyFault}
use Rattle.nb_body.specs.declared.fault.BodyFault.TheVariants as fault
use Rattle.nb_body.specs.Reads.{ReadsBody}

pub if_body : {A : Type 0} (r : Result A BodyFault) (read : Result A ℕ) (P : A → Type 0) → ReadsBody r read → ((x : A) → read ≡ Ok x → P x) → IfOk r P
if_body (Ok x) read P is each = each x is
if_body (Err other) read P is each = tt

pub body_or_none : {A : Type 0} (r : Result A BodyFault) (read : Result A ℕ) (x : A) → ReadsBody r read → read ≡ Ok x → (r ≡ Ok x) ⊎ (r ≡ Err fault.NoMemory)
body_or_none (Ok y) read x is e = inl (ap Ok (ok_is y x (sym is ∙ e)))
body_or_none (Err (fault.Malformed place)) read x is e = absurd cc
body_or_none (Err fault.NoMemory) read x is e = inr refl

-- What hexadecimal digits say.
use Rattle.std.proofs.Common.{◌≡◌, ℕ, List, Some, None, Result, Ok, Err, refl, sym, ap, ◌∙◌}
use Rattle.std.specs.Prelude.{MatchResult}
use Rattle.std.specs.Result.{result_ok}
use Rattle.hex.specs.declared.error.FromHexError.{FromHexError}

-- digits were decoded into room for the bytes
pub decoded : (d : Result (List ℕ) FromHexError) (r : Result (Unit {0}) FromHexError) (out : List ℕ) → MatchResult d (λ bytes. (r ≡ Ok tt) × (out ≡ bytes)) (λ e. r ≡ Err e) → r ≡ Ok tt
    → Some out ≡ result_ok d
decoded (Ok bytes) r out is ok = ap Some is.1
decoded (Err e) r out is ok = absurd (clash (sym is ∙ ok))
  where
    clash : ◌≡◌ {A = Result (Unit {0}) FromHexError} (Err e) (Ok tt) → ⊥
    clash e = cc

-- they were not
pub not_decoded : (d : Result (List ℕ) FromHexError) (r : Result (Unit {0}) FromHexError) (fault : FromHexError) (out : List ℕ) → MatchResult d (λ bytes. (r ≡ Ok tt) × (out ≡ bytes)) (λ e. r ≡ Err e)
    → r ≡ Err fault → None ≡ result_ok d
not_decoded (Err e) r fault out is err = refl
not_decoded (Ok bytes) r fault out is err = absurd (clash (sym is.0 ∙ err))
  where
    clash : ◌≡◌ {A = Result (Unit {0}) FromHexError} (Ok tt) (Err fault) → ⊥
    clash e = cc

-- The numbers that the words of a command have.
use Rattle.std.proofs.Common.{ℕ, ◌≤◌, List, Option, None, Some, IfSome}
use Rattle.nb_units.specs.declared.limits.TheConstants.{MAX_RATE}
use Rattle.nb_words.specs.Words.{IsInit}

-- a rate in words is one that a journal may have
pub rate_small : (words : List (List ℕ)) (cap : ℕ) (rate : Option ℕ) → IsInit words cap rate → IfSome rate (λ r. r ≤ MAX_RATE)
rate_small words cap None is = tt
rate_small words cap (Some rate) is = is.4

-- The codes of the reasons for which an order is refused.
use Rattle.std.specs.Prelude.{ℕ, ◌≤◌, Bool, ◌&&◌, nat_le}
use Rattle.nb_units.specs.declared.reason.TheConstants.{FIRST_REASON, LAST_REASON}

-- an order may be refused with this code
abbrev pub IsReason : ℕ → Type 0
IsReason code = (FIRST_REASON ≤ code) × (code ≤ LAST_REASON)

-- the same as a test
abbrev pub is_reason : ℕ → Bool
is_reason code = nat_le FIRST_REASON code && nat_le code LAST_REASON

-- The frame at each place, by what is there.
use Rattle.std.proofs.Common.{◌≡◌, ℕ, ◌+◌, ◌-◌, ◌/◌, ◌<◌, ◌≤◌, refl, ap, sym, arith}
use Rattle.std.proofs.lemmas.Bool.{le-ltb, lt-ltb}
use Rattle.nb_units.specs.Frames.{frame}
use Rattle.nb_units.specs.declared.frames.TheConstants.{ENROL_REQUEST, FUND_REQUEST}
use Rattle.nb_body.specs.Spelling.{enrolment_bytes, funding_bytes}
use Rattle.nb_play.specs.Drill.{enrolment, funding, frame_at, frame_bytes, order_frame}

pub parties_at : (seed i : ℕ) → i < 16 → frame_at seed i ≡ record { kind = ENROL_REQUEST; body = enrolment_bytes (enrolment seed (i + 1)) }
parties_at seed i within = rw (lt-ltb i 16 within) refl

pub funds_at : (seed i : ℕ) → 16 ≤ i → i < 24 → frame_at seed i ≡ record { kind = FUND_REQUEST; body = funding_bytes (funding seed (i + 1 - 16)) }
funds_at seed i behind within = rw (le-ltb i 16 behind) (rw (lt-ltb i 24 within) refl)

pub funds : (seed i : ℕ) → 16 ≤ i → i < 24 → frame (record { kind = FUND_REQUEST; body = funding_bytes (funding seed (i + 1 - 16)) }) ≡ frame_bytes seed i
funds seed i behind within = ap frame (sym (funds_at seed i behind within))

pub orders : (seed i : ℕ) → 24 ≤ i → frame_at seed i ≡ order_frame seed ((i - 24) / 2)
orders seed i behind = rw (le-ltb i 16 (omega (arith, behind))) (rw (le-ltb i 24 behind) refl)

-- Where a link is behind bytes of a body that were passed over.
use Rattle.std.proofs.Common.{◌≡◌, ℕ, zero, suc, ◌+◌, ◌<◌, ◌≤◌, ◌^◌, Bool, true, false, List, [], ◌∷◌, length, drop, refl, sym, ap, ◌∙◌, arith}
use Rattle.std.specs.Prelude.{nat_lt, if◌then◌else◌}
use Rattle.std.proofs.lemmas.Bool.Decides.{nat_tests}
use Rattle.nb_port.specs.Faults.{one_more}
use Rattle.nb_net.specs.declared.place.Place.{Place}
use Rattle.nb_net.specs.Waits.{place_with, place_after, len_with, before_last}
use Rattle.nb_net.proofs.Placing.{here, in_body}

-- where some bytes come before the last one of a body, its header is there, and behind them its end is not
within : (had len n : ℕ) → suc n ≤ before_last (here had len) → (8 ≤ had) × (had + suc n < 8 + len)
within had len n before = (grind (arith, nat_tests), grind (arith, nat_tests))

-- behind one of them they are one less
one_less : (had len n : ℕ) → suc n ≤ before_last (here had len) → n ≤ before_last (here (had + 1) len)
one_less had len n before = grind (arith, nat_tests)

-- so many bytes are passed over
over : (had len n : ℕ) (bytes : List ℕ) → n ≤ length bytes → n ≤ before_last (here had len) → len < 2 ^ 32
    → place_after (here had len) bytes ≡ place_after (here (had + n) len) (drop n bytes)
over had len zero bytes there before few = ap (λ (m : ℕ). place_after (here m len) bytes) (omega arith)
over had len (suc n) [] there before few = absurd (omega arith)
over had len (suc n) (byte ∷ bytes) there before few =
    let body = within had len n before in
    ap (λ (p : Place). place_after p bytes) (in_body had len byte body.0 (omega (arith, body.1)) few)
    ∙ over (had + 1) len n bytes (omega (arith, there)) (one_less had len n before) few
    ∙ ap (λ (m : ℕ). place_after (here m len) (drop n bytes)) (omega arith)

-- a byte was heard
heard : (p : Place) (byte : ℕ) → (place_with p byte).heard ≡ true
heard p byte = either (nat_lt (one_more p.had) (8 + len_with p byte)) (one_more p.had) (len_with p byte)
  where
    either : (goes_on : Bool) (had len : ℕ) → (if goes_on then here had len else here 0 0).heard ≡ true
    either true had len = refl
    either false had len = refl

-- one byte, and then so many that come before the last one of a body
pub passed : (p : Place) (byte n : ℕ) (bytes : List ℕ) → n ≤ length bytes → n ≤ before_last (place_with p byte) → (place_with p byte).len < 2 ^ 32
    → place_after p (byte ∷ bytes) ≡ place_after (record (place_with p byte) { had = (place_with p byte).had + n }) (drop n bytes)
passed p byte n bytes there before few =
    let next : Place = place_with p byte in
    let so = heard p byte in
    ap (λ (h : Bool). place_after (record { heard = h; had = next.had; len = next.len }) bytes) so
    ∙ over next.had next.len n bytes there before few
    ∙ ap (λ (h : Bool). place_after (record { heard = h; had = next.had + n; len = next.len }) (drop n bytes)) (sym so)

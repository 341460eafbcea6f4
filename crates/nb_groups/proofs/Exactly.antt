-- Bytes are opened exactly where they are a credential.
use Rattle.std.proofs.Common.{◌≡◌, ℕ, ◌+◌, ◌<◌, zero, suc, List, [], ◌∷◌, length, drop, Option, None, Some, Result, Ok, Err, refl, ap, subst, ◌∙◌, arith}
use Rattle.std.specs.Prelude.{codes, slice_index}
use Rattle.std.specs.Int.{w32, to_le_bytes}
use Rattle.std.proofs.lemmas.Nat.{xor_of_8}
use Rattle.nb_units.specs.Frames.{AreBytes}
use Rattle.nb_units.proofs.ByteLists.{AreBytes-drop}
use Rattle.nb_seal.specs.Keystream.{stream_byte, xored}
use Rattle.nb_seal.specs.Seal.{seal_of, text_behind, text_in, Opens}
use Rattle.nb_seal.proofs.Opening.{text_in_opens, text_behind_opened, length-seal_of}
use Rattle.nb_groups.specs.declared.membership.Membership.{Membership}
use Rattle.nb_groups.specs.declared.quoting.Denial.{Denial}
use Rattle.nb_groups.specs.Spelling.{IsMembership, membership_bytes, credential_of}
use Rattle.nb_groups.specs.Reading.{membership_of, membership_in, or_malformed, read_of}
use Rattle.nb_groups.specs.Laws.{OpenedExactly}
use Rattle.nb_groups.proofs.Layouts.{spells_back, credential_opens}

-- a byte xored with one of the keystream is a byte
four_fit : (n j : ℕ) → slice_index (to_le_bytes w32 n) j < 256
four_fit n zero = omega arith
four_fit n (suc zero) = omega arith
four_fit n (suc (suc zero)) = omega arith
four_fit n (suc (suc (suc zero))) = omega arith
four_fit n (suc (suc (suc (suc j)))) = omega arith

stream_fits : (key : List ℕ) (place : ℕ) → stream_byte key place < 256
unfolding stream_byte
stream_fits key place = search (four_fit)

xored_fit : (key : List ℕ) (place : ℕ) (bytes : List ℕ) → AreBytes bytes → AreBytes (xored key place bytes)
xored_fit key place [] are i = are i
xored_fit key place (b ∷ bytes) are zero = xor_of_8 b (stream_byte key place) (are 0) (stream_fits key place)
xored_fit key place (b ∷ bytes) are (suc i) = xored_fit key (place + 1) bytes (λ k. are (suc k)) i

-- so what bytes open to are bytes
text_fits : (key bytes : List ℕ) → AreBytes bytes → AreBytes (text_behind key bytes)
unfolding text_behind
text_fits key bytes are = xored_fit _ 0 (drop 32 bytes) (AreBytes-drop 32 bytes are)

same : (a b : Membership) → ◌≡◌ {A = Result Membership Denial} (Ok a) (Ok b) → a ≡ b
same a b e = cc

never : (d : Denial) (m : Membership) → ◌≡◌ {A = Result Membership Denial} (Err d) (Ok m) → ⊥
never d m e = cc

well_formed : (r : Result Membership ℕ) (m : Membership) → or_malformed r ≡ Ok m → r ≡ Ok m
well_formed (Ok n) m e = ap (λ (x : Membership). let y : Result Membership ℕ = Ok x in y) (same n m e)
well_formed (Err place) m e = absurd (never _ m e)

opened : (key request : List ℕ) (m : Membership) → AreBytes request → (t : Option (List ℕ)) → text_in key (codes "cred") request ≡ t → read_of request t ≡ Ok m → IsMembership m × (request ≡ credential_of key m)
opened key request m are None is e = absurd (never _ m e)
opened key request m are (Some plain) is e =
    let opens : Opens key (codes "cred") request plain = (text_in_opens key (codes "cred") request plain).0 is in
    let fits : AreBytes plain = subst AreBytes (text_behind_opened key (codes "cred") request plain opens) (text_fits key request are) in
    let says = spells_back plain m fits (well_formed (membership_of plain) m e) in
    (says.0, opens ∙ ap (seal_of key (codes "cred")) says.1)

pub opened_exactly : OpenedExactly
opened_exactly key [] m are = (λ e. absurd (never _ m e), λ p. absurd (omega (arith, ap length p.1, length-seal_of key (codes "cred") (membership_bytes m))))
opened_exactly key (b ∷ request) m are = (
  λ e. opened key (b ∷ request) m are (text_in key (codes "cred") (b ∷ request)) refl e,
  λ p. ap (membership_in key) p.1 ∙ credential_opens key m p.0,
)

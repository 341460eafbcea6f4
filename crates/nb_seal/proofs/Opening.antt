-- Which text sealed bytes open to: the one behind their iv, and only where the iv is its.
use Rattle.std.proofs.Common.{◌≡◌, ℕ, ◌+◌, ◌<◌, List, ◌++◌, length, take, drop, refl, sym, ap, ◌∙◌, arith, length-append}
use Rattle.std.specs.Prelude.{◌↔◌, Some, None}
use Rattle.std.specs.Str.{bytes_eq}
use Rattle.std.proofs.lemmas.Bool.{cond-true, cond-false, false_from_ne_true}
use Rattle.std.proofs.lemmas.List.{take_at, drop_at}
use Rattle.std.proofs.lemmas.Option.{cond_some, none-some}
use Rattle.std.proofs.lemmas.Slice.Eq.{bytes_eq-Decides}
use Rattle.sha2.proofs.Facts256.{length-sha256}
use Rattle.nb_seal.specs.Hmac.{hmac_of}
use Rattle.nb_seal.specs.Keystream.{xored}
use Rattle.nb_seal.specs.Seal.{iv_of, stream_key_of, seal_of, Opens, IsNoSeal, text_behind, text_in}
use Rattle.nb_seal.proofs.Xoring.{xored-xored, length-xored}

-- a code has 32 bytes
pub length-hmac_of : (key message : List ℕ) → length (hmac_of key message) ≡ 32
unfolding hmac_of
length-hmac_of key message = length-sha256 _

-- a seal has 32 bytes more than its text
pub length-seal_of : (key label plain : List ℕ) → length (seal_of key label plain) ≡ 32 + length plain
unfolding seal_of
length-seal_of key label plain =
    let iv : List ℕ = iv_of key label plain in
    rw (length-append iv (xored (stream_key_of key iv) 0 plain), length-hmac_of key (label ++ plain), length-xored (stream_key_of key iv) 0 plain) refl

-- a seal's iv is that of its text, and what follows is the text xored
pub opened_parts : (key label iv text plain : List ℕ) → length iv ≡ 32 → Opens key label (iv ++ text) plain
    → (iv ≡ iv_of key label plain) × (text ≡ xored (stream_key_of key iv) 0 plain)
unfolding seal_of
opened_parts key label iv text plain long opens =
    let iv' : List ℕ = iv_of key label plain in
    let long' : length iv' ≡ 32 = length-hmac_of key _ in
    let same : iv ≡ iv' = sym (take_at iv text 32 long) ∙ ap (take 32) opens ∙ take_at iv' _ 32 long' in
    (same, sym (drop_at iv text 32 long) ∙ ap (drop 32) opens ∙ rw same (drop_at iv' _ 32 long'))

-- the text behind an iv
pub opened_text : (key label iv text plain : List ℕ) → length iv ≡ 32 → Opens key label (iv ++ text) plain
    → xored (stream_key_of key iv) 0 text ≡ plain
opened_text key label iv text plain long opens =
    rw (opened_parts key label iv text plain long opens).1 (xored-xored (stream_key_of key iv) 0 plain)

-- where the iv is that of the text behind it, the bytes open to that text
pub opens : (key label iv text plain : List ℕ) → plain ≡ xored (stream_key_of key iv) 0 text → iv ≡ iv_of key label plain
    → Opens key label (iv ++ text) plain
unfolding seal_of
opens key label iv text plain e same =
    let back : xored (stream_key_of key iv) 0 plain ≡ text = rw (e, xored-xored (stream_key_of key iv) 0 text) refl in
    rw (← same, back) refl

-- where it is not, they are the seal of no text
pub no_seal : (key label iv text : List ℕ) → length iv ≡ 32 → ¬ (iv ≡ iv_of key label (xored (stream_key_of key iv) 0 text))
    → IsNoSeal key label (iv ++ text)
no_seal key label iv text long wrong plain opens =
    wrong (rw (opened_text key label iv text plain long opens) (opened_parts key label iv text plain long opens).0)

-- fewer bytes than an iv has are the seal of no text
pub no_short_seal : (key label bytes : List ℕ) → length bytes < 32 → IsNoSeal key label bytes
no_short_seal key label bytes short plain opens = absurd (omega (arith, ap length opens, length-seal_of key label plain))

-- bytes open to one text
pub opens_once : (key label bytes first second : List ℕ) → Opens key label bytes first → Opens key label bytes second → first ≡ second
unfolding seal_of
opens_once key label bytes first second a b =
    let iv : List ℕ = iv_of key label first in
    let text : List ℕ = xored (stream_key_of key iv) 0 first in
    let long : length iv ≡ 32 = length-hmac_of key _ in
    sym (xored-xored (stream_key_of key iv) 0 first) ∙ opened_text key label iv text second long (sym a ∙ b)

-- the text behind the iv of a seal is the text that was sealed
pub text_behind_opened : (key label bytes plain : List ℕ) → Opens key label bytes plain → text_behind key bytes ≡ plain
unfolding seal_of text_behind
text_behind_opened key label bytes plain opens =
    let iv : List ℕ = iv_of key label plain in
    let text : List ℕ = xored (stream_key_of key iv) 0 plain in
    let long : length iv ≡ 32 = length-hmac_of key _ in
    let front : take 32 bytes ≡ iv = ap (take 32) opens ∙ take_at iv text 32 long in
    let behind : drop 32 bytes ≡ text = ap (drop 32) opens ∙ drop_at iv text 32 long in
    rw (front, behind) (xored-xored (stream_key_of key iv) 0 plain)

-- the text in the bytes is the one that they open to
pub text_in_opens : (key label bytes plain : List ℕ) → (text_in key label bytes ≡ Some plain) ↔ Opens key label bytes plain
text_in_opens key label bytes plain =
    let decides = bytes_eq-Decides bytes (seal_of key label (text_behind key bytes)) in (
      λ found.
          let parts = cond_some (bytes_eq bytes (seal_of key label (text_behind key bytes))) (text_behind key bytes) plain found in
          decides.0 parts.0 ∙ ap (seal_of key label) parts.1,
      λ opens.
          let behind = text_behind_opened key label bytes plain opens in
          let same : bytes ≡ seal_of key label (text_behind key bytes) = opens ∙ ap (seal_of key label) (sym behind) in
          cond-true (bytes_eq bytes (seal_of key label (text_behind key bytes))) (Some (text_behind key bytes)) None (decides.1 same) ∙ ap Some behind,
    )

-- there is none where they are the seal of no text, and only there
pub text_in_no_seal : (key label bytes : List ℕ) → (text_in key label bytes ≡ None) ↔ IsNoSeal key label bytes
text_in_no_seal key label bytes = (
  λ none plain opens. none-some plain (sym none ∙ (text_in_opens key label bytes plain).1 opens),
  λ bad.
      cond-false (bytes_eq bytes (seal_of key label (text_behind key bytes))) (Some (text_behind key bytes)) None
      (false_from_ne_true (bytes_eq bytes (seal_of key label (text_behind key bytes))) (λ is. bad (text_behind key bytes) ((bytes_eq-Decides bytes (seal_of key label (text_behind key bytes))).0 is))),
)

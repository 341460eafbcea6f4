-- Where a link is behind the bytes of a frame.
use Rattle.std.proofs.Common.{◌≡◌, ℕ, ◌+◌, ◌*◌, ◌%◌, ◌^◌, ◌<◌, ◌≤◌, Bool, true, List, [], ◌∷◌, ◌++◌, length, refl, ap, ◌∙◌, arith, ◌/◌, mod-lt, mod-eq_of_lt}
use Rattle.std.specs.Int.{w32, to_be_bytes}
use Rattle.std.proofs.lemmas.Bool.{lt-ltb, le-ltb}
use Rattle.std.proofs.lemmas.Nat.{from_be_bytes-to_be_bytes_4}
use Rattle.nb_port.specs.Faults.{one_more}
use Rattle.nb_units.specs.Frames.{Frame, IsFrame, frame}
use Rattle.nb_net.specs.declared.place.Place.{Place}
use Rattle.nb_net.specs.Waits.{place_at, place_with, place_after, len_with}

-- so many bytes of a frame are there
abbrev pub here : ℕ → ℕ → Place
here had len = record { heard = true; had = had; len = len }

-- a byte within a frame
on : (p : Place) (byte : ℕ) → p.had < 2 ^ 40 → p.had + 1 < 8 + len_with p byte → place_with p byte ≡ here (p.had + 1) (len_with p byte)
on p byte small within =
    let one : one_more p.had ≡ p.had + 1 = omega (arith, small) in
    ap (λ (n : ℕ). place_at n (len_with p byte)) one ∙ rw (lt-ltb (p.had + 1) (8 + len_with p byte) within) refl

-- its last one
last : (p : Place) (byte : ℕ) → p.had < 2 ^ 40 → 8 + len_with p byte ≤ p.had + 1 → place_with p byte ≡ here 0 0
last p byte small all =
    let one : one_more p.had ≡ p.had + 1 = omega (arith, small) in
    ap (λ (n : ℕ). place_at n (len_with p byte)) one ∙ rw (le-ltb (p.had + 1) (8 + len_with p byte) all) refl

-- behind the header the length stays
len_stays : (had len byte : ℕ) → 8 ≤ had → len_with (here had len) byte ≡ len
len_stays had len byte far = rw (lt-ltb 3 had (omega (arith, far)), le-ltb had 8 far) refl

-- a byte of a body before its last one is only counted
pub in_body : (had len byte : ℕ) → 8 ≤ had → had + 1 < 8 + len → len < 2 ^ 32 → place_with (here had len) byte ≡ here (had + 1) len
in_body had len byte far within few =
    let same = len_stays had len byte far in
    on (here had len) byte (omega (arith, within, few)) (omega (arith, within, same)) ∙ ap (λ (n : ℕ). here (had + 1) n) same

body_part : (bytes : List ℕ) (had len : ℕ) → 8 ≤ had → had + length bytes < 8 + len → len < 2 ^ 32 → place_after (here had len) bytes ≡ here (had + length bytes) len
body_part [] had len far within few = ap (λ (n : ℕ). here n len) (omega arith)
body_part (byte ∷ bytes) had len far within few =
    ap (λ (p : Place). place_after p bytes) (in_body had len byte far (omega (arith, within)) few)
    ∙ body_part bytes (had + 1) len (omega (arith, far)) (omega (arith, within)) few
    ∙ ap (λ (n : ℕ). here n len) (omega arith)

body_all : (byte : ℕ) (bytes : List ℕ) (had len : ℕ) → 8 ≤ had → had + (1 + length bytes) ≡ 8 + len → len < 2 ^ 32 → place_after (here had len) (byte ∷ bytes) ≡ here 0 0
body_all byte [] had len far all few =
    last (here had len) byte (omega (arith, all, few)) (omega (arith, all, len_stays had len byte far))
body_all byte (next ∷ bytes) had len far all few =
    ap (λ (p : Place). place_after p (next ∷ bytes)) (in_body had len byte far (omega (arith, all)) few)
    ∙ body_all next bytes (had + 1) len (omega (arith, far)) (omega (arith, all)) few

small : (n : ℕ) → n < 2 ^ 24 → n % (2 ^ 24) ≡ n
small n few = mod-eq_of_lt few

-- a header gives the length of its body
header : (h : Bool) (m0 m1 m2 kind a b c d : ℕ) (rest : List ℕ) → a < 256 → b < 256 → c < 256
    → place_after (record { heard = h; had = 0; len = 0 }) (m0 ∷ m1 ∷ m2 ∷ kind ∷ a ∷ b ∷ c ∷ d ∷ rest) ≡ place_after (place_at 8 (((a * 256 + b) * 256 + c) * 256 + d)) rest
header h m0 m1 m2 kind a b c d rest a' b' c' =
    let two : ℕ = a * 256 + b in
    let three : ℕ = two * 256 + c in
    let at_a : place_with (here 4 0) a ≡ here 5 a = on (here 4 0) a (omega arith) (omega arith) ∙ ap (λ (n : ℕ). here 5 n) (omega arith) in
    let len_b : len_with (here 5 a) b ≡ two = ap (λ (n : ℕ). n * 256 + b) (small a (omega (arith, a'))) in
    let at_b : place_with (here 5 a) b ≡ here 6 two = on (here 5 a) b (omega arith) (omega arith) ∙ ap (λ (n : ℕ). here 6 n) len_b in
    let len_c : len_with (here 6 two) c ≡ three = ap (λ (n : ℕ). n * 256 + c) (small two (omega (arith, a', b'))) in
    let at_c : place_with (here 6 two) c ≡ here 7 three = on (here 6 two) c (omega arith) (omega arith) ∙ ap (λ (n : ℕ). here 7 n) len_c in
    let len_d : len_with (here 7 three) d ≡ three * 256 + d = ap (λ (n : ℕ). n * 256 + d) (small three (omega (arith, a', b', c'))) in
    ap (λ (p : Place). place_after p (b ∷ c ∷ d ∷ rest)) at_a
    ∙ ap (λ (p : Place). place_after p (c ∷ d ∷ rest)) at_b
    ∙ ap (λ (p : Place). place_after p (d ∷ rest)) at_c
    ∙ ap (λ (n : ℕ). place_after (place_at 8 n) rest) len_d

-- the length of a body, from its four bytes
sized_so : (h : Bool) (kind n : ℕ) (rest : List ℕ) → n ≤ 1048576
    → place_after (record { heard = h; had = 0; len = 0 }) (78 ∷ 66 ∷ 1 ∷ kind ∷ to_be_bytes w32 n ++ rest) ≡ place_after (place_at 8 n) rest
sized_so h kind n rest few =
    header h 78 66 1 kind (n / 16777216 % 256) (n / 65536 % 256) (n / 256 % 256) (n % 256) rest (mod-lt (n / 16777216) positive) (mod-lt (n / 65536) positive) (mod-lt (n / 256) positive)
    ∙ ap (λ (m : ℕ). place_after (place_at 8 m) rest) (omega (arith, from_be_bytes-to_be_bytes_4 n (omega (arith, few))))
  where
    positive : 0 < 256
    positive = omega arith

begun : (n : ℕ) → 0 < n → place_at 8 n ≡ here 8 n
begun n some = rw (lt-ltb 8 (8 + n) (omega (arith, some))) refl

body_of : (body : List ℕ) → length body ≤ 1048576 → place_after (place_at 8 (length body)) body ≡ here 0 0
body_of [] few = refl
body_of (byte ∷ bytes) few =
    ap (λ (p : Place). place_after p (byte ∷ bytes)) (begun (length (byte ∷ bytes)) (omega arith))
    ∙ body_all byte bytes 8 (length (byte ∷ bytes)) (omega arith) (omega arith) (omega (arith, few))

pub frame_ends : (h : Bool) (f : Frame) → IsFrame f → place_after (record { heard = h; had = 0; len = 0 }) (frame f) ≡ here 0 0
frame_ends h f lawful = sized_so h f.kind (length f.body) f.body lawful.2 ∙ body_of f.body lawful.2

pub body_goes_on : (h : Bool) (kind n : ℕ) (part : List ℕ) → length part < n → n ≤ 1048576
    → place_after (record { heard = h; had = 0; len = 0 }) (78 ∷ 66 ∷ 1 ∷ kind ∷ to_be_bytes w32 n ++ part) ≡ here (8 + length part) n
body_goes_on h kind n part less few =
    sized_so h kind n part few ∙ ap (λ (p : Place). place_after p part) (begun n (omega (arith, less)))
    ∙ body_part part 8 n (omega arith) (omega (arith, less)) (omega (arith, few))

pub header_goes_on : (bytes : List ℕ) (p : Place) → p.had + length bytes < 8 → (place_after p bytes).had ≡ p.had + length bytes
header_goes_on [] p few = omega arith
header_goes_on (byte ∷ bytes) p few =
    let step = on p byte (omega (arith, few)) (omega (arith, few)) in
    ap (λ (q : Place). (place_after q bytes).had) step
    ∙ header_goes_on bytes (here (p.had + 1) (len_with p byte)) (omega (arith, few)) ∙ omega arith

-- Lists xored with the keystream: word by word, in parts, and twice.
use Rattle.std.proofs.Common.{◌≡◌, ℕ, ◌+◌, ◌*◌, ◌/◌, ◌%◌, ◌<◌, ◌≤◌, List, [], ◌∷◌, ◌++◌, length, get_or, set, take, drop, bit_xor, refl, sym, ap, ◌∙◌, zero, suc, arith, add-zero, append_assoc, append-nil, length-drop, take-append-drop}
use Rattle.std.proofs.lemmas.List.{length-take-le, drop-drop, take_all, drop_all}
use Rattle.std.proofs.lemmas.Slice.{take-put_mid, drop-put_mid}
use borrow.Rule.Slice.PartMut.{put_mid}
use Rattle.std.specs.Int.{w32, to_le_bytes}
use Rattle.std.specs.Int.Bits.{xor_assoc, xor_self, xor_zero_r}
use Rattle.rand_chacha.specs.ChaCha.{word_at, key_of}
use Rattle.nb_seal.specs.Keystream.{stream_byte, xored}

-- byte j of a word of the keystream
pub stream_byte-word : (key : List ℕ) (word j place : ℕ) → place ≡ 4 * word + j → j < 4 → stream_byte key place ≡ get_or (to_le_bytes w32 (word_at 10 (key_of key) 0 word)) j 0
unfolding stream_byte
stream_byte-word key word j place e h =
    let q : place / 4 ≡ word = omega arith in
    let r : place % 4 ≡ j = omega arith in
    rw (q, r) refl

-- a byte of a list xored in place
abbrev pub mixed : List ℕ → List ℕ → ℕ → List ℕ
mixed bytes w j = set bytes j (bit_xor (get_or bytes j 0) (get_or w j 0))

-- four bytes, each xored in place with that of a word
pub xored-word : (key : List ℕ) (word : ℕ) (bytes w : List ℕ) → length bytes ≡ 4 → w ≡ to_le_bytes w32 (word_at 10 (key_of key) 0 word)
    → mixed (mixed (mixed (mixed bytes w 0) w 1) w 2) w 3 ≡ xored key (4 * word) bytes
xored-word key word (a ∷ b ∷ c ∷ d ∷ []) w h e =
    let e0 : stream_byte key (4 * word) ≡ get_or w 0 0 = rw e (stream_byte-word key word 0 _ (omega arith) (omega arith)) in
    let e1 : stream_byte key (4 * word + 1) ≡ get_or w 1 0 = rw e (stream_byte-word key word 1 _ (omega arith) (omega arith)) in
    let e2 : stream_byte key (4 * word + 1 + 1) ≡ get_or w 2 0 = rw e (stream_byte-word key word 2 _ (omega arith) (omega arith)) in
    let e3 : stream_byte key (4 * word + 1 + 1 + 1) ≡ get_or w 3 0 = rw e (stream_byte-word key word 3 _ (omega arith) (omega arith)) in
    rw (e0, e1, e2, e3) refl
xored-word key word [] w h e = absurd (omega (arith, h))
xored-word key word (a ∷ []) w h e = absurd (omega (arith, h))
xored-word key word (a ∷ b ∷ []) w h e = absurd (omega (arith, h))
xored-word key word (a ∷ b ∷ c ∷ []) w h e = absurd (omega (arith, h))
xored-word key word (a ∷ b ∷ c ∷ d ∷ f ∷ more) w h e = absurd (omega (arith, h))

-- as many bytes as before
pub length-xored : (key : List ℕ) (place : ℕ) (bytes : List ℕ) → length (xored key place bytes) ≡ length bytes
length-xored key place [] = refl
length-xored key place (b ∷ bytes) = ap suc (length-xored key (place + 1) bytes)

-- byte i of what was xored
pub xored-at : (key : List ℕ) (place i : ℕ) (bytes : List ℕ) → i < length bytes → get_or (xored key place bytes) i 0 ≡ bit_xor (get_or bytes i 0) (stream_byte key (place + i))
xored-at key place i [] h = absurd (omega (arith, h))
xored-at key place zero (b ∷ bytes) h = rw add-zero refl
xored-at key place (suc i) (b ∷ bytes) h =
    let e : place + 1 + i ≡ place + suc i = omega arith in
    xored-at key (place + 1) i bytes (omega (arith, h)) ∙ ap (λ (n : ℕ). bit_xor (get_or bytes i 0) (stream_byte key n)) e

-- a front and what follows it
pub xored-append : (key : List ℕ) (place : ℕ) (front rest : List ℕ) → xored key place (front ++ rest) ≡ xored key place front ++ xored key (place + length front) rest
xored-append key place [] rest = rw add-zero refl
xored-append key place (b ∷ front) rest =
    let e : place + 1 + length front ≡ place + suc (length front) = omega arith in
    ap (λ (bytes : List ℕ). bit_xor b (stream_byte key place) ∷ bytes)
    (xored-append key (place + 1) front rest ∙ ap (λ (n : ℕ). xored key (place + 1) front ++ xored key n rest) e)

-- what was xored twice is as it was
pub xored-xored : (key : List ℕ) (place : ℕ) (bytes : List ℕ) → xored key place (xored key place bytes) ≡ bytes
xored-xored key place [] = refl
xored-xored key place (b ∷ bytes) =
    let same : bit_xor (bit_xor b (stream_byte key place)) (stream_byte key place) ≡ b =
    rw (xor_assoc b (stream_byte key place) (stream_byte key place), xor_self (stream_byte key place), xor_zero_r b) refl in
    rw (same, xored-xored key (place + 1) bytes) refl

-- the front of what was xored is the front xored
pub take-xored : (key : List ℕ) (place : ℕ) (front rest : List ℕ) → take (length front) (xored key place (front ++ rest)) ≡ xored key place front
take-xored key place [] rest = refl
take-xored key place (b ∷ front) rest = ap (λ (bytes : List ℕ). bit_xor b (stream_byte key place) ∷ bytes) (take-xored key (place + 1) front rest)

-- a part of the bytes and what follows it
pub xored-split : (key : List ℕ) (place n : ℕ) (bytes : List ℕ) → n ≤ length bytes → xored key place bytes ≡ xored key place (take n bytes) ++ xored key (place + n) (drop n bytes)
xored-split key place n bytes h =
    let e : length (take n bytes) ≡ n = length-take-le n bytes h in
    ap (xored key place) (sym (take-append-drop n bytes))
    ∙ xored-append key place (take n bytes) (drop n bytes)
    ∙ ap (λ (m : ℕ). xored key place (take n bytes) ++ xored key (place + m) (drop n bytes)) e

-- a part xored in its place: what is done, and what the rest becomes, stay the same
pub part_xored : (key : List ℕ) (first at k next place : ℕ) (buf part all : List ℕ)
    → next ≡ at + k → place ≡ first + at → at + k ≤ length buf
    → part ≡ xored key place (take k (drop at buf))
    → take at buf ++ xored key (first + at) (drop at buf) ≡ all
    → take next (put_mid at k buf part) ++ xored key (first + next) (drop next (put_mid at k buf part)) ≡ all
part_xored key first at k next place buf part all e p h done all_is =
    let fits : k ≤ length (drop at buf) = omega (arith, length-drop at buf) in
    let long : length part ≡ k = ap length done ∙ length-xored key place (take k (drop at buf)) ∙ length-take-le k (drop at buf) fits in
    let far : place + k ≡ first + (at + k) = omega arith in
    let front : take (at + k) (put_mid at k buf part) ≡ take at buf ++ part = take-put_mid at k buf part (at + k) (omega arith) (omega arith) in
    let back : drop (at + k) (put_mid at k buf part) ≡ drop (at + k) buf = drop-put_mid at k buf part (at + k) (omega arith) (omega arith) long in
    let joined : part ++ xored key (first + (at + k)) (drop (at + k) buf) ≡ xored key (first + at) (drop at buf) =
    rw (done, ← far, ← drop-drop k at buf, ← p) (sym (xored-split key place k (drop at buf) fits)) in
    rw (e, front, back, append_assoc) (ap (λ (l : List ℕ). take at buf ++ l) joined ∙ all_is)

-- the last part xored in its place: all are done
pub rest_xored : (key : List ℕ) (first at k place : ℕ) (buf part all : List ℕ)
    → at + k ≡ length buf → place ≡ first + at
    → part ≡ xored key place (take k (drop at buf))
    → take at buf ++ xored key (first + at) (drop at buf) ≡ all
    → put_mid at k buf part ≡ all
rest_xored key first at k place buf part all h p done all_is =
    let long : length (drop at buf) ≤ k = omega (arith, length-drop at buf) in
    rw (done, take_all k (drop at buf) long, drop_all k (drop at buf) long, append-nil, p) all_is

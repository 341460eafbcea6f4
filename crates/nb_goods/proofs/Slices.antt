-- Slices of lists, and of what was xored with a keystream.
use Rattle.std.proofs.Common.{◌≡◌, ℕ, ◌+◌, ◌-◌, ◌*◌, ◌≤◌, ◌<◌, min, List, [], ◌∷◌, ◌++◌, length, take, drop, get_or, replicate, bit_xor, refl, sym, ap, ◌∙◌, zero, suc, arith, add-zero, append-nil, append_assoc, length-drop, take-append-drop}
use Rattle.std.proofs.lemmas.Grind.{common_steps, flat_map-append}
use Rattle.std.proofs.lemmas.List.{length-take, length-take-le, take_all, take_more, take-append-le, drop-append-le}
use borrow.Rule.Slice.PartMut.{put_mid}
use Rattle.std.proofs.Math.Nat.{suc-mul}
use Rattle.std.proofs.Math.Seq.{take-add, take-append-add, drop-append-add}
use Rattle.nb_seal.specs.Keystream.{stream_byte, xored}
use Rattle.nb_seal.specs.Seal.{iv_shown}
use Rattle.nb_seal.proofs.Xoring.{xored-append}
use Rattle.nb_goods.specs.Goods.{piece_at, first_pieces, part_at, joined, first_parts, count_of}

-- what is left of a list that was xored is what is left of the list, xored from there on
pub drop-xored : (key : List ℕ) (place n : ℕ) (bytes : List ℕ) → drop n (xored key place bytes) ≡ xored key (place + n) (drop n bytes)
drop-xored key place zero bytes = rw add-zero refl
drop-xored key place (suc n) [] = refl
drop-xored key place (suc n) (b ∷ bytes) =
    let e : place + 1 + n ≡ place + suc n = omega arith in
    drop-xored key (place + 1) n bytes ∙ ap (λ (m : ℕ). xored key m (drop n bytes)) e

-- the front of a list that was xored is its front, xored
pub take-xored_front : (key : List ℕ) (place n : ℕ) (bytes : List ℕ) → take n (xored key place bytes) ≡ xored key place (take n bytes)
take-xored_front key place zero bytes = refl
take-xored_front key place (suc n) [] = refl
take-xored_front key place (suc n) (b ∷ bytes) =
    ap (λ (rest : List ℕ). bit_xor b (stream_byte key place) ∷ rest) (take-xored_front key (place + 1) n bytes)

-- the same, from the keystream's first byte on
pub drop-xored_first : (key : List ℕ) (n : ℕ) (bytes : List ℕ) → drop n (xored key 0 bytes) ≡ xored key n (drop n bytes)
drop-xored_first key n bytes =
    let e : 0 + n ≡ n = omega arith in
    drop-xored key 0 n bytes ∙ ap (λ (m : ℕ). xored key m (drop n bytes)) e

-- two lists xored from a place on, behind what was there
pub more_xored : (key before front rest : List ℕ) (from at : ℕ) → at ≡ from + length front
    → (before ++ xored key from front) ++ xored key at rest ≡ before ++ xored key from (front ++ rest)
more_xored key before front rest from at h =
    append_assoc before (xored key from front) (xored key at rest)
    ∙ ap (λ (bytes : List ℕ). before ++ bytes) (ap (λ (m : ℕ). xored key from front ++ xored key m rest) h ∙ sym (xored-append key from front rest))

-- so many bytes as are there, at most n
pub take-least : (n m : ℕ) (bytes : List ℕ) → m ≡ min (length bytes) n → take m bytes ≡ take n bytes
take-least n m bytes e = grind (arith, common_steps)

-- what is left of two lists, one behind the other
pub drop-behind : (front rest : List ℕ) (place : ℕ) → drop place (front ++ rest) ≡ drop (min place (length front)) front ++ drop (place - length front) rest
drop-behind front rest place = grind (arith, common_steps, drop-append-add front rest (place - length front), drop-append-le place front rest)

-- a slice of a front and a text xored behind it: what is left of the front, and the slice of the text, xored in its place
pub slice_of : (key front text lead left piece : List ℕ) (size place cut from n : ℕ)
    → cut ≡ min place (length front) → lead ≡ drop cut front → from ≡ place - length front → left ≡ drop from text
    → n ≡ min (length left) (size - length lead) → piece ≡ take n left → length lead ≤ size
    → lead ++ xored key from piece ≡ take size (drop place (front ++ xored key 0 text))
slice_of key front text lead left piece size place cut from n cut_is lead_is from_is left_is n_is piece_is h =
    let behind : drop place (front ++ xored key 0 text) ≡ lead ++ drop from (xored key 0 text) =
    drop-behind front (xored key 0 text) place ∙ rw (lead_is, cut_is, from_is) refl in
    let size_is : size ≡ length lead + (size - length lead) = omega (arith, h) in
    let rest : take (size - length lead) (drop from (xored key 0 text)) ≡ xored key from piece =
    ap (take (size - length lead)) (drop-xored_first key from text)
    ∙ take-xored_front key from (size - length lead) (drop from text)
    ∙ ap (xored key from) (ap (take (size - length lead)) (sym left_is) ∙ sym (take-least (size - length lead) n left n_is) ∙ sym piece_is) in
    sym (
    ap (take size) behind
    ∙ ap (λ (m : ℕ). take m (lead ++ drop from (xored key 0 text))) size_is
    ∙ take-append-add lead (drop from (xored key 0 text)) (size - length lead)
    ∙ ap (λ (bytes : List ℕ). lead ++ bytes) rest
    )

-- one piece more of a text, xored behind the pieces before it
pub piece_xored : (key before text left piece : List ℕ) (from at place next n : ℕ)
    → at ≤ length text → place ≡ from + at → left ≡ drop at text → piece ≡ take n left → next ≡ at + n
    → (before ++ xored key from (take at text)) ++ xored key place piece ≡ before ++ xored key from (take next text)
piece_xored key before text left piece from at place next n h place_is left_is piece_is next_is =
    more_xored key before (take at text) piece from place (place_is ∙ ap (λ (m : ℕ). from + m) (sym (length-take-le at text h)))
    ∙ ap (λ (bytes : List ℕ). before ++ xored key from bytes) (sym (ap (λ (m : ℕ). take m text) next_is ∙ take-add at n text ∙ rw (piece_is, left_is) refl))

-- the last piece of it
pub rest_xored_behind : (key before text rest : List ℕ) (from at place : ℕ) → at ≤ length text → place ≡ from + at → rest ≡ drop at text
    → (before ++ xored key from (take at text)) ++ xored key place rest ≡ before ++ xored key from text
rest_xored_behind key before text rest from at place h place_is rest_is =
    more_xored key before (take at text) rest from place (place_is ∙ ap (λ (m : ℕ). from + m) (sym (length-take-le at text h)))
    ∙ ap (λ (bytes : List ℕ). before ++ xored key from bytes) (ap (λ (bytes : List ℕ). take at text ++ bytes) rest_is ∙ take-append-drop at text)

-- the first pieces joined are the front of the list
pub first_pieces_join : (size : ℕ) (bytes : List ℕ) (n : ℕ) → joined (first_pieces size bytes n) ≡ take (n * size) bytes
first_pieces_join size bytes zero =
    let none : 0 * size ≡ 0 = omega arith in
    sym (ap (λ (m : ℕ). take m bytes) none)
first_pieces_join size bytes (suc n) =
    let next : suc n * size ≡ n * size + size = suc-mul n size in
    flat_map-append (λ (part : List ℕ). part) (first_pieces size bytes n) (piece_at size bytes (n * size) ∷ [])
    ∙ rw (first_pieces_join size bytes n, append-nil (piece_at size bytes (n * size))) refl
    ∙ sym (take-add (n * size) size bytes)
    ∙ ap (λ (m : ℕ). take m bytes) (sym next)

-- all parts are the list
pub all_parts_join : (bytes : List ℕ) → joined (first_parts bytes (count_of bytes)) ≡ bytes
all_parts_join bytes =
    let enough : length bytes ≤ count_of bytes * 1000000 = omega arith in
    first_pieces_join 1000000 bytes (count_of bytes) ∙ take_all (count_of bytes * 1000000) bytes enough

-- how long a piece is
length-piece_at : (size : ℕ) (bytes : List ℕ) (place : ℕ) → length (piece_at size bytes place) ≡ min size (length bytes - place)
length-piece_at size bytes place = rw (length-take size (drop place bytes), length-drop place bytes) refl

-- how long a part is
pub length-part_at : (bytes : List ℕ) (place : ℕ) → length (part_at bytes place) ≡ min 1000000 (length bytes - place)
length-part_at bytes place = length-piece_at 1000000 bytes place

-- the first 32 bytes, and what follows them
pub iv_and_text : (bytes iv text : List ℕ) → 32 ≤ length bytes → iv ≡ iv_shown bytes → text ≡ drop 32 bytes → iv ++ text ≡ bytes
iv_and_text bytes iv text h iv_is text_is =
    ap (λ (front : List ℕ). front ++ text) (iv_is ∙ take-append-le 32 bytes (replicate 32 0) h)
    ∙ ap (λ (rest : List ℕ). take 32 bytes ++ rest) text_is
    ∙ take-append-drop 32 bytes

-- the front of two lists, one behind the other, and what follows it
pub front_behind : (n : ℕ) (before bytes : List ℕ) → take n (before ++ bytes) ≡ take n before ++ take (n - length before) bytes
front_behind n before bytes = grind (arith, common_steps, take-append-add before bytes (n - length before), take-append-le n before bytes)

-- the first bytes and what follows them, with bytes more behind them
pub divided_behind : (n m : ℕ) (before bytes front text : List ℕ) → front ≡ take n before → text ≡ drop n before → m ≡ min (length bytes) (n - length front)
    → (front ++ take m bytes ≡ take n (before ++ bytes)) × (text ++ drop m bytes ≡ drop n (before ++ bytes))
divided_behind n m before bytes front text front_is text_is m_is = (near, far)
  where
    long : length front ≡ min (length before) n
    long = grind (arith, common_steps)

    near : front ++ take m bytes ≡ take n (before ++ bytes)
    near = grind (arith, common_steps, front_behind n before bytes)

    far : text ++ drop m bytes ≡ drop n (before ++ bytes)
    far = grind (arith, common_steps, drop-behind before bytes n)

-- one part more, joined
pub part_more : (parts : List (List ℕ)) (i : ℕ) (part : List ℕ) → i < length parts → part ≡ get_or parts i part → joined (take (i + 1) parts) ≡ joined (take i parts) ++ part
part_more parts i part within is =
    ap joined (take_more parts i part within)
    ∙ flat_map-append (λ (bytes : List ℕ). bytes) (take i parts) (get_or parts i part ∷ [])
    ∙ ap (λ (bytes : List ℕ). joined (take i parts) ++ bytes) (append-nil (get_or parts i part) ∙ sym is)

-- a front is no longer than its limit
pub front_short : (n : ℕ) (bytes front : List ℕ) → front ≡ take n bytes → length front ≤ n
front_short n bytes front is = omega (arith, ap length is ∙ length-take n bytes)

-- what follows a front is no longer than the bytes
pub rest_short : (n : ℕ) (bytes rest : List ℕ) → rest ≡ drop n bytes → length rest ≤ length bytes
rest_short n bytes rest is = omega (arith, ap length is ∙ length-drop n bytes)

-- a front of fewer bytes than its limit is all bytes
pub front_all : (n : ℕ) (bytes front : List ℕ) → front ≡ take n bytes → length front < n → front ≡ bytes
front_all n bytes front is short =
    let few : length bytes ≤ n = omega (arith, ap length is ∙ length-take n bytes, short) in
    is ∙ take_all n bytes few

-- of a whole front there is enough
pub front_whole : (n : ℕ) (bytes front : List ℕ) → front ≡ take n bytes → n ≤ length front → n ≤ length bytes
front_whole n bytes front is long = omega (arith, ap length is ∙ length-take n bytes, long)

-- the iv is shown by the front as by the bytes
pub front_shows : (bytes front : List ℕ) → front ≡ take 32 bytes → iv_shown front ≡ iv_shown bytes
front_shows bytes front is = front_shown 32 bytes front is
  where
    front_shown : (n : ℕ) (bytes front : List ℕ) → front ≡ take n bytes → take n (front ++ replicate n 0) ≡ take n (bytes ++ replicate n 0)
    front_shown n bytes front is = grind (arith, common_steps, front_behind n bytes (replicate n 0), front_behind n front (replicate n 0), length-take n bytes)

-- a vector that was written over whole
pub written_all : (len : ℕ) (new items : List ℕ) → len ≡ length items → length new ≡ length items → take len (new ++ drop (length new) items) ≡ new
written_all len new items e f = grind (arith, common_steps)

-- a text that was put behind a front, and xored with it, is there xored from that place on
pub behind_xored : (key room put buf : List ℕ) (before from at : ℕ) → before + length put ≡ length room → at ≡ from + before
    → buf ≡ xored key from (put_mid before (length room - before) room put) → take (length buf - before) (drop before buf) ≡ xored key at put
behind_xored key room put buf before from at long at_is buf_is =
    let behind : drop before (take before room ++ (put ++ drop (length room - before) (drop before room))) ≡ put = grind (arith, common_steps) in
    take_all (length buf - before) (drop before buf) (omega (arith, length-drop before buf))
    ∙ ap (drop before) buf_is
    ∙ drop-xored key from before _
    ∙ ap (xored key (from + before)) behind
    ∙ ap (λ (m : ℕ). xored key m put) (sym at_is)

-- What sealed goods open to.
use Rattle.std.proofs.Common.{◌≡◌, ℕ, ◌+◌, Bool, true, false, List, ◌++◌, length, take, drop, min, ◌-◌, ◌≤◌, refl, sym, ap, subst, ◌∙◌, inl, inr, take-append-drop}
use Rattle.std.specs.Prelude.{◌≢◌, ◌↔◌, ◌⊎◌, codes, Result, Ok, Err}
use Rattle.std.specs.Str.{bytes_eq}
use Rattle.std.proofs.lemmas.Bool.{false≢true}
use Rattle.std.proofs.lemmas.Slice.Eq.{bytes_eq-Decides}
use Rattle.sha2.specs.Sha256.{sha256}
use Rattle.nb_seal.specs.Hmac.{hmac_of}
use Rattle.nb_seal.specs.Keystream.{xored}
use Rattle.nb_seal.specs.Seal.{seal_of, iv_of, stream_key_of}
use Rattle.nb_seal.proofs.Opening.{opens, no_seal, opens_once, length-seal_of}
use Rattle.nb_goods.specs.declared.goods.OpenGoods.{OpenGoods}
use Rattle.nb_goods.specs.declared.goods.OpenGoods.TheVariants.{BadSeal, NoMemory}
use Rattle.nb_goods.specs.Goods.{OpensTo, OpensToNothing, sealed_goods, piece_at, part_at, count_of}
use Rattle.nb_goods.specs.Opening.{Opening}
use Rattle.nb_goods.specs.Collision.{Collision}
use Rattle.nb_goods.specs.Divided.{Divided}
use Rattle.nb_goods.specs.Parts.{parts_of}
use Rattle.nb_goods.proofs.Slices.{length-part_at, slice_of}

-- the iv and the goods, ciphered
pub layout : (key goods iv : List ℕ) → iv ≡ hmac_of key (codes "good" ++ goods)
    → sealed_goods key goods ≡ iv ++ xored (hmac_of key (codes "enc" ++ iv)) 0 goods
unfolding seal_of
layout key goods iv e = rw e refl

-- bytes are their iv and what follows it
halves : (bytes iv text : List ℕ) → iv ≡ take 32 bytes → text ≡ drop 32 bytes → iv ++ text ≡ bytes
halves bytes iv text iv_is text_is = rw (iv_is, text_is) (take-append-drop 32 bytes)

-- bytes open where their iv is that of what follows it, deciphered
pub opens_by_iv : (key bytes iv text stream code : List ℕ) → iv ≡ take 32 bytes → text ≡ drop 32 bytes → stream ≡ stream_key_of key iv
    → code ≡ hmac_of key (codes "good" ++ xored stream 0 text) → iv ≡ code → (goods : List ℕ) × OpensTo key bytes goods
opens_by_iv key bytes iv text stream code iv_is text_is stream_is code_is same = (
  xored stream 0 text,
  subst (λ (whole : List ℕ). OpensTo key whole (xored stream 0 text)) (halves bytes iv text iv_is text_is)
      (opens key (codes "good") iv text (xored stream 0 text) (ap (λ (s : List ℕ). xored s 0 text) stream_is) (same ∙ code_is)),
)

-- and to nothing where it is not
pub no_goods_by_iv : (key bytes iv text stream code : List ℕ) → length iv ≡ 32 → iv ≡ take 32 bytes → text ≡ drop 32 bytes → stream ≡ stream_key_of key iv
    → code ≡ hmac_of key (codes "good" ++ xored stream 0 text) → ¬ (iv ≡ code) → OpensToNothing key bytes
no_goods_by_iv key bytes iv text stream code long iv_is text_is stream_is code_is differs =
    subst (OpensToNothing key) (halves bytes iv text iv_is text_is)
    (no_seal key (codes "good") iv text long (λ same. differs (same ∙ ap (λ (s : List ℕ). hmac_of key (codes "good" ++ xored s 0 text)) (sym stream_is) ∙ sym code_is)))

-- bytes have one answer
pub opening_once : (key bytes : List ℕ) (first second : Result (List ℕ) OpenGoods) → Opening key bytes first → Opening key bytes second
    → first ≢ Err NoMemory → second ≢ Err NoMemory → first ≡ second
opening_once key bytes (Ok a) (Ok b) p q m n = ap Ok (opens_once key (codes "good") bytes a b p q)
opening_once key bytes (Ok a) (Err (BadSeal iv)) p q m n = absurd (q.0 a p)
opening_once key bytes (Ok a) (Err NoMemory) p q m n = absurd (n refl)
opening_once key bytes (Err (BadSeal iv)) (Ok b) p q m n = absurd (p.0 b q)
opening_once key bytes (Err (BadSeal iv)) (Err (BadSeal iw)) p q m n =
    ap (λ (x : List ℕ). let r : Result (List ℕ) OpenGoods = Err (BadSeal x) in r) (p.1 ∙ sym q.1)
opening_once key bytes (Err (BadSeal iv)) (Err NoMemory) p q m n = absurd (n refl)
opening_once key bytes (Err NoMemory) second p q m n = absurd (m refl)

-- two lists with one digest are one list, or a collision
same_or_collision : (b : Bool) (one other : List ℕ) → (b ≡ true) ↔ (one ≡ other) → sha256 one ≡ sha256 other → (one ≡ other) ⊎ Collision one other
same_or_collision true one other decides e = inl (decides.0 refl)
same_or_collision false one other decides e = inr (record { differ = λ same. absurd (false≢true (decides.1 same)); same_digest = e })

-- bytes with the checksum of sealed goods open to the goods, or are a collision with them
pub right_checksum : (key goods bytes : List ℕ) → sha256 bytes ≡ sha256 (sealed_goods key goods)
    → OpensTo key bytes goods ⊎ Collision bytes (sealed_goods key goods)
right_checksum key goods bytes e =
    same_or_collision (bytes_eq bytes (sealed_goods key goods)) bytes (sealed_goods key goods) (bytes_eq-Decides bytes (sealed_goods key goods)) e

-- the longest goods, sealed
pub longest : (key goods : List ℕ) → length goods ≡ 67108864
    → (count_of (sealed_goods key goods) ≡ 68) × (length (part_at (sealed_goods key goods) 67000000) ≡ 108896)
longest key goods h =
    let long : length (sealed_goods key goods) ≡ 67108896 = length-seal_of key (codes "good") goods ∙ ap (λ (n : ℕ). 32 + n) h in
    (rw long refl, length-part_at (sealed_goods key goods) 67000000 ∙ rw long refl)

-- what is kept of goods to make their parts
pub parts_are : (key goods iv stream digest : List ℕ) (total : ℕ) → iv ≡ iv_of key (codes "good") goods → stream ≡ stream_key_of key iv
    → total ≡ 32 + length goods → digest ≡ sha256 (iv ++ xored stream 0 goods)
    → (let d : Divided = record { key = key; iv = iv; total = total; checksum = digest } in d) ≡ parts_of key goods
unfolding seal_of
parts_are key goods iv stream digest total iv_is stream_is total_is digest_is =
    let whole : iv ++ xored stream 0 goods ≡ sealed_goods key goods = rw (stream_is, iv_is) refl in
    let long : total ≡ length (sealed_goods key goods) = total_is ∙ sym (length-seal_of key (codes "good") goods) in
    rw (digest_is, whole, long, iv_is) refl

-- a part of sealed goods: what is left of the iv at its place, and the goods from there on, xored
pub part_of_goods : (size : ℕ) (key goods iv stream lead left piece : List ℕ) (place cut from n : ℕ)
    → iv ≡ iv_of key (codes "good") goods → stream ≡ stream_key_of key iv → length iv ≡ 32
    → cut ≡ min place 32 → lead ≡ drop cut iv → from ≡ place - 32 → left ≡ drop from goods
    → n ≡ min (length left) (size - length lead) → piece ≡ take n left → length lead ≤ size
    → lead ++ xored stream from piece ≡ piece_at size (sealed_goods key goods) place
unfolding seal_of
part_of_goods size key goods iv stream lead left piece place cut from n iv_is stream_is long cut_is lead_is from_is left_is n_is piece_is h =
    let whole : iv ++ xored stream 0 goods ≡ sealed_goods key goods = rw (stream_is, iv_is) refl in
    slice_of stream iv goods lead left piece size place cut from n (rw long cut_is) lead_is (rw long from_is) left_is n_is piece_is h
    ∙ ap (λ (bytes : List ℕ). take size (drop place bytes)) whole

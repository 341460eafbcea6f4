-- The code, the identifier and the key at their places.
use Rattle.std.proofs.Common.{◌≡◌, ℕ, Bool, true, false, List, ◌++◌, length, take, drop, get_or, Option, Some, None, IfSome, Result, Ok, Err, refl, sym, ap, ◌∙◌, append_assoc, arith}
use Rattle.std.proofs.lemmas.List.{take_at, get_or-drop}
use Rattle.std.specs.Bool.{then_some}
use Rattle.std.specs.Prelude.{◌==◌, nat_lt, slice_index, bytes_eq, if◌then◌else◌}
use Rattle.nb_units.specs.declared.cut.CutFault.TheVariants.{Short}
use Rattle.nb_seal.specs.Seal.{seal_of}
use Rattle.nb_seal.proofs.Opening.{opens_once}
use Rattle.nb_units.specs.Epoid.{epoid_bytes, epoid_of}
use Rattle.nb_units.specs.Fields.{◌>>=◌, u8_at, u32_at, u64_at, raw_at, done_at, or_place, allowed}
use Rattle.nb_endorse.specs.declared.receipt.TheConstants.{PRESENT, NO_KEY}
use Rattle.nb_endorse.specs.declared.receipt.Receipt.{Receipt}
use Rattle.nb_endorse.specs.declared.receipt.Signed.{Signed}
use Rattle.nb_endorse.specs.Spelling.{key_bytes, shown_bytes, receipt_bytes}
use Rattle.nb_endorse.specs.Reading.{is_receipt_code, key_flag, may_show, may_hold, behind_key, behind_moment, signed_of}
use Rattle.nb_endorse.specs.Places.{receipt_key_in, ReceiptIsRead, CodeIsSpelled, EpoidIsSpelled, KeyIsSpelled, SpelledIsRead, SealedIsRead}

-- what a reading that led to a value went through
pub inside : {A B E : Type 0} (r : Result A E) (f : A → Result B E) (b : B) → (r >>= f) ≡ Ok b → (x : A) × (r ≡ Ok x) × (f x ≡ Ok b)
inside (Ok x) f b is = (x, refl, is)
inside (Err e) f b is = absurd cc

-- bytes that were read stand at their place
raw_is : (n : ℕ) (bytes : List ℕ) (place : ℕ) (x : List ℕ) → or_place (raw_at n bytes place) ≡ Ok x → x ≡ take n (drop place bytes)
unfolding raw_at
raw_is n bytes place x is = cases (nat_lt (length (drop place bytes)) n) is
  where
    cases : (b : Bool) → or_place (if b then Err (Short place) else Ok (take n (drop place bytes))) ≡ Ok x → x ≡ take n (drop place bytes)
    cases true is = absurd cc
    cases false is = cc

-- so does a byte
pub byte_is : (bytes : List ℕ) (place x : ℕ) → or_place (u8_at bytes place) ≡ Ok x → x ≡ slice_index bytes place
unfolding u8_at
byte_is bytes place x is = cases (nat_lt (length (drop place bytes)) 1) is ∙ get_or-drop place bytes 0 0 ∙ ap (λ (i : ℕ). get_or bytes i 0) (omega arith)
  where
    cases : (b : Bool) → or_place (if b then Err (Short place) else Ok (slice_index (drop place bytes) 0)) ≡ Ok x → x ≡ slice_index (drop place bytes) 0
    cases true is = absurd cc
    cases false is = cc

ok_same : (x y : Signed) → ◌≡◌ {A = Result Signed ℕ} (Ok x) (Ok y) → x ≡ y
ok_same x y e = cc

-- what is behind the key leaves what stands before it
key_kept : (front : Receipt) (bytes : List ℕ) (s : Signed) → behind_key front bytes ≡ Ok s
    → (s.receipt.code ≡ front.code) × (s.receipt.epoid ≡ front.epoid) × (s.receipt.key ≡ front.key)
unfolding behind_key
key_kept front bytes s is =
    let has = inside (or_place (u8_at bytes 86)) _ s is in
    let showing = inside (allowed (may_show front.code has.0) 86) _ s has.2 in
    let a = inside (or_place (u64_at bytes 87)) _ s showing.2 in
    let a_is = inside (allowed (may_hold has.0 (a.0 == 0)) 87) _ s a.2 in
    let b = inside (or_place (u64_at bytes 95)) _ s a_is.2 in
    let b_is = inside (allowed (may_hold has.0 (b.0 == 0)) 95) _ s b.2 in
    let tag = inside (or_place (raw_at 32 bytes 103)) _ s b_is.2 in
    let end = inside (or_place (done_at bytes 135)) _ s tag.2 in
    let same = ok_same _ s end.2 in
    (sym (ap (λ (x : Signed). x.receipt.code) same), sym (ap (λ (x : Signed). x.receipt.epoid) same), sym (ap (λ (x : Signed). x.receipt.key) same))

-- the key is what stands behind the moment
key_is : (front : Receipt) (bytes : List ℕ) (s : Signed) → behind_moment front bytes ≡ Ok s
    → (s.receipt.code ≡ front.code) × (s.receipt.epoid ≡ front.epoid) × (s.receipt.key ≡ receipt_key_in bytes)
unfolding behind_moment
key_is front bytes s is =
    let has = inside (or_place (u8_at bytes 53)) _ s is in
    let keyed = inside (allowed (has.0 == key_flag front.code) 53) _ s has.2 in
    let key = inside (or_place (raw_at 32 bytes 54)) _ s keyed.2 in
    let key_fits = inside (allowed (may_hold has.0 (bytes_eq key.0 NO_KEY)) 54) _ s key.2 in
    let kept = key_kept (record front { key = then_some (has.0 == PRESENT) key.0 }) bytes s key_fits.2 in
    (kept.0, kept.1, kept.2 ∙ ap (λ (n : ℕ). then_some (n == PRESENT) key.0) (byte_is bytes 53 has.0 has.1) ∙ ap (then_some (slice_index bytes 53 == PRESENT)) (raw_is 32 bytes 54 key.0 key.1))

pub receipt_is_read : ReceiptIsRead
unfolding signed_of
receipt_is_read bytes s is =
    let code = inside (or_place (u8_at bytes 0)) _ s is in
    let coded = inside (allowed (is_receipt_code code.0) 0) _ s code.2 in
    let consumer = inside (or_place (u32_at bytes 1)) _ s coded.2 in
    let merchant = inside (or_place (u32_at bytes 5)) _ s consumer.2 in
    let product = inside (or_place (u32_at bytes 9)) _ s merchant.2 in
    let price = inside (or_place (u64_at bytes 13)) _ s product.2 in
    let epoid = inside (or_place (raw_at 16 bytes 21)) _ s price.2 in
    let at = inside (or_place (u64_at bytes 37)) _ s epoid.2 in
    let moment = inside (or_place (u64_at bytes 45)) _ s at.2 in
    let rest = key_is _ bytes s moment.2 in
    record { code = rest.0 ∙ byte_is bytes 0 code.0 code.1; epoid = rest.1 ∙ ap epoid_of (raw_is 16 bytes 21 epoid.0 epoid.1); key = rest.2 }

pub code_is_spelled : CodeIsSpelled
unfolding receipt_bytes
code_is_spelled r more = refl

pub epoid_is_spelled : EpoidIsSpelled
unfolding receipt_bytes epoid_bytes
epoid_is_spelled r more = refl

-- the key where it stands
key_stands : (o : Option (List ℕ)) (rest : List ℕ) → IfSome o (λ key. length key ≡ 32)
    → then_some (slice_index (key_bytes o ++ rest) 0 == PRESENT) (take 32 (drop 1 (key_bytes o ++ rest))) ≡ o
key_stands None rest long = refl
key_stands (Some key) rest long = ap Some (take_at key rest 32 long)

pub key_is_spelled : KeyIsSpelled
unfolding receipt_bytes epoid_bytes
key_is_spelled r more long =
    let behind : (key_bytes r.key ++ shown_bytes r.shown) ++ more ≡ key_bytes r.key ++ (shown_bytes r.shown ++ more) = append_assoc (key_bytes r.key) (shown_bytes r.shown) more in
    ap (λ (xs : List ℕ). then_some (slice_index xs 0 == PRESENT) (take 32 (drop 1 xs))) behind ∙ key_stands r.key (shown_bytes r.shown ++ more) long

pub spelled_is_read : SpelledIsRead
spelled_is_read r more s is =
    let says = receipt_is_read (receipt_bytes r ++ more) s is in
    record { code = says.code ∙ code_is_spelled r more; epoid = says.epoid ∙ epoid_is_spelled r more; key = λ long. says.key ∙ key_is_spelled r more long }

pub sealed_is_read : SealedIsRead
sealed_is_read key label r more s opens =
    let plain : opens.0 ≡ receipt_bytes r ++ more = opens_once key label (seal_of key label (receipt_bytes r ++ more)) opens.0 (receipt_bytes r ++ more) opens.1 refl in
    spelled_is_read r more s (ap signed_of (sym plain) ∙ opens.2)

-- What is read of the bytes of a receipt that the house signed, and of their seal.
use Rattle.std.proofs.Common.{◌≡◌, ℕ, suc, ◌+◌, ◌≤◌, Bool, true, false, List, ◌++◌, length, take, drop, Option, Some, None, Result, Ok, Err, refl, sym, ap, subst, ◌∙◌, arith, length-append}
use Rattle.std.proofs.lemmas.Bool.{ltb-false}
use Rattle.std.proofs.lemmas.List.{length-drop}
use Rattle.std.specs.Bool.{then_some}
use Rattle.std.specs.Prelude.{◌==◌, nat_lt, bytes_eq, if◌then◌else◌}
use Rattle.nb_units.specs.declared.cut.CutFault.TheVariants.{Short, Extra}
use Rattle.nb_units.specs.Epoid.{epoid_bytes, epoid_of}
use Rattle.nb_units.specs.Fields.{u8_at, u32_at, u64_at, raw_at, done_at, or_place, allowed}
use Rattle.nb_seal.specs.Seal.{seal_of}
use Rattle.nb_seal.proofs.Opening.{length-hmac_of}
use Rattle.nb_endorse.specs.declared.receipt.TheConstants.{PRESENT, NO_KEY}
use Rattle.nb_endorse.specs.declared.receipt.Receipt.{Receipt}
use Rattle.nb_endorse.specs.declared.receipt.Signed.{Signed}
use Rattle.nb_endorse.specs.Spelling.{key_bytes, shown_bytes, receipt_bytes, signed_bytes, IsReceipt}
use Rattle.nb_endorse.specs.Tags.{receipt_tag, signed_receipt}
use Rattle.nb_endorse.specs.Reading.{is_receipt_code, key_flag, may_show, may_hold, behind_key, behind_moment, signed_of}
use Rattle.nb_endorse.proofs.Placing.{inside}
use Rattle.nb_endorse.proofs.Receipts.{receipt_reads_back}
use Rattle.nb_msgs.specs.declared.status.StatusText.{StatusText}
use Rattle.nb_msgs.specs.StatusText.{text_bytes, text_of}
use Rattle.nb_msgs.specs.Places.{SpellsReceipt, ReadsReceipt}
use Rattle.nb_msgs.specs.Tests.{or_seal, opened}
use Rattle.nb_msgs.proofs.Placing.{status_receipt_is_read, status_receipt_is_spelled}
use Rattle.nb_msgs.proofs.Unsealing.{opened_so}

-- ---- seals

read_so : {A E : Type 0} (r : Result A E) (x : A) → or_seal r ≡ Ok x → r ≡ Ok x
read_so (Ok y) x is = cc
read_so (Err fault) x is = absurd cc

-- what the seal of a text opens to is what the text is read as
pub opened_is : {A E : Type 0} (reading : List ℕ → Result A E) (key label plain : List ℕ) (x : A) → opened reading key label (seal_of key label plain) ≡ Ok x → reading plain ≡ Ok x
opened_is reading key label plain x is = read_so (reading plain) x (opened_so reading key label (seal_of key label plain) plain (reading plain) refl refl ∙ is)

-- ---- how long a receipt and its tag are

-- a field of so many bytes ends within the bytes
raw_within : (n : ℕ) (bytes : List ℕ) (place : ℕ) (x : List ℕ) → or_place (raw_at n bytes place) ≡ Ok x → n ≤ length (drop place bytes)
unfolding raw_at
raw_within n bytes place x is = cases (nat_lt (length (drop place bytes)) n) refl is
  where
    cases : (b : Bool) → nat_lt (length (drop place bytes)) n ≡ b → or_place (if b then Err (Short place) else Ok (take n (drop place bytes))) ≡ Ok x → n ≤ length (drop place bytes)
    cases true less is = absurd cc
    cases false less is = ltb-false (length (drop place bytes)) n less

-- no bytes are left behind the last field
none_left : (bytes : List ℕ) (place : ℕ) (u : Unit {0}) → or_place (done_at bytes place) ≡ Ok u → length bytes ≤ place
unfolding done_at
none_left bytes place u is = cases (nat_lt place (length bytes)) refl is
  where
    cases : (b : Bool) → nat_lt place (length bytes) ≡ b → or_place {A = Unit {0}} (if b then Err (Extra place) else Ok tt) ≡ Ok u → length bytes ≤ place
    cases true more is = absurd cc
    cases false more is = ltb-false place (length bytes) more

all_read : (bytes : List ℕ) → 32 ≤ length (drop 103 bytes) → length bytes ≤ 135 → length bytes ≡ 135
all_read bytes tag end = omega (arith, tag, end, length-drop 103 bytes)

behind_key_long : (front : Receipt) (bytes : List ℕ) (s : Signed) → behind_key front bytes ≡ Ok s → length bytes ≡ 135
unfolding behind_key
behind_key_long front bytes s is =
    let has = inside (or_place (u8_at bytes 86)) _ s is in
    let showing = inside (allowed (may_show front.code has.0) 86) _ s has.2 in
    let a = inside (or_place (u64_at bytes 87)) _ s showing.2 in
    let a_is = inside (allowed (may_hold has.0 (a.0 == 0)) 87) _ s a.2 in
    let b = inside (or_place (u64_at bytes 95)) _ s a_is.2 in
    let b_is = inside (allowed (may_hold has.0 (b.0 == 0)) 95) _ s b.2 in
    let tag = inside (or_place (raw_at 32 bytes 103)) _ s b_is.2 in
    let end = inside (or_place (done_at bytes 135)) _ s tag.2 in
    all_read bytes (raw_within 32 bytes 103 tag.0 tag.1) (none_left bytes 135 end.0 end.1)

behind_moment_long : (front : Receipt) (bytes : List ℕ) (s : Signed) → behind_moment front bytes ≡ Ok s → length bytes ≡ 135
unfolding behind_moment
behind_moment_long front bytes s is =
    let has = inside (or_place (u8_at bytes 53)) _ s is in
    let keyed = inside (allowed (has.0 == key_flag front.code) 53) _ s has.2 in
    let key = inside (or_place (raw_at 32 bytes 54)) _ s keyed.2 in
    let key_fits = inside (allowed (may_hold has.0 (bytes_eq key.0 NO_KEY)) 54) _ s key.2 in
    behind_key_long (record front { key = then_some (has.0 == PRESENT) key.0 }) bytes s key_fits.2

signed_long : (bytes : List ℕ) (s : Signed) → signed_of bytes ≡ Ok s → length bytes ≡ 135
unfolding signed_of
signed_long bytes s is =
    let code = inside (or_place (u8_at bytes 0)) _ s is in
    let coded = inside (allowed (is_receipt_code code.0) 0) _ s code.2 in
    let consumer = inside (or_place (u32_at bytes 1)) _ s coded.2 in
    let merchant = inside (or_place (u32_at bytes 5)) _ s consumer.2 in
    let product = inside (or_place (u32_at bytes 9)) _ s merchant.2 in
    let price = inside (or_place (u64_at bytes 13)) _ s product.2 in
    let epoid = inside (or_place (raw_at 16 bytes 21)) _ s price.2 in
    let at = inside (or_place (u64_at bytes 37)) _ s epoid.2 in
    let moment = inside (or_place (u64_at bytes 45)) _ s at.2 in
    behind_moment_long (record {
      code = code.0;
      consumer = record { 0 = consumer.0 };
      merchant = record { 0 = merchant.0 };
      product = product.0;
      price = record { 0 = price.0 };
      epoid = epoid_of epoid.0;
      at = at.0;
      moment = moment.0;
      key = None;
      shown = None;
    }) bytes s moment.2

shown_long : (o : Option (ℕ × ℕ)) → length (shown_bytes o) ≡ 17
shown_long None = refl
shown_long (Some numbers) = refl

-- the spelling of a receipt with a key has 71 bytes beside the key and the tag
spelled_long : (r : Receipt) (key tag : List ℕ) → r.key ≡ Some key → length (receipt_bytes r ++ tag) ≡ 71 + length key + length tag
unfolding receipt_bytes epoid_bytes
spelled_long r key tag is =
    let keyed : length (key_bytes r.key) ≡ suc (length key) = ap (λ (o : Option (List ℕ)). length (key_bytes o)) is in
    omega (arith, length-append (key_bytes r.key ++ shown_bytes r.shown) tag, length-append (key_bytes r.key) (shown_bytes r.shown), keyed, shown_long r.shown)

-- a key in what was read so has 32 bytes
pub key_long : (house : List ℕ) (r : Receipt) (s : Signed) (key : List ℕ) → signed_of (signed_bytes (signed_receipt house r)) ≡ Ok s → r.key ≡ Some key → length key ≡ 32
key_long house r s key is keyed =
    let whole : length (signed_bytes (signed_receipt house r)) ≡ 135 = signed_long (signed_bytes (signed_receipt house r)) s is in
    let parts : length (receipt_bytes r ++ receipt_tag house r) ≡ 71 + length key + length (receipt_tag house r) = spelled_long r key (receipt_tag house r) keyed in
    let tag : length (receipt_tag house r) ≡ 32 = length-hmac_of house _ in
    omega (arith, whole, parts, tag)

-- ---- what was read

ok_same : {A E : Type 0} (x y : A) → ◌≡◌ {A = Result A E} (Ok x) (Ok y) → x ≡ y
ok_same x y e = cc

-- where its fields have their widths, a receipt is read as it was
pub reads_back : (house : List ℕ) (r : Receipt) (s : Signed) → signed_of (signed_bytes (signed_receipt house r)) ≡ Ok s → IsReceipt r → s ≡ signed_receipt house r
reads_back house r s is fits =
    ok_same {E = ℕ} s (signed_receipt house r) (sym is ∙ receipt_reads_back (signed_receipt house r) (record { receipt = fits; tag = length-hmac_of house _ }))

-- the receipt in what the spelling of a status is read as is what the spelling of the receipt in it is read as
receipt_in : (bytes : List ℕ) (o : Option Signed) (s : Signed) → SpellsReceipt bytes o → ReadsReceipt bytes (Some s) → (told : Signed) × (o ≡ Some told) × (signed_of (signed_bytes told) ≡ Ok s)
receipt_in bytes None s spelled read = absurd (omega (arith, spelled, read.0))
receipt_in bytes (Some told) s spelled read = (told, refl, ap signed_of (sym spelled.1) ∙ read.1)

pub status_receipt : (t read : StatusText) (s : Signed) → text_of (text_bytes t) ≡ Ok read → read.receipt ≡ Some s
    → (told : Signed) × (t.receipt ≡ Some told) × (signed_of (signed_bytes told) ≡ Ok s)
status_receipt t read s is has =
    receipt_in (text_bytes t) t.receipt s (status_receipt_is_spelled t) (subst (ReadsReceipt (text_bytes t)) has (status_receipt_is_read (text_bytes t) read is))

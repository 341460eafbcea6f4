-- The receipt of a status at its place.
use Rattle.std.proofs.Common.{◌≡◌, ℕ, Bool, true, false, cond, List, ◌++◌, drop, Option, Some, None, Result, Ok, refl, sym, subst, ◌∙◌, arith, ap}
use Rattle.std.proofs.lemmas.Bool.{eqb-true, false≢true, eq-eqb}
use Rattle.std.specs.Prelude.{◌==◌, ◌||◌, slice_index}
use Rattle.nb_units.specs.declared.epoid.Epoid.{Epoid}
use Rattle.nb_units.specs.Epoid.{epoid_bytes}
use Rattle.nb_units.specs.Fields.{◌>>=◌, be8, u8_at, u64_at, raw_at, done_at, or_place, allowed}
use Rattle.nb_seal.specs.Seal.{seal_of}
use Rattle.nb_seal.proofs.Opening.{opens_once}
use Rattle.nb_endorse.specs.declared.receipt.TheConstants.{ABSENT, PRESENT}
use Rattle.nb_endorse.specs.declared.receipt.Signed.{Signed}
use Rattle.nb_endorse.specs.Reading.{signed_of}
use Rattle.nb_endorse.proofs.Placing.{inside, byte_is, spelled_is_read}
use Rattle.nb_msgs.specs.declared.status.StatusText.{StatusText}
use Rattle.nb_msgs.specs.StatusText.{told_bytes, text_bytes, told_from, told_of, text_of}
use Rattle.nb_msgs.specs.Places.{ReadsReceipt, StatusReceiptIsRead, SpellsReceipt, StatusReceiptIsSpelled, TellsAs, StatusSpelledIsRead, StatusSealedIsRead}
use Rattle.nb_msgs.proofs.StatusTexts.{from_found}

same_option : (x y : Option Signed) → ◌≡◌ {A = Result (Option Signed) ℕ} (Ok x) (Ok y) → x ≡ y
same_option x y e = cc

same_status : (x y : StatusText) → ◌≡◌ {A = Result StatusText ℕ} (Ok x) (Ok y) → x ≡ y
same_status x y e = cc

-- what was told of the bytes behind the byte at place 24
told_is : (has : ℕ) (bytes : List ℕ) (o : Option Signed) → has ≡ slice_index bytes 24 → told_of has bytes ≡ Ok o → ReadsReceipt bytes o
unfolding told_of
told_is has bytes o stands e = part (has == PRESENT) refl e
  where
    part : (b : Bool) → (has == PRESENT) ≡ b → cond b (told_from 25 (signed_of (drop 25 bytes))) (or_place (done_at bytes 25) >>= λ end. Ok None) ≡ Ok o → ReadsReceipt bytes o
    part true one e =
        let w = from_found 25 (signed_of (drop 25 bytes)) o e in
        subst (ReadsReceipt bytes) w.2 (sym stands ∙ eqb-true has PRESENT one, w.1)
    part false other e =
        let w = inside (or_place (done_at bytes 25)) (λ end. Ok None) o e in
        subst (ReadsReceipt bytes) (same_option None o w.2) (λ is. false≢true (sym other ∙ eq-eqb has PRESENT (stands ∙ is)))

pub status_receipt_is_read : StatusReceiptIsRead
unfolding text_of
status_receipt_is_read bytes t is =
    let place = inside (or_place (u64_at bytes 0)) _ t is in
    let epoid = inside (or_place (raw_at 16 bytes 8)) _ t place.2 in
    let has = inside (or_place (u8_at bytes 24)) _ t epoid.2 in
    let known = inside (allowed (has.0 == ABSENT || has.0 == PRESENT) 24) _ t has.2 in
    let receipt = inside (told_of has.0 bytes) _ t known.2 in
    subst (λ (x : StatusText). ReadsReceipt bytes x.receipt) (same_status _ t receipt.2) (told_is has.0 bytes receipt.0 (byte_is bytes 24 has.0 has.1) receipt.1)

-- the receipt, behind a place and an identifier
told_stands : (place : ℕ) (e : Epoid) (o : Option Signed) → SpellsReceipt (be8 place ++ epoid_bytes e ++ told_bytes o) o
unfolding epoid_bytes
told_stands place e None = refl
told_stands place e (Some s) = (refl, refl)

pub status_receipt_is_spelled : StatusReceiptIsSpelled
status_receipt_is_spelled t = told_stands t.place t.epoid t.receipt

-- the receipt in the bytes, spelled and read
same_receipt : (bytes : List ℕ) (o told : Option Signed) → SpellsReceipt bytes o → ReadsReceipt bytes told → TellsAs told o
same_receipt bytes None None spelled read = tt
same_receipt bytes None (Some told) spelled read = absurd (omega (arith, spelled, read.0))
same_receipt bytes (Some s) None spelled read = absurd (read spelled.0)
same_receipt bytes (Some s) (Some told) spelled read = spelled_is_read s.receipt s.tag told (ap signed_of (sym spelled.1) ∙ read.1)

pub status_spelled_is_read : StatusSpelledIsRead
status_spelled_is_read t told is = same_receipt (text_bytes t) t.receipt told.receipt (status_receipt_is_spelled t) (status_receipt_is_read (text_bytes t) told is)

pub status_sealed_is_read : StatusSealedIsRead
status_sealed_is_read key label t told opens =
    let plain : opens.0 ≡ text_bytes t = opens_once key label (seal_of key label (text_bytes t)) opens.0 (text_bytes t) opens.1 refl in
    status_spelled_is_read t told (ap text_of (sym plain) ∙ opens.2)

-- Receipts and their tags as rows of fields.
use Rattle.std.proofs.Common.{◌≡◌, ℕ, ◌<◌, ◌^◌, true, List, Ok, refl, sym, ap, subst, ◌∙◌, arith}
use Rattle.std.specs.Prelude.{Option, length}
use Rattle.std.proofs.lemmas.Bool.{eqb-true, leb-true, eq-eqb, le-leb}
use Rattle.nb_units.specs.declared.epoid.Epoid.{Epoid}
use Rattle.nb_units.proofs.Rows.{Row, IsRow, ◌then◌, then_row, ◌&◌, and_row, tested, tested_row, byte, byte_row, number4, number4_row, number8, number8_row, epoid, epoid_row, raw, raw_row, whole, whole_found, whole_reads, ok_is}
use Rattle.nb_endorse.specs.declared.receipt.Signed.{Signed}
use Rattle.nb_endorse.specs.Spelling.{IsReceiptCode, IsSigned, receipt_bytes, signed_bytes}
use Rattle.nb_endorse.specs.Reading.{is_receipt_code, signed_of, behind_moment, behind_key}
use Rattle.nb_endorse.specs.Laws.{ReceiptReadsBack, ReceiptSpellsBack, OneReceipt, ReceiptIsAsLong}
use Rattle.nb_endorse.proofs.Optional.{key_row, is_key_row, shown_row, is_shown_row}

-- the parts of a receipt before its key, one behind the other
abbrev Front : Type 0
Front = ((((((ℕ × ℕ) × ℕ) × ℕ) × ℕ) × Epoid) × ℕ) × ℕ

abbrev front_row : Row Front
front_row = tested byte is_receipt_code & number4 & number4 & number4 & number8 & epoid & number8 & number8

is_front_row : IsRow front_row
is_front_row = and_row (and_row (and_row (and_row (and_row (and_row (and_row (tested_row byte is_receipt_code byte_row) number4_row) number4_row) number4_row) number8_row) epoid_row) number8_row) number8_row

abbrev code_of : Front → ℕ
code_of p = p.0.0.0.0.0.0.0

-- the parts of a receipt, and of a receipt with its tag
abbrev Keyed : Type 0
Keyed = Front × Option (List ℕ)

abbrev Parts : Type 0
Parts = (Keyed × Option (ℕ × ℕ)) × List ℕ

abbrev keyed_row : Row Keyed
keyed_row = front_row then (λ p. key_row (code_of p))

abbrev receipt_row : Row (Keyed × Option (ℕ × ℕ))
receipt_row = keyed_row then (λ p. shown_row (code_of p.0))

abbrev signed_row : Row Parts
signed_row = receipt_row & raw 32

is_row : IsRow signed_row
is_row = and_row (then_row keyed_row (λ p. shown_row (code_of p.0)) (then_row front_row (λ p. key_row (code_of p)) is_front_row (λ p. is_key_row (code_of p))) (λ p. is_shown_row (code_of p.0))) (raw_row 32)

abbrev made : Parts → Signed
made p = record {
  receipt = record {
    code = code_of p.0.0.0;
    consumer = record { 0 = p.0.0.0.0.0.0.0.0.0.1 };
    merchant = record { 0 = p.0.0.0.0.0.0.0.0.1 };
    product = p.0.0.0.0.0.0.0.1;
    price = record { 0 = p.0.0.0.0.0.0.1 };
    epoid = p.0.0.0.0.0.1;
    at = p.0.0.0.0.1;
    moment = p.0.0.0.1;
    key = p.0.0.1;
    shown = p.0.1;
  };
  tag = p.1;
}

read_so : (bytes : List ℕ) → signed_of bytes ≡ whole signed_row Signed bytes (λ p. Ok (made p))
unfolding signed_of behind_moment behind_key
read_so bytes = refl

spelled_so : (p : Parts) → signed_row.spelled p ≡ signed_bytes (made p)
unfolding receipt_bytes
spelled_so p = refl

-- the test of a code
code_is : (code : ℕ) → is_receipt_code code ≡ true → IsReceiptCode code
code_is code e = grind (arith, eqb-true, leb-true)

is_tested : (code : ℕ) → IsReceiptCode code → is_receipt_code code ≡ true
is_tested code is = grind (arith, eq-eqb, le-leb)

code_fits : (code : ℕ) → IsReceiptCode code → code < 2 ^ 8
code_fits code is = grind arith

fits_so : (p : Parts) → signed_row.fits p → IsSigned (made p)
fits_so p f = record {
  receipt = record {
    code = code_is (code_of p.0.0.0) f.0.0.0.0.0.0.0.0.0.0.1;
    consumer = f.0.0.0.0.0.0.0.0.0.1;
    merchant = f.0.0.0.0.0.0.0.0.1;
    product = f.0.0.0.0.0.0.0.1;
    price = f.0.0.0.0.0.0.1;
    epoid = f.0.0.0.0.0.1;
    at = f.0.0.0.0.1;
    moment = f.0.0.0.1;
    keyed = f.0.0.1.0;
    key = f.0.0.1.1;
    showing = f.0.1.0;
    shown = f.0.1.1;
  };
  tag = f.1;
}

abbrev parts_of : Signed → Parts
parts_of s =
    let r = s.receipt in
    ((((((((((r.code, r.consumer.0), r.merchant.0), r.product), r.price.0), r.epoid), r.at), r.moment), r.key), r.shown), s.tag)

so_fits : (s : Signed) → IsSigned s → signed_row.fits (parts_of s)
so_fits s is =
    let r = is.receipt in
    ((((((((((((code_fits s.receipt.code r.code, is_tested s.receipt.code r.code), r.consumer), r.merchant), r.product), r.price), r.epoid), r.at), r.moment), (r.keyed, r.key)), (r.showing, r.shown)), is.tag))

pub receipt_spells_back : ReceiptSpellsBack
receipt_spells_back bytes s are e =
    let w = whole_found signed_row is_row Signed bytes (λ p. Ok (made p)) s are (sym (read_so bytes) ∙ e) in
    subst (λ (x : Signed). IsSigned x × (bytes ≡ signed_bytes x)) (ok_is (made w.0) s w.3) (fits_so w.0 w.1, w.2 ∙ spelled_so w.0)

pub receipt_reads_back : ReceiptReadsBack
receipt_reads_back s is =
    read_so (signed_bytes s) ∙ whole_reads signed_row is_row Signed (signed_bytes s) (λ q. Ok (made q)) (parts_of s) (so_fits s is) (sym (spelled_so (parts_of s)))

pub one_receipt : OneReceipt
one_receipt a b first second same = ok_is a b (sym (receipt_reads_back a first) ∙ ap signed_of same ∙ receipt_reads_back b second)

pub receipt_is_as_long : ReceiptIsAsLong
receipt_is_as_long s is = omega (arith, is_row.long 0 (parts_of s) (so_fits s is), ap length (spelled_so (parts_of s)))

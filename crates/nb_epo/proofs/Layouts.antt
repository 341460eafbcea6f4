-- Orders and hidden parts as rows of fields.
use Rattle.std.proofs.Common.{◌≡◌, ℕ, ◌+◌, List, Ok, refl, sym, ap, subst, ◌∙◌, arith, length, Result, Err}
use Rattle.nb_units.specs.declared.epoid.Epoid.{Epoid}
use Rattle.nb_units.proofs.Rows.{Row, IsRow, ◌&◌, and_row, number4, number4_row, number8, number8_row, raw, raw_row, text, text_row, epoid, epoid_row, whole, whole_found, whole_reads, ok_is}
use Rattle.nb_units.specs.declared.limits.TheConstants.{MAX_HIDDEN, MAX_MEMO}
use Rattle.nb_epo.specs.declared.order.Order.{Order}
use Rattle.nb_epo.specs.declared.hidden.Hidden.{Hidden}
use Rattle.nb_epo.specs.Spelling.{IsOrder, untagged_bytes, order_bytes, IsHidden, hidden_bytes}
use Rattle.nb_epo.specs.Reading.{order_of, hidden_of}
use Rattle.std.specs.Prelude.{codes}
use Rattle.nb_seal.specs.Seal.{Opens}
use Rattle.nb_seal.proofs.Opening.{opens_once}
use Rattle.nb_epo.specs.declared.hidden.RevealFault.{RevealFault}
use Rattle.nb_epo.specs.declared.hidden.RevealFault.TheVariants.{BadSeal, Malformed}
use Rattle.nb_epo.specs.Revealing.{Reveals}
use Rattle.nb_epo.specs.Laws.{OrderReadsBack, OrderSpellsBack, OneOrder, HiddenReadsBack, HiddenSpellsBack, OneHidden, LengthsAre}

-- ---- orders

-- the parts of an order, one behind the other
abbrev Parts : Type 0
Parts = ((((((((ℕ × ℕ) × ℕ) × ℕ) × Epoid) × List ℕ) × List ℕ) × List ℕ) × List ℕ) × List ℕ

abbrev order_row : Row Parts
order_row = number4 & number4 & number4 & number8 & epoid & raw 32 & raw 32 & raw 32 & text MAX_HIDDEN & raw 32

is_row : IsRow order_row
is_row = and_row (and_row (and_row (and_row (and_row (and_row (and_row (and_row (and_row number4_row number4_row) number4_row) number8_row) epoid_row) (raw_row 32)) (raw_row 32)) (raw_row 32)) (text_row MAX_HIDDEN (omega arith))) (raw_row 32)

abbrev made : Parts → Order
made p = record {
  consumer = record { 0 = p.0.0.0.0.0.0.0.0.0 };
  merchant = record { 0 = p.0.0.0.0.0.0.0.0.1 };
  product = p.0.0.0.0.0.0.0.1;
  price = record { 0 = p.0.0.0.0.0.0.1 };
  epoid = p.0.0.0.0.0.1;
  checksum = p.0.0.0.0.1;
  request = p.0.0.0.1;
  account = p.0.0.1;
  hidden = p.0.1;
  tag = p.1;
}

read_so : (bytes : List ℕ) → order_of bytes ≡ whole order_row Order bytes (λ p. Ok (made p))
unfolding order_of
read_so bytes = refl

spelled_so : (p : Parts) → order_row.spelled p ≡ order_bytes (made p)
unfolding untagged_bytes
spelled_so p = refl

fits_so : (p : Parts) → order_row.fits p → IsOrder (made p)
fits_so p f = record {
  consumer = f.0.0.0.0.0.0.0.0.0;
  merchant = f.0.0.0.0.0.0.0.0.1;
  product = f.0.0.0.0.0.0.0.1;
  price = f.0.0.0.0.0.0.1;
  epoid = f.0.0.0.0.0.1;
  checksum = f.0.0.0.0.1;
  request = f.0.0.0.1;
  account = f.0.0.1;
  hidden = f.0.1;
  tag = f.1;
}

pub order_spells_back : OrderSpellsBack
order_spells_back bytes o are e =
    let w = whole_found order_row is_row Order bytes (λ p. Ok (made p)) o are (sym (read_so bytes) ∙ e) in
    subst (λ (x : Order). IsOrder x × (bytes ≡ order_bytes x)) (ok_is (made w.0) o w.3) (fits_so w.0 w.1, w.2 ∙ spelled_so w.0)

pub order_reads_back : OrderReadsBack
order_reads_back o is =
    let p : Parts = (((((((((o.consumer.0, o.merchant.0), o.product), o.price.0), o.epoid), o.checksum), o.request), o.account), o.hidden), o.tag) in
    read_so (order_bytes o)
    ∙ whole_reads order_row is_row Order (order_bytes o) (λ q. Ok (made q)) p (((((((((is.consumer, is.merchant), is.product), is.price), is.epoid), is.checksum), is.request), is.account), is.hidden), is.tag) (sym (spelled_so p))

pub one_order : OneOrder
one_order a b first second same = ok_is a b (sym (order_reads_back a first) ∙ ap order_of same ∙ order_reads_back b second)

-- ---- hidden parts

abbrev HiddenParts : Type 0
HiddenParts = (ℕ × ℕ) × List ℕ

abbrev hidden_row : Row HiddenParts
hidden_row = number4 & number8 & text MAX_MEMO

is_hidden_row : IsRow hidden_row
is_hidden_row = and_row (and_row number4_row number8_row) (text_row MAX_MEMO (omega arith))

abbrev hidden_made : HiddenParts → Hidden
hidden_made p = record { acct = record { 0 = p.0.0 }; nonce = p.0.1; memo = p.1 }

hidden_read_so : (bytes : List ℕ) → hidden_of bytes ≡ whole hidden_row Hidden bytes (λ p. Ok (hidden_made p))
unfolding hidden_of
hidden_read_so bytes = refl

hidden_spelled_so : (p : HiddenParts) → hidden_row.spelled p ≡ hidden_bytes (hidden_made p)
unfolding hidden_bytes
hidden_spelled_so p = refl

pub hidden_spells_back : HiddenSpellsBack
hidden_spells_back bytes h are e =
    let w = whole_found hidden_row is_hidden_row Hidden bytes (λ p. Ok (hidden_made p)) h are (sym (hidden_read_so bytes) ∙ e) in
    subst (λ (x : Hidden). IsHidden x × (bytes ≡ hidden_bytes x)) (ok_is (hidden_made w.0) h w.3) (record { acct = w.1.0.0; nonce = w.1.0.1; memo = w.1.1 }, w.2 ∙ hidden_spelled_so w.0)

pub hidden_reads_back : HiddenReadsBack
hidden_reads_back h is =
    let p : HiddenParts = ((h.acct.0, h.nonce), h.memo) in
    hidden_read_so (hidden_bytes h) ∙ whole_reads hidden_row is_hidden_row Hidden (hidden_bytes h) (λ q. Ok (hidden_made q)) p ((is.acct, is.nonce), is.memo) (sym (hidden_spelled_so p))

pub one_hidden : OneHidden
one_hidden a b first second same = ok_is a b (sym (hidden_reads_back a first) ∙ ap hidden_of same ∙ hidden_reads_back b second)

-- ---- lengths, and what is revealed

pub lengths : LengthsAre
lengths = (order, hidden)
  where
    order : (o : Order) → IsOrder o → length (order_bytes o) ≡ 168 + length o.hidden
    order o is =
        let p : Parts = (((((((((o.consumer.0, o.merchant.0), o.product), o.price.0), o.epoid), o.checksum), o.request), o.account), o.hidden), o.tag) in
        omega (arith, is_row.long 0 p (((((((((is.consumer, is.merchant), is.product), is.price), is.epoid), is.checksum), is.request), is.account), is.hidden), is.tag), ap length (spelled_so p))

    hidden : (h : Hidden) → IsHidden h → length (hidden_bytes h) ≡ 16 + length h.memo
    hidden h is =
        let p : HiddenParts = ((h.acct.0, h.nonce), h.memo) in
        omega (arith, is_hidden_row.long 0 p ((is.acct, is.nonce), is.memo), ap length (hidden_spelled_so p))

-- what is the seal of a hidden part is revealed as that hidden part
pub revealed : (key bytes : List ℕ) (h : Hidden) (r : Result Hidden RevealFault) → IsHidden h → Opens key (codes "hide") bytes (hidden_bytes h) → Reveals key bytes r → r ≡ Ok h
revealed key bytes h (Ok g) is opens (plain, o, e) =
    ap Ok (ok_is g h (sym e ∙ ap hidden_of (opens_once key (codes "hide") bytes plain (hidden_bytes h) o opens) ∙ hidden_reads_back h is))
revealed key bytes h (Err (BadSeal iv)) is opens r = absurd (r.0 (hidden_bytes h) opens)
revealed key bytes h (Err (Malformed place)) is opens (plain, o, e) =
    let x : hidden_of plain ≡ Ok h = ap hidden_of (opens_once key (codes "hide") bytes plain (hidden_bytes h) o opens) ∙ hidden_reads_back h is in
    absurd (cc (e, x))

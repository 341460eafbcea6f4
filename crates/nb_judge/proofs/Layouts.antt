-- A case as a row of fields.
use Rattle.std.proofs.Common.{◌≡◌, ℕ, ◌+◌, ◌≤◌, List, ◌++◌, length, drop, take, Result, Ok, Err, refl, sym, ap, subst, ◌∙◌, arith}
use Rattle.std.proofs.lemmas.List.{drop_at}
use Rattle.nb_units.specs.Fields.{be4, sized, ◌>>=◌}
use Rattle.nb_units.specs.Frames.{AreBytes}
use Rattle.nb_units.specs.declared.limits.TheConstants.{MAX_ORDER}
use Rattle.nb_units.proofs.ByteLists.{AreBytes-drop, AreBytes-take}
use Rattle.nb_units.proofs.Rows.{Row, IsRow, ◌&◌, and_row, raw, raw_row, text, text_row, whole, whole_found, whole_reads, ok_is}
use Rattle.nb_epo.specs.declared.order.Order.{Order}
use Rattle.nb_epo.specs.Reading.{order_of}
use Rattle.nb_epo.specs.Spelling.{IsOrder, order_bytes}
use Rattle.nb_epo.proofs.Layouts.{order_reads_back, order_spells_back, lengths}
use Rattle.nb_endorse.specs.declared.receipt.TheConstants.{RECEIPT_BYTES}
use Rattle.nb_goods.specs.declared.limits.TheConstants.{MAX_SEALED}
use Rattle.nb_judge.specs.declared.case.Case.{Case}
use Rattle.nb_judge.specs.Layout.{IsCase, case_bytes, case_of, from_place, order_within}
use Rattle.nb_judge.specs.Laws.{CaseReadsBack, CaseSpellsBack}

-- ---- the order behind its length

abbrev order_text : Row (List ℕ × Order)
order_text = record {
  spelled = λ p. sized p.0;
  behind = λ place p. place + 4 + length p.0;
  fits = λ p. IsOrder p.1 × (p.0 ≡ order_bytes p.1);
  read = λ R bytes place next. (text MAX_ORDER).read R bytes place (λ t. order_within t >>= λ o. next (t, o));
}

within_found : {R : Type 0} (r : Result Order ℕ) (next : Order → Result R ℕ) (y : R) → (from_place 68 r >>= next) ≡ Ok y → (o : Order) × (r ≡ Ok o) × (next o ≡ Ok y)
within_found (Ok o) next y e = (o, refl, e)
within_found (Err place) next y e = absurd cc

-- a text whose length and bytes stand there is one of bytes
text_bytes : (t bytes : List ℕ) (place : ℕ) → AreBytes bytes → take (length (sized t)) (drop place bytes) ≡ sized t → AreBytes t
text_bytes t bytes place are stands =
    subst AreBytes (drop_at (be4 (length t)) t 4 refl) (AreBytes-drop 4 (sized t) (subst AreBytes stands (AreBytes-take (length (sized t)) (drop place bytes) (AreBytes-drop place bytes are))))

order_text_row : IsRow order_text
order_text_row =
    let row = text_row MAX_ORDER (omega arith) in
    record {
      long = λ place p fits. row.long place p.0 (short p fits);
      found = λ R bytes place next y are e.
          let a = row.found R bytes place (λ t. order_within t >>= λ o. next (t, o)) y are e in
          let b = within_found (order_of a.0) (λ o. next (a.0, o)) y a.3 in
          ((a.0, b.0), order_spells_back a.0 b.0 (text_bytes a.0 bytes place are a.2) b.1, a.2, b.2);
      reads = λ R bytes place next p fits s.
          row.reads R bytes place (λ t. order_within t >>= λ o. next (t, o)) p.0 (short p fits) s
          ∙ rw (ap order_of fits.1 ∙ order_reads_back p.1 fits.0) refl;
    }
  where
    short : (p : List ℕ × Order) → IsOrder p.1 × (p.0 ≡ order_bytes p.1) → length p.0 ≤ MAX_ORDER
    short p fits = omega (arith, ap length fits.1, lengths.0 p.1 fits.0, fits.0.hidden)

-- ---- a case

abbrev Parts : Type 0
Parts = (((List ℕ × List ℕ) × (List ℕ × Order)) × List ℕ) × List ℕ

abbrev case_row : Row Parts
case_row = raw 32 & raw 32 & order_text & text RECEIPT_BYTES & text MAX_SEALED

is_row : IsRow case_row
is_row = and_row (and_row (and_row (and_row (raw_row 32) (raw_row 32)) order_text_row) (text_row RECEIPT_BYTES (omega arith))) (text_row MAX_SEALED (omega arith))

abbrev made : Parts → Case
made p = record { house = p.0.0.0.0; consumer = p.0.0.0.1; order = p.0.0.1.1; receipt = p.0.1; sealed = p.1 }

read_so : (bytes : List ℕ) → case_of bytes ≡ whole case_row Case bytes (λ p. Ok (made p))
unfolding case_of
read_so bytes = refl

spelled_so : (p : Parts) → p.0.0.1.0 ≡ order_bytes p.0.0.1.1 → case_row.spelled p ≡ case_bytes (made p)
unfolding case_bytes
spelled_so p is = ap (λ (t : List ℕ). p.0.0.0.0 ++ p.0.0.0.1 ++ sized t ++ sized p.0.1 ++ sized p.1) is

fits_so : (p : Parts) → case_row.fits p → IsCase (made p)
fits_so p f = record { house = f.0.0.0.0; consumer = f.0.0.0.1; order = f.0.0.1.0; receipt = f.0.1; sealed = f.1 }

pub case_spells_back : CaseSpellsBack
case_spells_back bytes c are e =
    let w = whole_found case_row is_row Case bytes (λ p. Ok (made p)) c are (sym (read_so bytes) ∙ e) in
    subst (λ (x : Case). IsCase x × (bytes ≡ case_bytes x)) (ok_is (made w.0) c w.3) (fits_so w.0 w.1, w.2 ∙ spelled_so w.0 w.1.0.0.1.1)

pub case_reads_back : CaseReadsBack
case_reads_back c is =
    let p : Parts = ((((c.house, c.consumer), (order_bytes c.order, c.order)), c.receipt), c.sealed) in
    read_so (case_bytes c)
    ∙ whole_reads case_row is_row Case (case_bytes c) (λ q. Ok (made q)) p ((((is.house, is.consumer), (is.order, refl)), is.receipt), is.sealed) (sym (spelled_so p refl))

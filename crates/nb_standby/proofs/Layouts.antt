-- Records and acknowledgements as rows of fields.
use Rattle.std.proofs.Common.{◌≡◌, ℕ, ◌+◌, List, length, Ok, Err, Result, refl, sym, subst, ◌∙◌}
use Rattle.nb_units.specs.Fields.{◌>>=◌}
use Rattle.nb_units.proofs.Rows.{Row, IsRow, ◌&◌, and_row, byte, byte_row, number8, number8_row, raw, raw_row, whole, whole_found, whole_reads, ok_is}
use Rattle.nb_entry.specs.declared.entry.Entry.{Entry}
use Rattle.nb_entry.specs.Reading.{entry_at}
use Rattle.nb_entry.specs.Spelling.{IsEntry, entry_bytes}
use Rattle.nb_entry.proofs.Layouts.{entry_reads_back, entry_spells_back}
use Rattle.nb_standby.specs.declared.shipped.Shipped.{Shipped}
use Rattle.nb_standby.specs.declared.acknowledged.Acknowledged.{Acknowledged}
use Rattle.nb_standby.specs.Spelling.{IsShipped, unsigned_bytes, shipped_bytes, IsAcknowledged, untold_bytes, acknowledged_bytes}
use Rattle.nb_standby.specs.Reading.{shipped_of, acknowledged_of}
use Rattle.nb_standby.specs.Laws.{ShippedReadsBack, ShippedSpellsBack, AcknowledgedReadsBack, AcknowledgedSpellsBack}

-- ---- an entry as a field

abbrev entry : Row Entry
entry = record { spelled = entry_bytes; behind = λ place e. place + length (entry_bytes e); fits = IsEntry; read = λ R bytes place next. entry_at bytes place >>= next }

found_in : {A R : Type 0} (r : Result A ℕ) (next : A → Result R ℕ) (y : R) → (r >>= next) ≡ Ok y → (x : A) × (r ≡ Ok x) × (next x ≡ Ok y)
found_in (Ok x) next y e = (x, refl, e)
found_in (Err place) next y e = absurd cc

entry_row : IsRow entry
entry_row = record {
  long = λ place e fits. refl;
  found = λ R bytes place next y are e.
      let a = found_in (entry_at bytes place) next y e in
      let b = entry_spells_back bytes place a.0 are a.1 in
      (a.0, b.0, b.1, a.2);
  reads = λ R bytes place next x is s. rw (entry_reads_back bytes place x is s) refl;
}

-- ---- records

abbrev ShippedParts : Type 0
ShippedParts = (ℕ × Entry) × List ℕ

abbrev shipped_row : Row ShippedParts
shipped_row = number8 & entry & raw 32

is_shipped_row : IsRow shipped_row
is_shipped_row = and_row (and_row number8_row entry_row) (raw_row 32)

abbrev shipped_made : ShippedParts → Shipped
shipped_made p = record { place = p.0.0; entry = p.0.1; tag = p.1 }

shipped_read_so : (bytes : List ℕ) → shipped_of bytes ≡ whole shipped_row Shipped bytes (λ p. Ok (shipped_made p))
unfolding shipped_of
shipped_read_so bytes = refl

shipped_spelled_so : (p : ShippedParts) → shipped_row.spelled p ≡ shipped_bytes (shipped_made p)
unfolding unsigned_bytes
shipped_spelled_so p = refl

pub shipped_spells_back : ShippedSpellsBack
shipped_spells_back bytes r are e =
    let w = whole_found shipped_row is_shipped_row Shipped bytes (λ p. Ok (shipped_made p)) r are (sym (shipped_read_so bytes) ∙ e) in
    subst (λ (x : Shipped). IsShipped x × (bytes ≡ shipped_bytes x)) (ok_is (shipped_made w.0) r w.3)
    (record { place = w.1.0.0; entry = w.1.0.1; tag = w.1.1 }, w.2 ∙ shipped_spelled_so w.0)

pub shipped_reads_back : ShippedReadsBack
shipped_reads_back r is =
    let p : ShippedParts = ((r.place, r.entry), r.tag) in
    shipped_read_so (shipped_bytes r) ∙ whole_reads shipped_row is_shipped_row Shipped (shipped_bytes r) (λ q. Ok (shipped_made q)) p ((is.place, is.entry), is.tag) (sym (shipped_spelled_so p))

-- ---- acknowledgements

abbrev AcknowledgedParts : Type 0
AcknowledgedParts = (ℕ × ℕ) × List ℕ

abbrev acknowledged_row : Row AcknowledgedParts
acknowledged_row = byte & number8 & raw 32

is_acknowledged_row : IsRow acknowledged_row
is_acknowledged_row = and_row (and_row byte_row number8_row) (raw_row 32)

abbrev acknowledged_made : AcknowledgedParts → Acknowledged
acknowledged_made p = record { code = p.0.0; entries = p.0.1; tag = p.1 }

acknowledged_read_so : (bytes : List ℕ) → acknowledged_of bytes ≡ whole acknowledged_row Acknowledged bytes (λ p. Ok (acknowledged_made p))
unfolding acknowledged_of
acknowledged_read_so bytes = refl

acknowledged_spelled_so : (p : AcknowledgedParts) → acknowledged_row.spelled p ≡ acknowledged_bytes (acknowledged_made p)
unfolding untold_bytes
acknowledged_spelled_so p = refl

pub acknowledged_spells_back : AcknowledgedSpellsBack
acknowledged_spells_back bytes a are e =
    let w = whole_found acknowledged_row is_acknowledged_row Acknowledged bytes (λ p. Ok (acknowledged_made p)) a are (sym (acknowledged_read_so bytes) ∙ e) in
    subst (λ (x : Acknowledged). IsAcknowledged x × (bytes ≡ acknowledged_bytes x)) (ok_is (acknowledged_made w.0) a w.3)
    (record { code = w.1.0.0; entries = w.1.0.1; tag = w.1.1 }, w.2 ∙ acknowledged_spelled_so w.0)

pub acknowledged_reads_back : AcknowledgedReadsBack
acknowledged_reads_back a is =
    let p : AcknowledgedParts = ((a.code, a.entries), a.tag) in
    acknowledged_read_so (acknowledged_bytes a)
    ∙ whole_reads acknowledged_row is_acknowledged_row Acknowledged (acknowledged_bytes a) (λ q. Ok (acknowledged_made q)) p ((is.code, is.entries), is.tag) (sym (acknowledged_spelled_so p))

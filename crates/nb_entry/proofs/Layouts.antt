-- Entries as rows of fields.
use Rattle.std.proofs.Common.{◌≡◌, inl, inr, ℕ, ◌+◌, ◌<◌, ◌≤◌, ◌^◌, Bool, true, false, ◌==◌, cond, ltb, List, [], ◌∷◌, ◌++◌, length, length-append, length-take, drop, Result, Ok, Err, refl, sym, ap, subst, ◌∙◌, arith}
use Rattle.std.specs.List.{AllByRecursion}
use Rattle.std.proofs.lemmas.List.{take_at, drop_at}
use Rattle.std.proofs.lemmas.Bool.{eqb-true, leb-true, ltb-true, ltb-false, eq-eqb, le-leb}
use Rattle.nb_units.specs.declared.cut.CutFault.{CutFault}
use Rattle.nb_units.specs.declared.cut.CutFault.TheVariants.{Short}
use Rattle.nb_units.specs.declared.epoid.Epoid.{Epoid}
use Rattle.nb_units.specs.Fields.{◌>>=◌, u8_at, u32_at, u64_at, raw_at, or_place, allowed, place_of}
use Rattle.nb_units.specs.Epoid.{epoid_of}
use Rattle.nb_units.specs.Frames.{AreBytes}
use Rattle.nb_units.specs.Laws.{StandsAt, IsShortBelow, left_at}
use Rattle.nb_units.proofs.FieldLaws.{field_short}
use Rattle.nb_units.proofs.ByteLists.{AreBytes-drop}
use Rattle.nb_units.proofs.Rows.{Row, IsRow, read_found, allowed_found, ◌&◌, and_row, tested, tested_row, byte, byte_row, number4, number4_row, number8, number8_row, epoid, epoid_row, raw, raw_row, ok_is}
use Rattle.std.specs.Prelude.{IfErr}
use Rattle.nb_units.specs.Reads.{Reads}
use Rattle.nb_units.specs.declared.malformed.Malformed.{Malformed}
use Rattle.nb_entry.specs.declared.entry.Entry.{Entry}
use Rattle.nb_entry.specs.declared.entry.Entry.TheVariants.{Enrol, Fund, Paid, Charged, Refused}
use Rattle.nb_units.specs.declared.reason.TheConstants.{FIRST_REASON, LAST_REASON}
use Rattle.nb_units.specs.Reasons.{IsReason, is_reason}
use Rattle.nb_entry.specs.declared.spelling.OrderTerms.{OrderTerms}
use Rattle.nb_entry.specs.declared.spelling.TheConstants.{ENROL_ENTRY, FUND_ENTRY, PAID_ENTRY, REFUSED_ENTRY, CHARGED_ENTRY, MAX_ENTRY}
use Rattle.nb_units.specs.declared.ids.PartyId.{PartyId}
use Rattle.nb_units.specs.declared.ids.Price.{Price}
use Rattle.nb_entry.specs.Spelling.{IsRole, IsEntry, entry_bytes, entries_bytes, bytes_of_kind}
use Rattle.nb_entry.specs.declared.spelling.EntryFault.{EntryFault}
use Rattle.nb_entry.specs.Reading.{ReadsEntry, is_role, enrol_of, fund_of, terms_of, paid_of, charged_of, refused_of, entry_of_kind, entry_of, counted_from}
use Rattle.nb_entry.specs.Laws.{EntryReadsBack, EntrySpellsBack, OneSpelling, EntryLayout}

-- ---- the kind of an entry

-- a byte that is this one
abbrev mark : ℕ → Row (Unit {0})
mark kind = record {
  spelled = λ u. kind ∷ [];
  behind = λ place u. place + 1;
  fits = λ u. Unit {0};
  read = λ R bytes place next. or_place (u8_at bytes place) >>= λ k. allowed (k == kind) place >>= λ is. next tt;
}

mark_row : (kind : ℕ) → kind < 2 ^ 8 → IsRow (mark kind)
mark_row kind small = record {
  long = λ place u fits. refl;
  found = λ R bytes place next y are e.
      let row : IsRow (tested byte (λ k. k == kind)) = tested_row byte (λ k. k == kind) byte_row in
      let a = row.found R bytes place (λ k. next tt) y are e in
      (tt, tt, subst (λ (k : ℕ). StandsAt (k ∷ []) bytes place) (eqb-true a.0 kind a.1.1) a.2, a.3);
  reads = λ R bytes place next u fits s.
      let row : IsRow (tested byte (λ k. k == kind)) = tested_row byte (λ k. k == kind) byte_row in
      row.reads R bytes place (λ k. next tt) kind (small, eq-eqb kind kind refl) s;
}

-- ---- the bad place of a row

-- a row that fails tells a place within the bytes
record Within {A : Type 0} (f : Row A) : Type 1 where
  told : (R : Type 0) (bytes : List ℕ) (place bad : ℕ) (next : A → Result R ℕ) → place ≤ length bytes
      → ((x : A) → f.behind place x ≤ length bytes → next x ≡ Err bad → bad ≤ length bytes)
      → f.read R bytes place next ≡ Err bad → bad ≤ length bytes

err_is : {R : Type 0} (m n : ℕ) → (let first : Result R ℕ = Err m in first ≡ Err n) → m ≡ n
err_is m n e = cc

ok_err : {R F : Type 0} (x : R) (fault : F) → Ok x ≡ Err fault → ⊥
ok_err x fault e = cc

-- a field that was read was there
was_there : {A : Type 0} (x : A) (width place : ℕ) (bytes : List ℕ) → (let read : Result A CutFault = Ok x in IsShortBelow read width bytes place) → width ≤ left_at bytes place
was_there x width place bytes short = which (ltb (left_at bytes place) width) refl
  where
    which : (few : Bool) → ltb (left_at bytes place) width ≡ few → width ≤ left_at bytes place
    which true e = absurd (ok_err x (Short place) ((short (Short place)).1 (refl, ltb-true (left_at bytes place) width e)))
    which false e = ltb-false (left_at bytes place) width e

field_within : {A R : Type 0} (r : Result A CutFault) (width : ℕ) (bytes : List ℕ) (place bad : ℕ) (next : A → Result R ℕ) → IsShortBelow r width bytes place → place ≤ length bytes
    → ((x : A) → place + width ≤ length bytes → next x ≡ Err bad → bad ≤ length bytes)
    → (or_place r >>= next) ≡ Err bad → bad ≤ length bytes
field_within (Ok x) width bytes place bad next short inside each e = each x (omega (arith, inside, was_there x width place bytes short)) e
field_within (Err fault) width bytes place bad next short inside each e =
    let told : place_of fault ≡ place = ap place_of ((short fault).0 refl).0 in
    let same : place_of fault ≡ bad = err_is (place_of fault) bad e in
    omega (arith, told, same, inside)

byte_within : Within byte
byte_within = record { told = λ R bytes place bad next inside each e. field_within (u8_at bytes place) 1 bytes place bad next (field_short bytes place 1).1 inside each e }

number4_within : Within number4
number4_within = record { told = λ R bytes place bad next inside each e. field_within (u32_at bytes place) 4 bytes place bad next (field_short bytes place 4).2 inside each e }

number8_within : Within number8
number8_within = record { told = λ R bytes place bad next inside each e. field_within (u64_at bytes place) 8 bytes place bad next (field_short bytes place 8).3 inside each e }

raw_within : (n : ℕ) → Within (raw n)
raw_within n = record { told = λ R bytes place bad next inside each e. field_within (raw_at n bytes place) n bytes place bad next (field_short bytes place n).0 inside each e }

epoid_within : Within epoid
epoid_within = record {
  told = λ R bytes place bad next inside each e.
      field_within (raw_at 16 bytes place) 16 bytes place bad (λ x. next (epoid_of x)) (field_short bytes place 16).0 inside (λ x h is. each (epoid_of x) h is) e;
}

-- a test tells the place of its field
test_within : {R : Type 0} (test : Bool) (bytes : List ℕ) (place bad : ℕ) (next : Result R ℕ) → place ≤ length bytes → (next ≡ Err bad → bad ≤ length bytes)
    → (allowed test place >>= λ is. next) ≡ Err bad → bad ≤ length bytes
test_within true bytes place bad next inside each e = each e
test_within false bytes place bad next inside each e = let same : place ≡ bad = err_is place bad e in omega (arith, same, inside)

tested_within : {A : Type 0} {f : Row A} (test : A → Bool) → Within f → Within (tested f test)
tested_within test within = record {
  told = λ R bytes place bad next inside each e.
      within.told R bytes place bad (λ x. allowed (test x) place >>= λ is. next x) inside (λ x h is. test_within (test x) bytes place bad (next x) inside (each x h) is) e;
}

mark_within : (kind : ℕ) → Within (mark kind)
mark_within kind = record {
  told = λ R bytes place bad next inside each e.
      let within : Within (tested byte (λ k. k == kind)) = tested_within (λ k. k == kind) byte_within in
      within.told R bytes place bad (λ k. next tt) inside (λ k h is. each tt h is) e;
}

and_within : {A B : Type 0} {f : Row A} {g : Row B} → Within f → Within g → Within (f & g)
and_within {f = f} {g = g} first second = record {
  told = λ R bytes place bad next inside each e.
      first.told R bytes place bad (λ x. g.read R bytes (f.behind place x) (λ y. next (x, y))) inside
      (λ x h is. second.told R bytes (f.behind place x) bad (λ y. next (x, y)) h (λ y there that. each (x, y) there that) is) e;
}

-- ---- entries of one kind

-- an entry of one kind as a row, of which the entry is made
record Kind (kind : ℕ) (fields_of : List ℕ → Result Entry ℕ) : Type 1 where
  Parts : Type 0
  row : Row Parts
  is_row : IsRow row
  within : Within row
  made : Parts → Entry
  read_so : (bytes : List ℕ) → row.read Entry bytes 0 (λ p. Ok (made p)) ≡ (or_place (u8_at bytes 0) >>= λ k. allowed (k == kind) 0 >>= λ is. fields_of bytes)
  spelled_so : (p : Parts) → row.spelled p ≡ entry_bytes (made p)
  fits_so : (p : Parts) → row.fits p → IsEntry (made p)
  picked : (bytes : List ℕ) → entry_of_kind kind bytes ≡ fields_of bytes
  wide : (p : Parts) → row.behind 0 p ≡ bytes_of_kind (made p)

-- behind its kind the row is read as its fields
at_kind : {kind : ℕ} {fields_of : List ℕ → Result Entry ℕ} (K : Kind kind fields_of) (bytes : List ℕ) → u8_at bytes 0 ≡ Ok kind
    → K.row.read Entry bytes 0 (λ p. Ok (K.made p)) ≡ fields_of bytes
at_kind {kind = kind} K bytes is = K.read_so bytes ∙ rw (is, eq-eqb kind kind refl) refl

kind_found : {kind : ℕ} {fields_of : List ℕ → Result Entry ℕ} (K : Kind kind fields_of) (bytes : List ℕ) (e : Entry) → AreBytes bytes → u8_at bytes 0 ≡ Ok kind → fields_of bytes ≡ Ok e
    → IsEntry e × StandsAt (entry_bytes e) bytes 0
kind_found K bytes e are is read =
    let a = K.is_row.found Entry bytes 0 (λ p. Ok (K.made p)) e are (at_kind K bytes is ∙ read) in
    subst (λ (x : Entry). IsEntry x × StandsAt (entry_bytes x) bytes 0) (ok_is (K.made a.0) e a.3) (K.fits_so a.0 a.1, subst (λ (s : List ℕ). StandsAt s bytes 0) (K.spelled_so a.0) a.2)

kind_within : {kind : ℕ} {fields_of : List ℕ → Result Entry ℕ} (K : Kind kind fields_of) (bytes : List ℕ) (bad : ℕ) → u8_at bytes 0 ≡ Ok kind → fields_of bytes ≡ Err bad → bad ≤ length bytes
kind_within K bytes bad is read = K.within.told Entry bytes 0 bad (λ p. Ok (K.made p)) (omega arith) (λ p h e. absurd (ok_err (K.made p) bad e)) (at_kind K bytes is ∙ read)

came : (kind : ℕ) (r : Result ℕ CutFault) (fields : Result Entry ℕ) (e : Entry) → (or_place r >>= λ k. allowed (k == kind) 0 >>= λ is. fields) ≡ Ok e → (r ≡ Ok kind) × (fields ≡ Ok e)
came kind (Ok k) fields e is = let t = allowed_found (k == kind) 0 fields e is in (ap Ok (eqb-true k kind t.0), t.1)
came kind (Err fault) fields e is = absurd cc

kind_reads : {kind : ℕ} {fields_of : List ℕ → Result Entry ℕ} (K : Kind kind fields_of) (bytes : List ℕ) (p : K.Parts) → K.row.fits p → StandsAt (entry_bytes (K.made p)) bytes 0
    → (u8_at bytes 0 ≡ Ok kind) × (fields_of bytes ≡ Ok (K.made p))
kind_reads {kind = kind} {fields_of = fields_of} K bytes p fits s =
    came kind (u8_at bytes 0) (fields_of bytes) (K.made p)
    (sym (K.read_so bytes) ∙ K.is_row.reads Entry bytes 0 (λ q. Ok (K.made q)) p fits (subst (λ (t : List ℕ). StandsAt t bytes 0) (sym (K.spelled_so p)) s))

-- ---- roles and codes

role_is : (role : ℕ) → is_role role ≡ true → IsRole role
role_is role e = grind (arith, eqb-true)

role_tested : (role : ℕ) → IsRole role → (role < 2 ^ 8) × (is_role role ≡ true)
role_tested role (inl e) = (omega (arith, e), rw e refl)
role_tested role (inr e) = (omega (arith, e), rw e refl)

code_is : (code : ℕ) → is_reason code ≡ true → IsReason code
code_is code e = grind (arith, leb-true)

code_tested : (code : ℕ) → IsReason code → (code < 2 ^ 8) × (is_reason code ≡ true)
code_tested code is = (omega (arith, is.1), rw (le-leb FIRST_REASON code is.0, le-leb code LAST_REASON is.1) refl)

-- ---- the five kinds

abbrev enrol : Kind ENROL_ENTRY enrol_of
unfolding entry_bytes enrol_of
enrol = record {
  Parts = ((((Unit {0} × ℕ) × ℕ) × ℕ) × ℕ) × List ℕ;
  row = mark ENROL_ENTRY & number4 & tested byte is_role & number4 & number8 & raw 32;
  is_row = and_row (and_row (and_row (and_row (and_row (mark_row ENROL_ENTRY (omega arith)) number4_row) (tested_row byte is_role byte_row)) number4_row) number8_row) (raw_row 32);
  within = and_within (and_within (and_within (and_within (and_within (mark_within ENROL_ENTRY) number4_within) (tested_within is_role byte_within)) number4_within) number8_within) (raw_within 32);
  made = λ p. Enrol (record { 0 = p.0.0.0.0.1 }) p.0.0.0.1 (record { 0 = p.0.0.1 }) p.0.1 p.1;
  read_so = λ bytes. refl;
  spelled_so = λ p. refl;
  picked = λ bytes. refl;
  wide = λ p. refl;
  fits_so = λ p f. (f.0.0.0.0.1, role_is p.0.0.0.1 f.0.0.0.1.1, f.0.0.1, f.0.1, f.1);
}

abbrev fund : Kind FUND_ENTRY fund_of
unfolding entry_bytes fund_of
fund = record {
  Parts = ((Unit {0} × ℕ) × ℕ) × List ℕ;
  row = mark FUND_ENTRY & number4 & number8 & raw 16;
  is_row = and_row (and_row (and_row (mark_row FUND_ENTRY (omega arith)) number4_row) number8_row) (raw_row 16);
  within = and_within (and_within (and_within (mark_within FUND_ENTRY) number4_within) number8_within) (raw_within 16);
  made = λ p. Fund (record { 0 = p.0.0.1 }) p.0.1 p.1;
  read_so = λ bytes. refl;
  spelled_so = λ p. refl;
  picked = λ bytes. refl;
  wide = λ p. refl;
  fits_so = λ p f. (f.0.0.1, f.0.1, f.1);
}

-- what a payment and a refusal say first
abbrev Order : Type 0
Order = (((((Unit {0} × List ℕ) × Epoid) × ℕ) × ℕ) × ℕ) × ℕ

abbrev order_row : ℕ → Row Order
order_row kind = mark kind & raw 32 & epoid & number4 & number4 & number4 & number8

is_order_row : (kind : ℕ) → kind < 2 ^ 8 → IsRow (order_row kind)
is_order_row kind small = and_row (and_row (and_row (and_row (and_row (and_row (mark_row kind small) (raw_row 32)) epoid_row) number4_row) number4_row) number4_row) number8_row

order_within : (kind : ℕ) → Within (order_row kind)
order_within kind = and_within (and_within (and_within (and_within (and_within (and_within (mark_within kind) (raw_within 32)) epoid_within) number4_within) number4_within) number4_within) number8_within

-- the fields that both have are read one behind the other
behind_terms : {A B C : Type 0} (r : Result A ℕ) (f : A → Result B ℕ) (g : B → Result C ℕ) (h : A → Result C ℕ) → ((x : A) → (f x >>= g) ≡ h x) → ((r >>= f) >>= g) ≡ (r >>= h)
behind_terms (Ok x) f g h same = same x
behind_terms (Err fault) f g h same = refl

under : {A B : Type 0} (r : Result A ℕ) (f g : A → Result B ℕ) → ((x : A) → f x ≡ g x) → (r >>= f) ≡ (r >>= g)
under (Ok x) f g same = same x
under (Err fault) f g same = refl

terms_then : (bytes : List ℕ) (next : OrderTerms → Result Entry ℕ) → (terms_of bytes >>= next)
    ≡ (or_place (raw_at 32 bytes 1) >>= λ digest. or_place (raw_at 16 bytes 33) >>= λ order. or_place (u32_at bytes 49) >>= λ consumer. or_place (u32_at bytes 53) >>= λ merchant.
    or_place (u32_at bytes 57) >>= λ product. or_place (u64_at bytes 61) >>= λ price.
    next (record { digest = digest; epoid = epoid_of order; consumer = record { 0 = consumer }; merchant = record { 0 = merchant }; product = product; price = record { 0 = price } }))
unfolding terms_of
terms_then bytes next =
    behind_terms (or_place (raw_at 32 bytes 1)) _ next _ (λ digest.
    behind_terms (or_place (raw_at 16 bytes 33)) _ next _ (λ order.
    behind_terms (or_place (u32_at bytes 49)) _ next _ (λ consumer.
    behind_terms (or_place (u32_at bytes 53)) _ next _ (λ merchant.
    behind_terms (or_place (u32_at bytes 57)) _ next _ (λ product.
    behind_terms (or_place (u64_at bytes 61)) _ next _ (λ price. refl))))))

abbrev paid : Kind PAID_ENTRY paid_of
unfolding entry_bytes paid_of
paid = record {
  Parts = (((Order × ℕ) × ℕ) × ℕ) × List ℕ;
  row = order_row PAID_ENTRY & number4 & number4 & number8 & raw 32;
  is_row = and_row (and_row (and_row (and_row (is_order_row PAID_ENTRY (omega arith)) number4_row) number4_row) number8_row) (raw_row 32);
  within = and_within (and_within (and_within (and_within (order_within PAID_ENTRY) number4_within) number4_within) number8_within) (raw_within 32);
  made = λ p.
      let o = p.0.0.0.0 in
      Paid o.0.0.0.0.0.1 o.0.0.0.0.1 (record { 0 = o.0.0.0.1 }) (record { 0 = o.0.0.1 }) o.0.1 (record { 0 = o.1 }) (record { 0 = p.0.0.0.1 }) (record { 0 = p.0.0.1 }) p.0.1 p.1;
  read_so = λ bytes. under (or_place (u8_at bytes 0)) _ _ (λ k. under (allowed (k == PAID_ENTRY) 0) _ _ (λ is. sym (terms_then bytes _)));
  spelled_so = λ p. refl;
  picked = λ bytes. refl;
  wide = λ p. refl;
  fits_so = λ p f.
      let o = f.0.0.0.0 in
      (o.0.0.0.0.0.1, o.0.0.0.0.1, o.0.0.0.1, o.0.0.1, o.0.1, o.1, f.0.0.0.1, f.0.0.1, f.0.1, f.1);
}

abbrev charged : Kind CHARGED_ENTRY charged_of
unfolding entry_bytes charged_of
charged = record {
  Parts = ((((Order × ℕ) × ℕ) × ℕ) × ℕ) × List ℕ;
  row = order_row CHARGED_ENTRY & number8 & number4 & number4 & number8 & raw 32;
  is_row = and_row (and_row (and_row (and_row (and_row (is_order_row CHARGED_ENTRY (omega arith)) number8_row) number4_row) number4_row) number8_row) (raw_row 32);
  within = and_within (and_within (and_within (and_within (and_within (order_within CHARGED_ENTRY) number8_within) number4_within) number4_within) number8_within) (raw_within 32);
  made = λ p.
      let o = p.0.0.0.0.0 in
      Charged o.0.0.0.0.0.1 o.0.0.0.0.1 (record { 0 = o.0.0.0.1 }) (record { 0 = o.0.0.1 }) o.0.1 (record { 0 = o.1 }) p.0.0.0.0.1 (record { 0 = p.0.0.0.1 }) (record { 0 = p.0.0.1 }) p.0.1 p.1;
  read_so = λ bytes. under (or_place (u8_at bytes 0)) _ _ (λ k. under (allowed (k == CHARGED_ENTRY) 0) _ _ (λ is. sym (terms_then bytes _)));
  spelled_so = λ p. refl;
  picked = λ bytes. refl;
  wide = λ p. refl;
  fits_so = λ p f.
      let o = f.0.0.0.0.0 in
      (o.0.0.0.0.0.1, o.0.0.0.0.1, o.0.0.0.1, o.0.0.1, o.0.1, o.1, f.0.0.0.0.1, f.0.0.0.1, f.0.0.1, f.0.1, f.1);
}

abbrev refused : Kind REFUSED_ENTRY refused_of
unfolding entry_bytes refused_of
refused = record {
  Parts = (((Order × ℕ) × ℕ) × ℕ) × ℕ;
  row = order_row REFUSED_ENTRY & tested byte is_reason & number8 & number8 & number8;
  is_row = and_row (and_row (and_row (and_row (is_order_row REFUSED_ENTRY (omega arith)) (tested_row byte is_reason byte_row)) number8_row) number8_row) number8_row;
  within = and_within (and_within (and_within (and_within (order_within REFUSED_ENTRY) (tested_within is_reason byte_within)) number8_within) number8_within) number8_within;
  made = λ p.
      let o = p.0.0.0.0 in
      Refused o.0.0.0.0.0.1 o.0.0.0.0.1 (record { 0 = o.0.0.0.1 }) (record { 0 = o.0.0.1 }) o.0.1 (record { 0 = o.1 }) p.0.0.0.1 p.0.0.1 p.0.1 p.1;
  read_so = λ bytes. under (or_place (u8_at bytes 0)) _ _ (λ k. under (allowed (k == REFUSED_ENTRY) 0) _ _ (λ is. sym (terms_then bytes _)));
  spelled_so = λ p. refl;
  picked = λ bytes. refl;
  wide = λ p. refl;
  fits_so = λ p f.
      let o = f.0.0.0.0 in
      (o.0.0.0.0.0.1, o.0.0.0.0.1, o.0.0.0.1, o.0.0.1, o.0.1, o.1, code_is p.0.0.0.1 f.0.0.0.1.1, f.0.0.1, f.0.1, f.1);
}

-- ---- an entry of any kind

-- one of two readings, by a test
either : {P : Type 0} (test : Bool) (a b y : Result Entry ℕ) → cond test a b ≡ y → (test ≡ true → a ≡ y → P) → (b ≡ y → P) → P
either true a b y e first second = first refl e
either false a b y e first second = second e

-- what is read behind a kind is read as that of one of the five, or tells the place of the kind
by_kind : {P : Type 0} (k : ℕ) (bytes : List ℕ) (y : Result Entry ℕ) → entry_of_kind k bytes ≡ y
    → ((kind : ℕ) (fields_of : List ℕ → Result Entry ℕ) → Kind kind fields_of → k ≡ kind → fields_of bytes ≡ y → P)
    → ((let none : Result Entry ℕ = Err 0 in none ≡ y) → P) → P
by_kind k bytes y e one none =
    either (k == ENROL_ENTRY) _ _ y e (λ is. one ENROL_ENTRY enrol_of enrol (eqb-true k ENROL_ENTRY is))
    (λ a. either (k == FUND_ENTRY) _ _ y a (λ is. one FUND_ENTRY fund_of fund (eqb-true k FUND_ENTRY is))
    (λ b. either (k == PAID_ENTRY) _ _ y b (λ is. one PAID_ENTRY paid_of paid (eqb-true k PAID_ENTRY is))
    (λ c. either (k == REFUSED_ENTRY) _ _ y c (λ is. one REFUSED_ENTRY refused_of refused (eqb-true k REFUSED_ENTRY is))
    (λ d. either (k == CHARGED_ENTRY) _ _ y d (λ is. one CHARGED_ENTRY charged_of charged (eqb-true k CHARGED_ENTRY is)) none))))

-- an entry within its limits is made of a row of one of the five
by_entry : (P : Entry → Type 0) → ((kind : ℕ) (fields_of : List ℕ → Result Entry ℕ) (K : Kind kind fields_of) (p : K.Parts) → K.row.fits p → P (K.made p))
    → (e : Entry) → IsEntry e → P e
unfolding enrol fund paid charged refused
by_entry P one (Enrol id role acct nonce key) is =
    one ENROL_ENTRY enrol_of enrol (((((tt, id.0), role), acct.0), nonce), key) (((((tt, is.0), role_tested role is.1), is.2), is.3), is.4)
by_entry P one (Fund acct amount reference) is = one FUND_ENTRY fund_of fund (((tt, acct.0), amount), reference) (((tt, is.0), is.1), is.2)
by_entry P one (Paid digest order consumer merchant product price cacct macct moment key) is =
    one PAID_ENTRY paid_of paid
    ((((((((((tt, digest), order), consumer.0), merchant.0), product), price.0), cacct.0), macct.0), moment), key)
    ((((((((((tt, is.0), is.1), is.2), is.3), is.4), is.5), is.6), is.7), is.8), is.9)
by_entry P one (Charged digest order consumer merchant product price fee cacct macct moment key) is =
    one CHARGED_ENTRY charged_of charged
    (((((((((((tt, digest), order), consumer.0), merchant.0), product), price.0), fee), cacct.0), macct.0), moment), key)
    (((((((((((tt, is.0), is.1), is.2), is.3), is.4), is.5), is.6), is.7), is.8), is.9), is.10)
by_entry P one (Refused digest order consumer merchant product price code a b moment) is =
    one REFUSED_ENTRY refused_of refused
    ((((((((((tt, digest), order), consumer.0), merchant.0), product), price.0), code), a), b), moment)
    ((((((((((tt, is.0), is.1), is.2), is.3), is.4), is.5), code_tested code is.6), is.7), is.8), is.9)

-- what is read at the front is within its limits, and its spelling stands there
pub front_found : (bytes : List ℕ) (e : Entry) → AreBytes bytes → entry_of bytes ≡ Ok e → IsEntry e × StandsAt (entry_bytes e) bytes 0
unfolding entry_of
front_found bytes e are is =
    let k = read_found (u8_at bytes 0) (λ kind. entry_of_kind kind bytes) e is in
    by_kind k.0 bytes (Ok e) k.2 (λ kind fields_of K same read. kind_found K bytes e are (k.1 ∙ ap Ok same) read) (λ none. absurd cc)

-- what stands at the front is read
front_reads : (bytes : List ℕ) (e : Entry) → IsEntry e → StandsAt (entry_bytes e) bytes 0 → entry_of bytes ≡ Ok e
unfolding entry_of
front_reads bytes =
    by_entry (λ e. StandsAt (entry_bytes e) bytes 0 → entry_of bytes ≡ Ok e) (λ kind fields_of K p fits s. let r = kind_reads K bytes p fits s in rw r.0 (K.picked bytes ∙ r.1))

-- the bad place of what is no entry is within the bytes
pub front_within : (bytes : List ℕ) (bad : ℕ) → entry_of bytes ≡ Err bad → bad ≤ length bytes
unfolding entry_of
front_within bytes bad e = which (u8_at bytes 0) refl e
  where
    which : (r : Result ℕ CutFault) → u8_at bytes 0 ≡ r → (or_place r >>= λ kind. entry_of_kind kind bytes) ≡ Err bad → bad ≤ length bytes
    which (Ok k) is e =
        by_kind k bytes (Err bad) e (λ kind fields_of K same read. kind_within K bytes bad (is ∙ ap Ok same) read) (λ none. let same : 0 ≡ bad = err_is 0 bad none in omega (arith, same))
    which (Err fault) is e =
        let told : place_of fault ≡ 0 = ap place_of (((field_short bytes 0 1).1 fault).0 is).0 in
        let same : place_of fault ≡ bad = err_is (place_of fault) bad e in
        omega (arith, told, same)

-- ---- an entry at a place

counted_ok : (place : ℕ) (r : Result Entry ℕ) (e : Entry) → counted_from place r ≡ Ok e → r ≡ Ok e
counted_ok place (Ok d) e is = is
counted_ok place (Err bad) e is = absurd cc

pub entry_spells_back : EntrySpellsBack
entry_spells_back bytes place e are is = front_found (drop place bytes) e (AreBytes-drop place bytes are) (counted_ok place (entry_of (drop place bytes)) e is)

pub entry_reads_back : EntryReadsBack
entry_reads_back bytes place e is s = ap (counted_from place) (front_reads (drop place bytes) e is s)

-- ---- lengths

pub entry_long : (e : Entry) → IsEntry e → length (entry_bytes e) ≡ bytes_of_kind e
entry_long = by_entry (λ e. length (entry_bytes e) ≡ bytes_of_kind e) (λ kind fields_of K p fits. omega (arith, K.is_row.long 0 p fits, ap length (K.spelled_so p), K.wide p))

-- an entry that stands at the front ends within the bytes
pub entry_ends : (bytes : List ℕ) (e : Entry) → IsEntry e → StandsAt (entry_bytes e) bytes 0 → bytes_of_kind e ≤ length bytes
entry_ends bytes e is s = omega (arith, entry_long e is, ap length s, length-take (length (entry_bytes e)) bytes)

-- ---- one spelling

some_bytes : (e : Entry) → (1 ≤ bytes_of_kind e) × (bytes_of_kind e ≤ MAX_ENTRY)
some_bytes (Enrol id role acct nonce key) = (omega arith, omega arith)
some_bytes (Fund acct amount reference) = (omega arith, omega arith)
some_bytes (Paid digest order consumer merchant product price cacct macct moment key) = (omega arith, omega arith)
some_bytes (Charged digest order consumer merchant product price fee cacct macct moment key) = (omega arith, omega arith)
some_bytes (Refused digest order consumer merchant product price code a b moment) = (omega arith, omega arith)

one_front : (d e : Entry) (rest more : List ℕ) → IsEntry d → IsEntry e → entry_bytes d ++ rest ≡ entry_bytes e ++ more → (d ≡ e) × (rest ≡ more)
one_front d e rest more fits too same =
    let first = front_reads (entry_bytes d ++ rest) d fits (take_at (entry_bytes d) rest (length (entry_bytes d)) refl) in
    let second = front_reads (entry_bytes e ++ more) e too (take_at (entry_bytes e) more (length (entry_bytes e)) refl) in
    let one : d ≡ e = ok_is d e (sym first ∙ ap entry_of same ∙ second) in (
      one,
      sym (drop_at (entry_bytes d) rest (length (entry_bytes d)) refl) ∙ ap (drop (length (entry_bytes d))) same
          ∙ ap (λ (x : Entry). drop (length (entry_bytes x)) (entry_bytes e ++ more)) one ∙ drop_at (entry_bytes e) more (length (entry_bytes e)) refl,
    )

-- bytes of an entry are not no bytes
not_none : (e : Entry) (rest : List ℕ) → IsEntry e → (let none : List ℕ = [] in none ≡ entry_bytes e ++ rest) → ⊥
not_none e rest is same = omega (arith, ap length same, length-append (entry_bytes e) rest, entry_long e is, some_bytes e)

one_list : (ds es : List Entry) → AllByRecursion IsEntry ds → AllByRecursion IsEntry es → entries_bytes ds ≡ entries_bytes es → ds ≡ es
one_list [] [] fits too same = refl
one_list [] (e ∷ es) fits too same = absurd (not_none e (entries_bytes es) too.0 same)
one_list (d ∷ ds) [] fits too same = absurd (not_none d (entries_bytes ds) fits.0 (sym same))
one_list (d ∷ ds) (e ∷ es) fits too same =
    let first = one_front d e (entries_bytes ds) (entries_bytes es) fits.0 too.0 same in
    rw (first.0, one_list ds es fits.1 too.1 first.1) refl

pub one_spelling : OneSpelling
one_spelling = (one_front, λ item ds es first second. one_list ds es first.each second.each (sym first.bytes ∙ second.bytes))

pub entry_layout : EntryLayout
entry_layout = ((λ e is. (entry_long e is, omega (arith, entry_long e is, some_bytes e))), refl, refl, refl)

-- ---- what a reader of an entry gave

pub entry_ok : (r : Result Entry EntryFault) (read : Result Entry ℕ) (e : Entry) → ReadsEntry r read → read ≡ Ok e → r ≡ Ok e
entry_ok (Ok d) read e is same = ap Ok (ok_is d e (sym is ∙ same))
entry_ok (Err fault) read e is same = absurd cc

pub err_within : (r : Result Entry Malformed) (read : Result Entry ℕ) (n : ℕ) → Reads r read → ((bad : ℕ) → read ≡ Err bad → bad ≤ n) → IfErr r (λ malformed. malformed.place ≤ n)
err_within (Ok e) read n is each = tt
err_within (Err malformed) read n is each = each malformed.place is

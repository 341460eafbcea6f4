-- Items as rows of fields.
use Rattle.std.proofs.Common.{◌≡◌, ℕ, ◌+◌, ◌<◌, ◌^◌, Bool, true, false, ◌==◌, cond, List, [], ◌∷◌, Result, Ok, Err, refl, sym, ap, subst, ◌∙◌, arith}
use Rattle.std.proofs.lemmas.Bool.{eqb-true, eq-eqb}
use Rattle.nb_units.specs.declared.cut.CutFault.{CutFault}
use Rattle.nb_units.specs.declared.epoid.Epoid.{Epoid}
use Rattle.nb_units.specs.declared.limits.TheConstants.{MAX_ORDER}
use Rattle.nb_units.specs.Fields.{◌>>=◌, u8_at, or_place, allowed}
use Rattle.nb_units.specs.Frames.{AreBytes}
use Rattle.nb_units.specs.Laws.{StandsAt}
use Rattle.nb_units.proofs.Rows.{Row, IsRow, read_found, allowed_found, ◌&◌, and_row, tested, tested_row, byte, byte_row, number4, number4_row, number8, number8_row, epoid, epoid_row, raw, raw_row, text, text_row, whole, whole_found, whole_reads, ok_is}
use Rattle.nb_stall.specs.declared.limits.TheConstants.{QUOTED_ITEM, DELIVERED_ITEM, ENDORSED_ITEM, SETTLED_ITEM, MAX_PART}
use Rattle.nb_stall.specs.declared.item.Item.{Item}
use Rattle.nb_stall.specs.declared.item.Item.TheVariants.{Quoted, Delivered, Endorsed, Settled}
use Rattle.nb_stall.specs.Spelling.{IsItem, item_bytes}
use Rattle.nb_stall.specs.Reading.{purchase_named, quoted_of, delivered_of, endorsed_of, settled_of, item_of_kind, item_of}
use Rattle.nb_stall.specs.Laws.{ItemReadsBack, ItemSpellsBack, OneItem}

-- ---- the kind of an item

-- a byte that is this one
abbrev mark : ℕ → Row (Unit {0})
mark kind = record {
  spelled = λ u. kind ∷ [];
  behind = λ place u. place + 1;
  fits = λ u. Unit {0};
  read = λ R bytes place next. or_place (u8_at bytes place) >>= λ k. allowed (k == kind) place >>= λ is. next tt;
}

mark_row : (kind : ℕ) → kind < 2 ^ 8 → IsRow (mark kind)
mark_row kind small = record {
  long = λ place u fits. refl;
  found = λ R bytes place next y are e.
      let row : IsRow (tested byte (λ k. k == kind)) = tested_row byte (λ k. k == kind) byte_row in
      let a = row.found R bytes place (λ k. next tt) y are e in
      (tt, tt, subst (λ (k : ℕ). StandsAt (k ∷ []) bytes place) (eqb-true a.0 kind a.1.1) a.2, a.3);
  reads = λ R bytes place next u fits s.
      let row : IsRow (tested byte (λ k. k == kind)) = tested_row byte (λ k. k == kind) byte_row in
      row.reads R bytes place (λ k. next tt) kind (small, eq-eqb kind kind refl) s;
}

-- ---- items of one kind

-- an item of one kind as a row, of which the item is made
record Kind (kind : ℕ) (fields_of : List ℕ → Result Item ℕ) : Type 1 where
  Parts : Type 0
  row : Row Parts
  is_row : IsRow row
  made : Parts → Item
  read_so : (bytes : List ℕ) → whole row Item bytes (λ p. Ok (made p)) ≡ (or_place (u8_at bytes 0) >>= λ k. allowed (k == kind) 0 >>= λ is. fields_of bytes)
  spelled_so : (p : Parts) → row.spelled p ≡ item_bytes (made p)
  fits_so : (p : Parts) → row.fits p → IsItem (made p)
  picked : (bytes : List ℕ) → item_of_kind kind bytes ≡ fields_of bytes

kind_found : {kind : ℕ} {fields_of : List ℕ → Result Item ℕ} (K : Kind kind fields_of) (bytes : List ℕ) (x : Item) → AreBytes bytes → u8_at bytes 0 ≡ Ok kind → fields_of bytes ≡ Ok x
    → IsItem x × (bytes ≡ item_bytes x)
kind_found {kind = kind} K bytes x are is read =
    let w = whole_found K.row K.is_row Item bytes (λ p. Ok (K.made p)) x are (K.read_so bytes ∙ rw (is, eq-eqb kind kind refl) read) in
    subst (λ (y : Item). IsItem y × (bytes ≡ item_bytes y)) (ok_is (K.made w.0) x w.3) (K.fits_so w.0 w.1, w.2 ∙ K.spelled_so w.0)

came : (kind : ℕ) (r : Result ℕ CutFault) (fields : Result Item ℕ) (x : Item) → (or_place r >>= λ k. allowed (k == kind) 0 >>= λ is. fields) ≡ Ok x → (r ≡ Ok kind) × (fields ≡ Ok x)
came kind (Ok k) fields x is = let t = allowed_found (k == kind) 0 fields x is in (ap Ok (eqb-true k kind t.0), t.1)
came kind (Err fault) fields x is = absurd cc

kind_reads : {kind : ℕ} {fields_of : List ℕ → Result Item ℕ} (K : Kind kind fields_of) (p : K.Parts) → K.row.fits p
    → (u8_at (item_bytes (K.made p)) 0 ≡ Ok kind) × (fields_of (item_bytes (K.made p)) ≡ Ok (K.made p))
kind_reads {kind = kind} {fields_of = fields_of} K p fits =
    let bytes = item_bytes (K.made p) in
    came kind (u8_at bytes 0) (fields_of bytes) (K.made p) (sym (K.read_so bytes) ∙ whole_reads K.row K.is_row Item bytes (λ q. Ok (K.made q)) p fits (sym (K.spelled_so p)))

abbrev quoted : Kind QUOTED_ITEM quoted_of
unfolding item_bytes quoted_of
quoted = record {
  Parts = ((((Unit {0} × ℕ) × ℕ) × ℕ) × ℕ) × List ℕ;
  row = mark QUOTED_ITEM & number4 & number8 & number4 & number8 & raw 32;
  is_row = and_row (and_row (and_row (and_row (and_row (mark_row QUOTED_ITEM (omega arith)) number4_row) number8_row) number4_row) number8_row) (raw_row 32);
  made = λ p. Quoted (purchase_named p.0.0.0.0.1 p.0.0.0.1) p.0.0.1 (record { 0 = p.0.1 }) p.1;
  read_so = λ bytes. refl;
  spelled_so = λ p. refl;
  fits_so = λ p f. ((f.0.0.0.0.1, f.0.0.0.1), f.0.0.1, f.0.1, f.1);
  picked = λ bytes. refl;
}

abbrev delivered : Kind DELIVERED_ITEM delivered_of
unfolding item_bytes delivered_of
delivered = record {
  Parts = (((Unit {0} × ℕ) × ℕ) × Epoid) × List ℕ;
  row = mark DELIVERED_ITEM & number4 & number8 & epoid & raw 32;
  is_row = and_row (and_row (and_row (and_row (mark_row DELIVERED_ITEM (omega arith)) number4_row) number8_row) epoid_row) (raw_row 32);
  made = λ p. Delivered (purchase_named p.0.0.0.1 p.0.0.1) p.0.1 p.1;
  read_so = λ bytes. refl;
  spelled_so = λ p. refl;
  fits_so = λ p f. ((f.0.0.0.1, f.0.0.1), f.0.1, f.1);
  picked = λ bytes. refl;
}

abbrev endorsed : Kind ENDORSED_ITEM endorsed_of
unfolding item_bytes endorsed_of
endorsed = record {
  Parts = ((Unit {0} × ℕ) × ℕ) × List ℕ;
  row = mark ENDORSED_ITEM & number4 & number8 & text MAX_ORDER;
  is_row = and_row (and_row (and_row (mark_row ENDORSED_ITEM (omega arith)) number4_row) number8_row) (text_row MAX_ORDER (omega arith));
  made = λ p. Endorsed (purchase_named p.0.0.1 p.0.1) p.1;
  read_so = λ bytes. refl;
  spelled_so = λ p. refl;
  fits_so = λ p f. ((f.0.0.1, f.0.1), f.1);
  picked = λ bytes. refl;
}

abbrev settled : Kind SETTLED_ITEM settled_of
unfolding item_bytes settled_of
settled = record {
  Parts = ((Unit {0} × ℕ) × ℕ) × List ℕ;
  row = mark SETTLED_ITEM & number4 & number8 & text MAX_PART;
  is_row = and_row (and_row (and_row (mark_row SETTLED_ITEM (omega arith)) number4_row) number8_row) (text_row MAX_PART (omega arith));
  made = λ p. Settled (purchase_named p.0.0.1 p.0.1) p.1;
  read_so = λ bytes. refl;
  spelled_so = λ p. refl;
  fits_so = λ p f. ((f.0.0.1, f.0.1), f.1);
  picked = λ bytes. refl;
}

-- ---- an item of any kind

-- one of two readings, by a test
either : {P : Type 0} (test : Bool) (a b y : Result Item ℕ) → cond test a b ≡ y → (test ≡ true → a ≡ y → P) → (b ≡ y → P) → P
either true a b y e first second = first refl e
either false a b y e first second = second e

-- what is read behind a kind is read as that of one of the four
by_kind : {P : Type 0} (k : ℕ) (bytes : List ℕ) (x : Item) → item_of_kind k bytes ≡ Ok x
    → ((kind : ℕ) (fields_of : List ℕ → Result Item ℕ) → Kind kind fields_of → k ≡ kind → fields_of bytes ≡ Ok x → P) → P
by_kind k bytes x e one =
    either (k == QUOTED_ITEM) _ _ (Ok x) e (λ is. one QUOTED_ITEM quoted_of quoted (eqb-true k QUOTED_ITEM is))
    (λ a. either (k == DELIVERED_ITEM) _ _ (Ok x) a (λ is. one DELIVERED_ITEM delivered_of delivered (eqb-true k DELIVERED_ITEM is))
    (λ b. either (k == ENDORSED_ITEM) _ _ (Ok x) b (λ is. one ENDORSED_ITEM endorsed_of endorsed (eqb-true k ENDORSED_ITEM is))
    (λ c. either (k == SETTLED_ITEM) _ _ (Ok x) c (λ is. one SETTLED_ITEM settled_of settled (eqb-true k SETTLED_ITEM is)) (λ none. absurd cc))))

-- an item within its limits is made of a row of one of the four
by_item : (P : Item → Type 0) → ((kind : ℕ) (fields_of : List ℕ → Result Item ℕ) (K : Kind kind fields_of) (p : K.Parts) → K.row.fits p → P (K.made p))
    → (x : Item) → IsItem x → P x
unfolding quoted delivered endorsed settled
by_item P one (Quoted p product price request) is =
    one QUOTED_ITEM quoted_of quoted (((((tt, p.consumer.0), p.transaction), product), price.0), request) (((((tt, is.0.0), is.0.1), is.1), is.2), is.3)
by_item P one (Delivered p order checksum) is =
    one DELIVERED_ITEM delivered_of delivered ((((tt, p.consumer.0), p.transaction), order), checksum) ((((tt, is.0.0), is.0.1), is.1), is.2)
by_item P one (Endorsed p order) is = one ENDORSED_ITEM endorsed_of endorsed (((tt, p.consumer.0), p.transaction), order) (((tt, is.0.0), is.0.1), is.1)
by_item P one (Settled p part) is = one SETTLED_ITEM settled_of settled (((tt, p.consumer.0), p.transaction), part) (((tt, is.0.0), is.0.1), is.1)

pub item_spells_back : ItemSpellsBack
unfolding item_of
item_spells_back bytes x are is =
    let k = read_found (u8_at bytes 0) (λ kind. item_of_kind kind bytes) x is in
    by_kind k.0 bytes x k.2 (λ kind fields_of K same read. kind_found K bytes x are (k.1 ∙ ap Ok same) read)

pub item_reads_back : ItemReadsBack
unfolding item_of
item_reads_back = by_item (λ x. item_of (item_bytes x) ≡ Ok x) (λ kind fields_of K p fits. let r = kind_reads K p fits in rw r.0 (K.picked (item_bytes (K.made p)) ∙ r.1))

pub one_item : OneItem
one_item a b first second same = ok_is a b (sym (item_reads_back a first) ∙ ap item_of same ∙ item_reads_back b second)

-- Fields in a row. A row is read field by field: what follows is given the value that was read. It is read exactly
-- where its spelling stands, and a list of bytes is read as a whole exactly where it is a spelling.
use Rattle.std.proofs.Common.{◌≡◌, ℕ, ◌+◌, ◌<◌, ◌≤◌, ◌^◌, Bool, true, false, cond, ltb, List, [], ◌∷◌, ◌++◌, length, get_or, take, drop, Result, Ok, Err, refl, ap, sym, subst, ◌∙◌, arith}
use Rattle.std.specs.Int.{w32, w64, from_be_bytes}
use Rattle.std.proofs.lemmas.Bool.{ltb-false, le-ltb}
use Rattle.std.proofs.lemmas.List.{length-append, take-take, drop-drop, drop-take, take_at, drop_at, take_all}
use Rattle.std.proofs.Math.Seq.{take-add}
use Rattle.nb_units.specs.declared.cut.CutFault.{CutFault}
use Rattle.nb_units.specs.declared.epoid.Epoid.{Epoid}
use Rattle.nb_units.specs.Epoid.{IsEpoid, epoid_bytes, epoid_of}
use Rattle.nb_units.specs.declared.malformed.Malformed.{Malformed}
use Rattle.nb_units.specs.Reads.{Reads}
use Rattle.std.specs.Prelude.{IfOk}
use Rattle.nb_units.specs.Fields.{be4, be8, sized, raw_at, u8_at, u32_at, u64_at, bytes_at, done_at, or_place, allowed, ◌>>=◌}
use Rattle.nb_units.specs.Frames.{AreBytes}
use Rattle.nb_units.specs.Laws.{StandsAt}
use Rattle.nb_units.proofs.ByteLists.{AreBytes-drop, AreBytes-take}
use Rattle.nb_units.proofs.FieldLaws.{raw_stands, byte_stands, u32_stands, u64_stands, text_stands, u32_reads, u64_reads, text_reads}
use Rattle.nb_units.proofs.EpoidLaws.{reads_back, spells_back, length-epoid_bytes}

-- a row of fields of a value: its spelling, the place behind it, what has a spelling, and how it is read
pub record Row (A : Type 0) : Type 1 where
  pub spelled : A → List ℕ
  pub behind : ℕ → A → ℕ
  pub fits : A → Type 0
  pub read : (R : Type 0) → List ℕ → ℕ → (A → Result R ℕ) → Result R ℕ

-- a row is read exactly where its spelling stands
pub record IsRow {A : Type 0} (f : Row A) : Type 1 where
  pub long : (place : ℕ) (x : A) → f.fits x → f.behind place x ≡ place + length (f.spelled x)
  pub found : (R : Type 0) (bytes : List ℕ) (place : ℕ) (next : A → Result R ℕ) (y : R) → AreBytes bytes → f.read R bytes place next ≡ Ok y
      → (x : A) × (f.fits x) × (StandsAt (f.spelled x) bytes place) × (next x ≡ Ok y)
  pub reads : (R : Type 0) (bytes : List ℕ) (place : ℕ) (next : A → Result R ℕ) (x : A) → f.fits x → StandsAt (f.spelled x) bytes place
      → f.read R bytes place next ≡ next x

-- ---- one row behind another

-- two spellings that stand one behind the other stand together, and the other way round
joined : (a b bytes : List ℕ) (place : ℕ) → StandsAt a bytes place → StandsAt b bytes (place + length a) → StandsAt (a ++ b) bytes place
joined a b bytes place first second =
    ap (λ (n : ℕ). take n (drop place bytes)) (length-append a b) ∙ take-add (length a) (length b) (drop place bytes) ∙ rw (first, drop-drop (length a) place bytes, second) refl

together : (a b bytes : List ℕ) (place : ℕ) → StandsAt (a ++ b) bytes place → take (length a + length b) (drop place bytes) ≡ a ++ b
together a b bytes place s = ap (λ (n : ℕ). take n (drop place bytes)) (sym (length-append a b)) ∙ s

first_of : (a b bytes : List ℕ) (place : ℕ) → StandsAt (a ++ b) bytes place → StandsAt a bytes place
first_of a b bytes place s =
    sym (take-take (length a) (length a + length b) (drop place bytes) (omega arith)) ∙ ap (take (length a)) (together a b bytes place s) ∙ take_at a b (length a) refl

second_of : (a b bytes : List ℕ) (place : ℕ) → StandsAt (a ++ b) bytes place → StandsAt b bytes (place + length a)
second_of a b bytes place s =
    ap (take (length b)) (sym (drop-drop (length a) place bytes)) ∙ sym (drop-take (length a) (length b) (drop place bytes)) ∙ ap (drop (length a)) (together a b bytes place s) ∙ drop_at a b (length a) refl

-- one row behind another, which may depend on what was read
infixr 10 ◌then◌
abbrev pub ◌then◌ : {A B : Type 0} → Row A → (A → Row B) → Row (A × B)
f then g = record {
  spelled = λ p. f.spelled p.0 ++ (g p.0).spelled p.1;
  behind = λ place p. (g p.0).behind (f.behind place p.0) p.1;
  fits = λ p. f.fits p.0 × (g p.0).fits p.1;
  read = λ R bytes place next. f.read R bytes place (λ x. (g x).read R bytes (f.behind place x) (λ y. next (x, y)));
}

pub then_row : {A B : Type 0} (f : Row A) (g : A → Row B) → IsRow f → ((x : A) → IsRow (g x)) → IsRow (f then g)
then_row f g first second = record {
  long = λ place p fits. omega (arith, (second p.0).long (f.behind place p.0) p.1 fits.1, first.long place p.0 fits.0, length-append (f.spelled p.0) ((g p.0).spelled p.1));
  found = λ R bytes place next y are e.
      let a = first.found R bytes place (λ x. (g x).read R bytes (f.behind place x) (λ z. next (x, z))) y are e in
      let b = (second a.0).found R bytes (f.behind place a.0) (λ z. next (a.0, z)) y are a.3 in
      ((a.0, b.0), (a.1, b.1), joined (f.spelled a.0) ((g a.0).spelled b.0) bytes place a.2 (subst (λ (n : ℕ). StandsAt ((g a.0).spelled b.0) bytes n) (first.long place a.0 a.1) b.2), b.3);
  reads = λ R bytes place next p fits s.
      first.reads R bytes place (λ x. (g x).read R bytes (f.behind place x) (λ z. next (x, z))) p.0 fits.0 (first_of (f.spelled p.0) ((g p.0).spelled p.1) bytes place s)
      ∙ (second p.0).reads R bytes (f.behind place p.0) (λ z. next (p.0, z)) p.1 fits.1
      (subst (λ (n : ℕ). StandsAt ((g p.0).spelled p.1) bytes n) (sym (first.long place p.0 fits.0)) (second_of (f.spelled p.0) ((g p.0).spelled p.1) bytes place s));
}

-- a row whose value has to pass a test
abbrev pub tested : {A : Type 0} → Row A → (A → Bool) → Row A
tested f test = record {
  spelled = f.spelled;
  behind = f.behind;
  fits = λ x. f.fits x × (test x ≡ true);
  read = λ R bytes place next. f.read R bytes place (λ x. allowed (test x) place >>= λ is. next x);
}

pub allowed_found : {R : Type 0} (test : Bool) (place : ℕ) (next : Result R ℕ) (y : R) → (allowed test place >>= λ is. next) ≡ Ok y → (test ≡ true) × (next ≡ Ok y)
allowed_found true place next y e = (refl, e)
allowed_found false place next y e = absurd cc

pub tested_row : {A : Type 0} (f : Row A) (test : A → Bool) → IsRow f → IsRow (tested f test)
tested_row f test row = record {
  long = λ place x fits. row.long place x fits.0;
  found = λ R bytes place next y are e.
      let a = row.found R bytes place (λ x. allowed (test x) place >>= λ is. next x) y are e in
      let b = allowed_found (test a.0) place (next a.0) y a.3 in
      (a.0, (a.1, b.0), a.2, b.1);
  reads = λ R bytes place next x fits s. row.reads R bytes place (λ z. allowed (test z) place >>= λ is. next z) x fits.0 s ∙ rw fits.1 refl;
}

-- ---- single fields

-- a field that is read so
abbrev pub field : {A : Type 0} → (A → List ℕ) → (ℕ → A → ℕ) → (A → Type 0) → (List ℕ → ℕ → Result A CutFault) → Row A
field spelled behind fits at = record { spelled = spelled; behind = behind; fits = fits; read = λ R bytes place next. or_place (at bytes place) >>= next }

pub read_found : {A R : Type 0} (r : Result A CutFault) (next : A → Result R ℕ) (y : R) → (or_place r >>= next) ≡ Ok y → (x : A) × (r ≡ Ok x) × (next x ≡ Ok y)
read_found (Ok x) next y e = (x, refl, e)
read_found (Err fault) next y e = absurd cc

field_row : {A : Type 0} (spelled : A → List ℕ) (behind : ℕ → A → ℕ) (fits : A → Type 0) (at : List ℕ → ℕ → Result A CutFault)
    → ((place : ℕ) (x : A) → fits x → behind place x ≡ place + length (spelled x))
    → ((bytes : List ℕ) (place : ℕ) (x : A) → AreBytes bytes → at bytes place ≡ Ok x → fits x × StandsAt (spelled x) bytes place)
    → ((bytes : List ℕ) (place : ℕ) (x : A) → fits x → StandsAt (spelled x) bytes place → at bytes place ≡ Ok x)
    → IsRow (field spelled behind fits at)
field_row spelled behind fits at long found reads = record {
  long = long;
  found = λ R bytes place next y are e.
      let a = read_found (at bytes place) next y e in
      let b = found bytes place a.0 are a.1 in
      (a.0, b.0, b.1, a.2);
  reads = λ R bytes place next x is s. rw (reads bytes place x is s) refl;
}

-- a byte
abbrev pub byte : Row ℕ
byte = field (λ v. v ∷ []) (λ place v. place + 1) (λ v. v < 2 ^ 8) u8_at

-- a number of four bytes, of eight
abbrev pub number4 : Row ℕ
number4 = field be4 (λ place v. place + 4) (λ v. v < 2 ^ 32) u32_at

abbrev pub number8 : Row ℕ
number8 = field be8 (λ place v. place + 8) (λ v. v < 2 ^ 64) u64_at

-- so many bytes as they stand
abbrev pub raw : ℕ → Row (List ℕ)
raw n = field (λ x. x) (λ place x. place + n) (λ x. length x ≡ n) (raw_at n)

-- a text of at most so many bytes
abbrev pub text : ℕ → Row (List ℕ)
text max = field sized (λ place x. place + 4 + length x) (λ x. length x ≤ max) (bytes_at max)

-- an identifier of an order
abbrev pub epoid : Row Epoid
epoid = record {
  spelled = epoid_bytes;
  behind = λ place x. place + 16;
  fits = IsEpoid;
  read = λ R bytes place next. or_place (raw_at 16 bytes place) >>= λ x. next (epoid_of x);
}

-- the value of a number of bytes is below the next power
below4 : (bytes : List ℕ) → AreBytes bytes → from_be_bytes w32 bytes < 2 ^ 32
below4 bytes are = omega (arith, are 0, are 1, are 2, are 3)

below8 : (bytes : List ℕ) → AreBytes bytes → from_be_bytes w64 bytes < 2 ^ 64
below8 bytes are = omega (arith, are 0, are 1, are 2, are 3, are 4, are 5, are 6, are 7)

-- what a field gives is what was taken
given : {A : Type 0} (test : Bool) (fault : CutFault) (x y : A) → cond test (Err fault) (Ok x) ≡ Ok y → x ≡ y
given true fault x y e = absurd cc
given false fault x y e = cc

byte_found : (bytes : List ℕ) (place x : ℕ) → AreBytes bytes → u8_at bytes place ≡ Ok x → x < 2 ^ 8
unfolding u8_at
byte_found bytes place x are e = subst (λ (n : ℕ). n < 2 ^ 8) (given (ltb (length (drop place bytes)) 1) _ (get_or (drop place bytes) 0 0) x e) (AreBytes-drop place bytes are 0)

pub byte_row : IsRow byte
byte_row = field_row byte.spelled byte.behind byte.fits u8_at (λ place x fits. refl) (λ bytes place x are e. (byte_found bytes place x are e, (byte_stands bytes place x).0 e)) (λ bytes place x fits s. (byte_stands bytes place x).1 s)

number4_found : (bytes : List ℕ) (place x : ℕ) → AreBytes bytes → u32_at bytes place ≡ Ok x → x < 2 ^ 32
unfolding u32_at
number4_found bytes place x are e =
    subst (λ (n : ℕ). n < 2 ^ 32) (given (ltb (length (drop place bytes)) 4) _ (from_be_bytes w32 (take 4 (drop place bytes))) x e) (below4 (take 4 (drop place bytes)) (AreBytes-take 4 (drop place bytes) (AreBytes-drop place bytes are)))

pub number4_row : IsRow number4
number4_row =
    field_row number4.spelled number4.behind number4.fits u32_at (λ place x fits. refl) (λ bytes place x are e. (number4_found bytes place x are e, (u32_stands bytes place x are (number4_found bytes place x are e)).0 e))
    u32_reads

number8_found : (bytes : List ℕ) (place x : ℕ) → AreBytes bytes → u64_at bytes place ≡ Ok x → x < 2 ^ 64
unfolding u64_at
number8_found bytes place x are e =
    subst (λ (n : ℕ). n < 2 ^ 64) (given (ltb (length (drop place bytes)) 8) _ (from_be_bytes w64 (take 8 (drop place bytes))) x e) (below8 (take 8 (drop place bytes)) (AreBytes-take 8 (drop place bytes) (AreBytes-drop place bytes are)))

pub number8_row : IsRow number8
number8_row =
    field_row number8.spelled number8.behind number8.fits u64_at (λ place x fits. refl) (λ bytes place x are e. (number8_found bytes place x are e, (u64_stands bytes place x are (number8_found bytes place x are e)).0 e))
    u64_reads

pub raw_row : (n : ℕ) → IsRow (raw n)
raw_row n = field_row (raw n).spelled (raw n).behind (raw n).fits (raw_at n) (λ place x fits. omega (arith, fits)) (λ bytes place x are e. (raw_stands bytes x place n).0 e) (λ bytes place x fits s. (raw_stands bytes x place n).1 (fits, s))

pub text_row : (max : ℕ) → max < 2 ^ 32 → IsRow (text max)
text_row max limit =
    field_row (text max).spelled (text max).behind (text max).fits (bytes_at max) (λ place x fits. omega arith) (λ bytes place x are e. (text_stands bytes x place max are limit).0 e) (λ bytes place x fits s. text_reads bytes x place max limit fits s)

epoid_found : (bytes : List ℕ) → AreBytes bytes → IsEpoid (epoid_of bytes)
unfolding epoid_of
epoid_found bytes are =
    let rest : AreBytes (drop 4 bytes) = AreBytes-drop 4 bytes are in
    (below4 (take 4 bytes) (AreBytes-take 4 bytes are), below8 (take 8 (drop 4 bytes)) (AreBytes-take 8 (drop 4 bytes) rest), below4 (drop 8 (drop 4 bytes)) (AreBytes-drop 8 (drop 4 bytes) rest))

pub epoid_row : IsRow epoid
epoid_row = record {
  long = λ place x fits. omega (arith, length-epoid_bytes x);
  found = λ R bytes place next y are e.
      let a = read_found (raw_at 16 bytes place) (λ x. next (epoid_of x)) y e in
      let s = (raw_stands bytes a.0 place 16).0 a.1 in
      let part : AreBytes a.0 = subst AreBytes s.1 (AreBytes-take (length a.0) (drop place bytes) (AreBytes-drop place bytes are)) in
      (epoid_of a.0, epoid_found a.0 part, subst (λ (xs : List ℕ). StandsAt xs bytes place) (sym (spells_back a.0 s.0 part)) s.1, a.2);
  reads = λ R bytes place next x is s. rw ((raw_stands bytes (epoid_bytes x) place 16).1 (length-epoid_bytes x, s)) (ap next (reads_back x is));
}

-- ---- a row and nothing behind it

-- a list of bytes is read as a row, to its end
abbrev pub whole : {A : Type 0} → Row A → (R : Type 0) → List ℕ → (A → Result R ℕ) → Result R ℕ
whole f R bytes next = f.read R bytes 0 (λ x. or_place (done_at bytes (f.behind 0 x)) >>= λ end. next x)

done_is : (bytes : List ℕ) (place : ℕ) (end : Unit {0}) → done_at bytes place ≡ Ok end → length bytes ≤ place
unfolding done_at
done_is bytes place end e = ltb-false place (length bytes) (passed (ltb place (length bytes)) _ e)
  where
    passed : (test : Bool) (fault : CutFault) → cond test (Err fault) (Ok tt) ≡ Ok end → test ≡ false
    passed true fault e = absurd cc
    passed false fault e = refl

is_done : (bytes : List ℕ) (place : ℕ) → length bytes ≤ place → done_at bytes place ≡ Ok tt
unfolding done_at
is_done bytes place le = rw (le-ltb place (length bytes) le) refl

pub whole_found : {A : Type 0} (f : Row A) → IsRow f → (R : Type 0) (bytes : List ℕ) (next : A → Result R ℕ) (y : R) → AreBytes bytes → whole f R bytes next ≡ Ok y
    → (x : A) × (f.fits x) × (bytes ≡ f.spelled x) × (next x ≡ Ok y)
whole_found f row R bytes next y are e =
    let a = row.found R bytes 0 (λ x. or_place (done_at bytes (f.behind 0 x)) >>= λ end. next x) y are e in
    let b = read_found (done_at bytes (f.behind 0 a.0)) (λ end. next a.0) y a.3 in
    let short : length bytes ≤ length (f.spelled a.0) = omega (arith, done_is bytes (f.behind 0 a.0) b.0 b.1, row.long 0 a.0 a.1) in
    (a.0, a.1, sym (take_all (length (f.spelled a.0)) bytes short) ∙ a.2, b.2)

pub whole_reads : {A : Type 0} (f : Row A) → IsRow f → (R : Type 0) (bytes : List ℕ) (next : A → Result R ℕ) (x : A) → f.fits x → bytes ≡ f.spelled x → whole f R bytes next ≡ next x
whole_reads f row R bytes next x fits is =
    let long : length bytes ≡ length (f.spelled x) = ap length is in
    row.reads R bytes 0 (λ z. or_place (done_at bytes (f.behind 0 z)) >>= λ end. next z) x fits (take_all (length (f.spelled x)) bytes (omega (arith, long)) ∙ is)
    ∙ rw (is_done bytes (f.behind 0 x) (omega (arith, long, row.long 0 x fits))) refl

-- ---- a row whose fields do not depend on each other

infixl 10 ◌&◌
abbrev pub ◌&◌ : {A B : Type 0} → Row A → Row B → Row (A × B)
f & g = f then (λ x. g)

pub and_row : {A B : Type 0} {f : Row A} {g : Row B} → IsRow f → IsRow g → IsRow (f & g)
and_row {f = f} {g = g} first second = then_row f (λ x. g) first (λ x. second)

-- ---- what a reader gave

pub ok_is : {A : Type 0} (a b : A) → (let first : Result A ℕ = Ok a in first ≡ Ok b) → a ≡ b
ok_is a b e = cc

-- what a reader gave is what was read
pub reads_ok : {A : Type 0} (r : Result A Malformed) (read : Result A ℕ) (x : A) → Reads r read → read ≡ Ok x → r ≡ Ok x
reads_ok (Ok v) read x is e = ap Ok (ok_is v x (sym is ∙ e))
reads_ok (Err m) read x is e = absurd cc

pub if_read : {A : Type 0} (r : Result A Malformed) (read : Result A ℕ) (P : A → Type 0) → Reads r read → ((x : A) → read ≡ Ok x → P x) → IfOk r P
if_read (Ok v) read P is each = each v is
if_read (Err m) read P is each = tt

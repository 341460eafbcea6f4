-- A status before it is sealed reads back and spells back.
use Rattle.std.proofs.Common.{◌≡◌, ℕ, ◌+◌, ◌<◌, ◌≤◌, ◌^◌, Bool, true, false, cond, ltb, List, [], ◌∷◌, ◌++◌, length, take, drop, Some, None, Option, Result, Ok, Err, refl, sym, ap, subst, ◌∙◌, arith, length-append, take-append-drop}
use Rattle.std.proofs.lemmas.Bool.{eqb-true, ltb-false, le-ltb}
use Rattle.std.proofs.lemmas.List.{append_assoc, take_at, drop_at, drop_all}
use Rattle.std.specs.Prelude.{◌==◌, ◌||◌, IfSome}
use Rattle.nb_units.proofs.ByteLists.{AreBytes-drop}
use Rattle.nb_units.proofs.EpoidLaws.{length-epoid_bytes}
use Rattle.nb_units.proofs.Rows.{Row, IsRow, ◌&◌, and_row, tested, tested_row, byte, byte_row, number8, number8_row, epoid, epoid_row, ok_is}
use Rattle.nb_units.specs.declared.cut.CutFault.TheVariants.{Extra}
use Rattle.nb_units.specs.declared.epoid.Epoid.{Epoid}
use Rattle.nb_units.specs.Epoid.{epoid_bytes}
use Rattle.nb_units.specs.Fields.{◌>>=◌, be8, done_at, or_place}
use Rattle.nb_units.specs.Frames.{AreBytes}
use Rattle.nb_endorse.specs.declared.receipt.Signed.{Signed}
use Rattle.nb_endorse.specs.Spelling.{IsSigned, signed_bytes}
use Rattle.nb_endorse.specs.Reading.{signed_of}
use Rattle.nb_endorse.proofs.Receipts.{receipt_reads_back, receipt_spells_back, receipt_is_as_long}
use Rattle.nb_msgs.specs.declared.status.StatusText.{StatusText}
use Rattle.nb_msgs.specs.StatusText.{IsStatusText, told_bytes, text_bytes, told_from, told_of, text_of}
use Rattle.nb_msgs.specs.Laws.{StatusReadsBack, StatusSpellsBack, OneStatus, status_length, StatusIsAsLong}

-- what stands before the receipt
abbrev Front : Type 0
Front = (ℕ × Epoid) × ℕ

abbrev is_flag : ℕ → Bool
is_flag has = has == 0 || has == 1

abbrev front_row : Row Front
front_row = number8 & epoid & tested byte is_flag

is_front_row : IsRow front_row
is_front_row = and_row (and_row number8_row epoid_row) (tested_row byte is_flag byte_row)

abbrev behind_front : List ℕ → Front → Result StatusText ℕ
behind_front bytes f = told_of f.1 bytes >>= λ receipt. Ok (record { place = f.0.0; epoid = f.0.1; receipt = receipt })

read_so : (bytes : List ℕ) → text_of bytes ≡ front_row.read StatusText bytes 0 (behind_front bytes)
unfolding text_of
read_so bytes = refl

length_front : (place : ℕ) (e : Epoid) → length (be8 place ++ epoid_bytes e) ≡ 24
length_front place e = omega (arith, length-append (be8 place) (epoid_bytes e), length-epoid_bytes e)

-- the bytes behind the byte that says whether there is a receipt
abbrev rest_of : Option Signed → List ℕ
rest_of None = []
rest_of (Some s) = signed_bytes s

abbrev flag_of : Option Signed → ℕ
flag_of None = 0
flag_of (Some s) = 1

told_so : (o : Option Signed) → told_bytes o ≡ flag_of o ∷ rest_of o
told_so None = refl
told_so (Some s) = refl

bytes_so : (t : StatusText) → text_bytes t ≡ front_row.spelled ((t.place, t.epoid), flag_of t.receipt) ++ rest_of t.receipt
bytes_so t =
    ap (λ (xs : List ℕ). be8 t.place ++ epoid_bytes t.epoid ++ xs) (told_so t.receipt)
    ∙ sym (append_assoc (be8 t.place ++ epoid_bytes t.epoid) (flag_of t.receipt ∷ []) (rest_of t.receipt))

flag_fits : (o : Option Signed) → (flag_of o < 2 ^ 8) × (is_flag (flag_of o) ≡ true)
flag_fits None = (omega arith, refl)
flag_fits (Some s) = (omega arith, refl)

front_long : (f : Front) → front_row.fits f → length (front_row.spelled f) ≡ 25
front_long f fits = omega (arith, is_front_row.long 0 f fits)

is_done : (bytes : List ℕ) (place : ℕ) → length bytes ≤ place → done_at bytes place ≡ Ok tt
unfolding done_at
is_done bytes place le = rw (le-ltb place (length bytes) le) refl

done_is : (bytes : List ℕ) (place : ℕ) (end : Unit {0}) → or_place (done_at bytes place) ≡ Ok end → length bytes ≤ place
unfolding done_at
done_is bytes place end e = ltb-false place (length bytes) (passed (ltb place (length bytes)) e)
  where
    passed : (b : Bool) → or_place (cond b (Err (Extra place)) (Ok tt)) ≡ Ok end → b ≡ false
    passed true e = absurd cc
    passed false e = refl

-- the receipt behind the front is read
told_reads : (front bytes : List ℕ) (o : Option Signed) → length front ≡ 25 → IfSome o IsSigned → bytes ≡ front ++ rest_of o → told_of (flag_of o) bytes ≡ Ok o
unfolding told_of
told_reads front bytes None long is same =
    let short : length bytes ≤ 25 = omega (arith, long, ap length same, length-append front []) in
    rw (is_done bytes 25 short) refl
told_reads front bytes (Some s) long is same =
    let rest : drop 25 bytes ≡ signed_bytes s = ap (drop 25) same ∙ drop_at front (signed_bytes s) 25 long in
    ap (λ (xs : List ℕ). told_from 25 (signed_of xs)) rest ∙ ap (told_from 25) (receipt_reads_back s is)

pub status_reads_back : StatusReadsBack
status_reads_back t is =
    let f : Front = ((t.place, t.epoid), flag_of t.receipt) in
    let fits : front_row.fits f = ((is.place, is.epoid), flag_fits t.receipt) in
    let long : length (front_row.spelled f) ≡ 25 = front_long f fits in
    let stands : take (length (front_row.spelled f)) (text_bytes t) ≡ front_row.spelled f =
    ap (take (length (front_row.spelled f))) (bytes_so t) ∙ take_at (front_row.spelled f) (rest_of t.receipt) (length (front_row.spelled f)) refl in
    read_so (text_bytes t) ∙ is_front_row.reads StatusText (text_bytes t) 0 (behind_front (text_bytes t)) f fits stands
    ∙ ap (λ (r : Result (Option Signed) ℕ). r >>= λ receipt. Ok (record { place = t.place; epoid = t.epoid; receipt = receipt }))
    (told_reads (front_row.spelled f) (text_bytes t) t.receipt long is.receipt (bytes_so t))

bind_found : {A B : Type 0} (r : Result A ℕ) (next : A → Result B ℕ) (y : B) → (r >>= next) ≡ Ok y → (x : A) × (r ≡ Ok x) × (next x ≡ Ok y)
bind_found (Ok x) next y e = (x, refl, e)
bind_found (Err place) next y e = absurd cc

pub from_found : (place : ℕ) (r : Result Signed ℕ) (o : Option Signed) → told_from place r ≡ Ok o → (s : Signed) × (r ≡ Ok s) × (Some s ≡ o)
from_found place (Ok s) o e = (s, refl, ok_is (Some s) o e)
from_found place (Err bad) o e = absurd cc

-- what was told of the bytes behind the front
record Told (has : ℕ) (bytes : List ℕ) (o : Option Signed) : Type 0 where
  signed : IfSome o IsSigned
  flag : flag_of o ≡ has
  rest : drop 25 bytes ≡ rest_of o

told_found : (has : ℕ) (bytes : List ℕ) (o : Option Signed) → is_flag has ≡ true → AreBytes bytes → told_of has bytes ≡ Ok o → Told has bytes o
unfolding told_of
told_found has bytes o known are e = part (has == 1) refl e
  where
    zero_is : (has == 1) ≡ false → has ≡ 0
    zero_is other = grind (arith, eqb-true)

    part : (b : Bool) → (has == 1) ≡ b → cond b (told_from 25 (signed_of (drop 25 bytes))) (or_place (done_at bytes 25) >>= λ end. Ok None) ≡ Ok o → Told has bytes o
    part true one e =
        let w = from_found 25 (signed_of (drop 25 bytes)) o e in
        let s = receipt_spells_back (drop 25 bytes) w.0 (AreBytes-drop 25 bytes are) w.1 in
        subst (Told has bytes) w.2 (record { signed = s.0; flag = sym (eqb-true has 1 one); rest = s.1 })
    part false other e =
        let w = bind_found (or_place (done_at bytes 25)) (λ end. Ok None) o e in
        subst (Told has bytes) (ok_is None o w.2) (record { signed = tt; flag = sym (zero_is other); rest = drop_all 25 bytes (done_is bytes 25 w.0 w.1) })

pub status_spells_back : StatusSpellsBack
status_spells_back bytes t are e =
    let w = is_front_row.found StatusText bytes 0 (behind_front bytes) t are (sym (read_so bytes) ∙ e) in
    let r = bind_found (told_of w.0.1 bytes) (λ receipt. Ok (record { place = w.0.0.0; epoid = w.0.0.1; receipt = receipt })) t w.3 in
    let told = told_found w.0.1 bytes r.0 w.1.1.1 are r.1 in
    let made : StatusText = record { place = w.0.0.0; epoid = w.0.0.1; receipt = r.0 } in
    let long : length (front_row.spelled w.0) ≡ 25 = front_long w.0 w.1 in
    let rest : drop (length (front_row.spelled w.0)) bytes ≡ rest_of r.0 = ap (λ (n : ℕ). drop n bytes) long ∙ told.rest in
    let all : bytes ≡ front_row.spelled w.0 ++ rest_of r.0 =
    sym (take-append-drop (length (front_row.spelled w.0)) bytes)
    ∙ ap (λ (xs : List ℕ). xs ++ drop (length (front_row.spelled w.0)) bytes) w.2 ∙ ap (λ (xs : List ℕ). front_row.spelled w.0 ++ xs) rest in
    let same : front_row.spelled w.0 ++ rest_of r.0 ≡ text_bytes made =
    ap (λ (n : ℕ). front_row.spelled (w.0.0, n) ++ rest_of r.0) (sym told.flag) ∙ sym (bytes_so made) in
    subst (λ (x : StatusText). IsStatusText x × (bytes ≡ text_bytes x)) (ok_is made t r.2)
    (record { place = w.1.0.0; epoid = w.1.0.1; receipt = told.signed }, all ∙ same)

pub one_status : OneStatus
one_status a b first second same = ok_is a b (sym (status_reads_back a first) ∙ ap text_of same ∙ status_reads_back b second)

rest_long : (o : Option Signed) → IfSome o IsSigned → 25 + length (rest_of o) ≡ status_length o
rest_long None is = refl
rest_long (Some s) is = omega (arith, receipt_is_as_long s is)

pub status_is_as_long : StatusIsAsLong
status_is_as_long t is =
    let f : Front = ((t.place, t.epoid), flag_of t.receipt) in
    omega (arith, ap length (bytes_so t), length-append (front_row.spelled f) (rest_of t.receipt), front_long f ((is.place, is.epoid), flag_fits t.receipt), rest_long t.receipt is.receipt)

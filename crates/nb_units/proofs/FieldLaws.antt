-- A field is read exactly where its spelling stands, and each fault has its own ground.
use Rattle.std.proofs.Common.{◌≡◌, ℕ, ◌+◌, ◌<◌, ◌≤◌, ◌^◌, inl, inr, length-drop, Bool, true, false, cond, ltb, List, [], ◌∷◌, length, get_or, take, drop, Result, Ok, Err, refl, ap, sym, subst, ◌∙◌, arith}
use Rattle.std.specs.Prelude.{◌↔◌, ◌⊎◌}
use Rattle.std.specs.Int.{w32, w64, from_be_bytes}
use Rattle.std.proofs.lemmas.Bool.{ltb-true, ltb-false, lt-ltb, le-ltb}
use Rattle.std.proofs.lemmas.List.{length-take, length-take-le, take-take, drop-take}
use Rattle.std.proofs.Math.Seq.{take-add}
use Rattle.std.proofs.lemmas.Nat.{from_be_bytes-to_be_bytes_4, from_be_bytes-to_be_bytes_8, be_bytes_4, be_bytes_8}
use Rattle.nb_units.specs.declared.cut.CutFault.{CutFault}
use Rattle.nb_units.specs.declared.cut.CutFault.TheVariants.{Short, Long, Extra}
use Rattle.nb_units.specs.Fields.{be4, be8, sized, raw_at, u8_at, u32_at, u64_at, bytes_at, done_at, text_of, behind_length}
use Rattle.nb_units.specs.Laws.{StandsAt, RawStands, ByteStands, U32Stands, U64Stands, TextStands, left_at, IsShortBelow, FieldShort, TextLong, TextShort, DoneExtra}
use Rattle.nb_units.specs.Frames.{AreBytes}
use Rattle.nb_units.proofs.ByteLists.{AreBytes-drop, AreBytes-take, number_fits_4}

err_ok : {A : Type 0} (fault : CutFault) (y : A) → cond true (Err fault) (Ok y) ≡ Ok y → ⊥
err_ok fault y e = cc

ok_same : {A : Type 0} (fault : CutFault) (x y : A) → cond false (Err fault) (Ok x) ≡ Ok y → x ≡ y
ok_same fault x y e = cc

-- a field that was read passed the test for too few bytes
passed : {A : Type 0} (test : Bool) (fault : CutFault) (x y : A) → cond test (Err fault) (Ok x) ≡ Ok y → (test ≡ false) × (x ≡ y)
passed true fault x y e = absurd (err_ok fault y e)
passed false fault x y e = (refl, ok_same fault x y e)

-- the field is read where enough bytes are left
reads : {A : Type 0} (n m : ℕ) (fault : CutFault) (x : A) → n ≤ m → cond (ltb m n) (Err fault) (Ok x) ≡ Ok x
reads n m fault x le = rw (le-ltb m n le) refl

-- what is taken whole is there
taken_enough : (n : ℕ) (rest field : List ℕ) → length field ≡ n → take n rest ≡ field → n ≤ length rest
taken_enough n rest field long e = omega (arith, length-take n rest, ap length e)

raw_in : (rest field : List ℕ) (n : ℕ) (fault : CutFault) → (cond (ltb (length rest) n) (Err fault) (Ok (take n rest)) ≡ Ok field) ↔ ((length field ≡ n) × (take (length field) rest ≡ field))
raw_in rest field n fault = (λ e. forward (passed _ _ _ _ e), λ s. back s.0 s.1)
  where
    forward : (ltb (length rest) n ≡ false) × (take n rest ≡ field) → (length field ≡ n) × (take (length field) rest ≡ field)
    forward p =
        let long : length field ≡ n = sym (ap length p.1) ∙ length-take-le n rest (ltb-false (length rest) n p.0) in
        (long, subst (λ (m : ℕ). take m rest ≡ field) (sym long) p.1)

    back : length field ≡ n → take (length field) rest ≡ field → cond (ltb (length rest) n) (Err fault) (Ok (take n rest)) ≡ Ok field
    back long s =
        let e : take n rest ≡ field = subst (λ (m : ℕ). take m rest ≡ field) long s in
        reads n (length rest) fault _ (taken_enough n rest field long e) ∙ ap Ok e

pub raw_stands : RawStands
unfolding raw_at
raw_stands bytes field place n = raw_in (drop place bytes) field n _

byte_in : (rest : List ℕ) (v : ℕ) (fault : CutFault) → (cond (ltb (length rest) 1) (Err fault) (Ok (get_or rest 0 0)) ≡ Ok v) ↔ (take 1 rest ≡ v ∷ [])
byte_in [] v fault = (λ e. cc, λ e. cc)
byte_in (x ∷ rest) v fault = (λ e. ap (λ (y : ℕ). y ∷ []) (passed (ltb (length (x ∷ rest)) 1) fault x v e).1, λ e. reads 1 (length (x ∷ rest)) fault x (omega arith) ∙ ap Ok (same_head x v e))
  where
    same_head : (x v : ℕ) → x ∷ [] ≡ v ∷ [] → x ≡ v
    same_head x v e = cc

pub byte_stands : ByteStands
unfolding u8_at
byte_stands bytes place v = byte_in (drop place bytes) v _

-- a number is read where its n bytes stand, since it and its bytes give each other
number_back : (n : ℕ) (value : List ℕ → ℕ) (spelled rest : List ℕ) (v : ℕ) (fault : CutFault) → length spelled ≡ n → value spelled ≡ v → take n rest ≡ spelled
    → cond (ltb (length rest) n) (Err fault) (Ok (value (take n rest))) ≡ Ok v
number_back n value spelled rest v fault long is e = reads n (length rest) fault _ (taken_enough n rest spelled long e) ∙ ap Ok (ap value e ∙ is)

number_in : (n : ℕ) (value : List ℕ → ℕ) (spelled rest : List ℕ) (v : ℕ) (fault : CutFault) → (n ≤ length rest → value (take n rest) ≡ v → take n rest ≡ spelled)
    → cond (ltb (length rest) n) (Err fault) (Ok (value (take n rest))) ≡ Ok v → take n rest ≡ spelled
number_in n value spelled rest v fault spells e = let p = passed _ _ _ _ e in spells (ltb-false (length rest) n p.0) p.1

pub u32_reads : (bytes : List ℕ) (place v : ℕ) → v < 2 ^ 32 → StandsAt (be4 v) bytes place → u32_at bytes place ≡ Ok v
unfolding u32_at
u32_reads bytes place v small s = number_back 4 (from_be_bytes w32) (be4 v) (drop place bytes) v _ refl (from_be_bytes-to_be_bytes_4 v small) s

pub u32_stands : U32Stands
unfolding u32_at
u32_stands bytes place v fits small = (
  number_in 4 (from_be_bytes w32) (be4 v) (drop place bytes) v _
      (λ le e. sym (be_bytes_4 (take 4 (drop place bytes)) v (length-take-le 4 _ le) (AreBytes-take 4 _ (AreBytes-drop place bytes fits)) (sym e))),
  u32_reads bytes place v small,
)

pub u64_reads : (bytes : List ℕ) (place v : ℕ) → v < 2 ^ 64 → StandsAt (be8 v) bytes place → u64_at bytes place ≡ Ok v
unfolding u64_at
u64_reads bytes place v small s = number_back 8 (from_be_bytes w64) (be8 v) (drop place bytes) v _ refl (from_be_bytes-to_be_bytes_8 v small) s

pub u64_stands : U64Stands
unfolding u64_at
u64_stands bytes place v fits small = (
  number_in 8 (from_be_bytes w64) (be8 v) (drop place bytes) v _
      (λ le e. sym (be_bytes_8 (take 8 (drop place bytes)) v (length-take-le 8 _ le) (AreBytes-take 8 _ (AreBytes-drop place bytes fits)) (sym e))),
  u64_reads bytes place v small,
)

-- a text behind its length: not longer than its limit, and all there
text_in : (max n place : ℕ) (behind text : List ℕ) → (text_of max n behind place ≡ Ok text) ↔ ((n ≤ max) × (length text ≡ n) × (take n behind ≡ text))
text_in max n place behind text = (λ e. forward _ _ e, λ s. back s.0 s.1 s.2)
  where
    forward : (long short : CutFault) → cond (ltb max n) (Err long) (cond (ltb (length behind) n) (Err short) (Ok (take n behind))) ≡ Ok text → (n ≤ max) × (length text ≡ n) × (take n behind ≡ text)
    forward long short e =
        let p = first (ltb max n) long _ e in
        let q = passed (ltb (length behind) n) short _ _ p.1 in
        (ltb-false max n p.0, sym (ap length q.1) ∙ length-take-le n behind (ltb-false (length behind) n q.0), q.1)
      where
        first : (test : Bool) (long : CutFault) (other : Result (List ℕ) CutFault) → cond test (Err long) other ≡ Ok text → (test ≡ false) × (other ≡ Ok text)
        first true long other e = absurd (err_ok long text e)
        first false long other e = (refl, e)

    back : n ≤ max → length text ≡ n → take n behind ≡ text → text_of max n behind place ≡ Ok text
    back small long e = rw (le-ltb max n small, le-ltb (length behind) n (taken_enough n behind text long e)) (ap Ok e)

-- a length that was read stands before the text
length_in : (max place : ℕ) (behind text : List ℕ) (length_read : Result ℕ CutFault) → behind_length max behind place length_read ≡ Ok text → (n : ℕ) × (length_read ≡ Ok n) × (text_of max n behind place ≡ Ok text)
length_in max place behind text (Ok n) e = (n, refl, e)
length_in max place behind text (Err fault) e = absurd (err_ok fault text e)

-- the spelling of a text is four bytes and the text
sized_long : (text rest : List ℕ) → take (length (sized text)) rest ≡ take (4 + length text) rest
sized_long text rest = let long : length (sized text) ≡ 4 + length text = omega arith in ap (λ (m : ℕ). take m rest) long

pub text_reads : (bytes text : List ℕ) (place max : ℕ) → max < 2 ^ 32 → length text ≤ max → StandsAt (sized text) bytes place → bytes_at max bytes place ≡ Ok text
unfolding bytes_at
text_reads bytes text place max limit small stands =
    let s : take (4 + length text) (drop place bytes) ≡ sized text = sym (sized_long text (drop place bytes)) ∙ stands in
    let word : take 4 (drop place bytes) ≡ be4 (length text) = sym (take-take 4 (4 + length text) (drop place bytes) (omega arith)) ∙ ap (take 4) s in
    let body : take (length text) (drop 4 (drop place bytes)) ≡ text = sym (drop-take 4 (length text) (drop place bytes)) ∙ ap (drop 4) s in
    let r : u32_at bytes place ≡ Ok (length text) = u32_reads bytes place (length text) (omega (arith, small, limit)) word in
    ap (behind_length max (drop 4 (drop place bytes)) place) r ∙ (text_in max (length text) place (drop 4 (drop place bytes)) text).1 (small, refl, body)

pub text_stands : TextStands
unfolding bytes_at
text_stands bytes text place max fits limit = (forward, λ s. text_reads bytes text place max limit s.0 s.1)
  where
    forward : behind_length max (drop 4 (drop place bytes)) place (u32_at bytes place) ≡ Ok text → (length text ≤ max) × StandsAt (sized text) bytes place
    forward e =
        let p = length_in max place (drop 4 (drop place bytes)) text (u32_at bytes place) e in
        let q = (text_in max p.0 place (drop 4 (drop place bytes)) text).0 p.2 in
        let r : u32_at bytes place ≡ Ok (length text) = p.1 ∙ ap Ok (sym q.1) in
        let small : length text ≤ max = omega (arith, q.0, q.1) in
        let word : take 4 (drop place bytes) ≡ be4 (length text) = (u32_stands bytes place (length text) fits (omega (arith, small, limit))).0 r in
        let body : take (length text) (drop 4 (drop place bytes)) ≡ text = subst (λ (m : ℕ). take m (drop 4 (drop place bytes)) ≡ text) (sym q.1) q.2 in
        (small, sized_long text (drop place bytes) ∙ take-add 4 (length text) (drop place bytes) ∙ rw (word, body) refl)

-- ---- faults

ok_err : {A : Type 0} (x : A) (fault : CutFault) → Ok x ≡ Err fault → ⊥
ok_err x fault e = cc

err_same : {A : Type 0} (x : A) (mine fault : CutFault) → cond true (Err mine) (Ok x) ≡ Err fault → fault ≡ mine
err_same x mine fault e = cc

-- a field that is a fault failed the test for too few bytes
failed : {A : Type 0} (test : Bool) (x : A) (mine fault : CutFault) → cond test (Err mine) (Ok x) ≡ Err fault → (test ≡ true) × (fault ≡ mine)
failed true x mine fault e = (refl, err_same x mine fault e)
failed false x mine fault e = absurd (ok_err x fault e)

fails : {A : Type 0} (m n : ℕ) (x : A) (mine fault : CutFault) → fault ≡ mine → m < n → cond (ltb m n) (Err mine) (Ok x) ≡ Err fault
fails m n x mine fault is few = rw (lt-ltb m n few) (ap Err (sym is))

short_in : {A : Type 0} (bytes : List ℕ) (place n : ℕ) (x : A) → IsShortBelow (cond (ltb (length (drop place bytes)) n) (Err (Short place)) (Ok x)) n bytes place
short_in bytes place n x fault = (λ e. forward (failed _ x _ _ e), λ s. fails _ n x _ fault s.0 (omega (arith, s.1, length-drop place bytes)))
  where
    forward : (ltb (length (drop place bytes)) n ≡ true) × (fault ≡ Short place) → (fault ≡ Short place) × (left_at bytes place < n)
    forward p = (p.1, omega (arith, ltb-true (length (drop place bytes)) n p.0, length-drop place bytes))

u32_short : (bytes : List ℕ) (place : ℕ) → IsShortBelow (u32_at bytes place) 4 bytes place
unfolding u32_at
u32_short bytes place = short_in bytes place 4 _

pub field_short : FieldShort
unfolding raw_at u8_at u64_at
field_short bytes place n = (short_in bytes place n _, short_in bytes place 1 _, u32_short bytes place, short_in bytes place 8 _)

pub done_extra : DoneExtra
unfolding done_at
done_extra bytes place fault = (λ e. forward (failed _ _ _ _ e), λ s. fails place (length bytes) _ _ fault s.0 s.1)
  where
    forward : (ltb place (length bytes) ≡ true) × (fault ≡ Extra place) → (fault ≡ Extra place) × (place < length bytes)
    forward p = (p.1, ltb-true place (length bytes) p.0)

-- a text that is a fault behind its length
text_fault : (long short : Bool) (place n max : ℕ) (text : List ℕ) (fault : CutFault) → cond long (Err (Long place n max)) (cond short (Err (Short place)) (Ok text)) ≡ Err fault
    → ((long ≡ true) × (fault ≡ Long place n max)) ⊎ ((long ≡ false) × (short ≡ true) × (fault ≡ Short place))
text_fault true short place n max text fault e = inl (refl, cc)
text_fault false true place n max text fault e = inr (refl, refl, cc)
text_fault false false place n max text fault e = absurd (ok_err text fault e)

-- a fault is that of the length, or of the text behind it
fault_in : (max place : ℕ) (behind : List ℕ) (length_read : Result ℕ CutFault) (fault : CutFault) → behind_length max behind place length_read ≡ Err fault
    → (length_read ≡ Err fault) ⊎ ((n : ℕ) × (length_read ≡ Ok n) × (((max < n) × (fault ≡ Long place n max)) ⊎ ((n ≤ max) × (length behind < n) × (fault ≡ Short place))))
fault_in max place behind (Err mine) fault e = let same : mine ≡ fault = cc in inl (ap Err same)
fault_in max place behind (Ok n) fault e = inr (n, refl, which (text_fault _ _ _ _ _ _ _ e))
  where
    which : ((ltb max n ≡ true) × (fault ≡ Long place n max)) ⊎ ((ltb max n ≡ false) × (ltb (length behind) n ≡ true) × (fault ≡ Short place))
        → ((max < n) × (fault ≡ Long place n max)) ⊎ ((n ≤ max) × (length behind < n) × (fault ≡ Short place))
    which (inl p) = inl (ltb-true max n p.0, p.1)
    which (inr p) = inr (ltb-false max n p.0, ltb-true (length behind) n p.1, p.2)

long_is : (p n m q k l : ℕ) → Long p n m ≡ Long q k l → (p ≡ q) × (n ≡ k) × (m ≡ l)
long_is p n m q k l e = (cc, cc, cc)

long_short : (p n m q : ℕ) → Long p n m ≡ Short q → ⊥
long_short p n m q e = cc

short_is : (p q : ℕ) → Short p ≡ Short q → p ≡ q
short_is p q e = cc

pub text_long : TextLong
unfolding bytes_at
text_long bytes place max n p m fits small = (λ e. forward (fault_in max place (drop 4 (drop place bytes)) (u32_at bytes place) (Long p n m) e), λ s. back s.0 s.1 s.2 s.3)
  where
    forward : (u32_at bytes place ≡ Err (Long p n m)) ⊎ ((k : ℕ) × (u32_at bytes place ≡ Ok k) × (((max < k) × (Long p n m ≡ Long place k max)) ⊎ ((k ≤ max) × (length (drop 4 (drop place bytes)) < k) × (Long p n m ≡ Short place))))
        → (p ≡ place) × (m ≡ max) × (max < n) × StandsAt (be4 n) bytes place
    forward (inl e) = absurd (long_short p n m place ((u32_short bytes place (Long p n m)).0 e).0)
    forward (inr (k, read, inr s)) = absurd (long_short p n m place s.2)
    forward (inr (k, read, inl s)) =
        let same = long_is p n m place k max s.1 in
        (same.0, same.2, omega (arith, s.0, same.1), (u32_stands bytes place n fits small).0 (read ∙ ap Ok (sym same.1)))

    back : p ≡ place → m ≡ max → max < n → StandsAt (be4 n) bytes place → behind_length max (drop 4 (drop place bytes)) place (u32_at bytes place) ≡ Err (Long p n m)
    back at limit long stands =
        ap (behind_length max (drop 4 (drop place bytes)) place) ((u32_stands bytes place n fits small).1 stands)
        ∙ rw (lt-ltb max n long, at, limit) refl

-- a number that was read of four bytes fits them
read_fits : (bytes : List ℕ) (place n : ℕ) → AreBytes bytes → u32_at bytes place ≡ Ok n → n < 2 ^ 32
unfolding u32_at
read_fits bytes place n fits read =
    let p = passed _ _ _ _ read in
    subst (λ (m : ℕ). m < 2 ^ 32) p.1 (number_fits_4 (take 4 (drop place bytes)) (AreBytes-take 4 _ (AreBytes-drop place bytes fits)))

pub text_short : TextShort
unfolding bytes_at
text_short bytes place max p fits = (λ e. forward (fault_in max place (drop 4 (drop place bytes)) (u32_at bytes place) (Short p) e), λ s. back s.0 s.1)
  where
    few_left : (n : ℕ) → length (drop 4 (drop place bytes)) < n → left_at bytes place < 4 + n
    few_left n few = omega (arith, few, length-drop 4 (drop place bytes), length-drop place bytes)

    forward : (u32_at bytes place ≡ Err (Short p)) ⊎ ((n : ℕ) × (u32_at bytes place ≡ Ok n) × (((max < n) × (Short p ≡ Long place n max)) ⊎ ((n ≤ max) × (length (drop 4 (drop place bytes)) < n) × (Short p ≡ Short place))))
        → (p ≡ place) × ((left_at bytes place < 4) ⊎ ((n : ℕ) × (n < 2 ^ 32) × StandsAt (be4 n) bytes place × (n ≤ max) × (left_at bytes place < 4 + n)))
    forward (inl e) = let s = (u32_short bytes place (Short p)).0 e in (short_is p place s.0, inl s.1)
    forward (inr (n, read, inl s)) = absurd (long_short place n max p (sym s.1))
    forward (inr (n, read, inr s)) =
        let small : n < 2 ^ 32 = read_fits bytes place n fits read in
        (short_is p place s.2, inr (n, small, (u32_stands bytes place n fits small).0 read, s.0, few_left n s.1))

    back : p ≡ place → (left_at bytes place < 4) ⊎ ((n : ℕ) × (n < 2 ^ 32) × StandsAt (be4 n) bytes place × (n ≤ max) × (left_at bytes place < 4 + n))
        → behind_length max (drop 4 (drop place bytes)) place (u32_at bytes place) ≡ Err (Short p)
    back at (inl few) = ap (behind_length max (drop 4 (drop place bytes)) place) ((u32_short bytes place (Short p)).1 (ap Short at, few))
    back at (inr (n, small, stands, within, few)) =
        let there : 4 ≤ length (drop place bytes) = taken_enough 4 (drop place bytes) (be4 n) refl stands in
        let short : length (drop 4 (drop place bytes)) < n = omega (arith, few, there, length-drop 4 (drop place bytes), length-drop place bytes) in
        ap (behind_length max (drop 4 (drop place bytes)) place) ((u32_stands bytes place n fits small).1 stands)
        ∙ rw (le-ltb max n within, lt-ltb (length (drop 4 (drop place bytes))) n short, at) refl

-- The bad place of bytes that are no order lies within the bytes that an order has, or right behind them.
use Rattle.std.proofs.Common.{◌≡◌, ℕ, ◌+◌, ◌≤◌, Bool, true, false, cond, ltb, List, length, drop, take, Result, Ok, Err, refl, sym, subst, arith}
use Rattle.std.specs.Int.{w32, w64, from_be_bytes}
use Rattle.nb_units.specs.declared.cut.CutFault.{CutFault}
use Rattle.nb_units.specs.declared.cut.CutFault.TheVariants.{Short, Long, Extra}
use Rattle.nb_units.specs.Fields.{◌>>=◌, raw_at, u32_at, u64_at, bytes_at, behind_length, done_at, or_place, place_of}
use Rattle.nb_units.specs.Frames.{AreBytes}
use Rattle.nb_units.specs.declared.limits.TheConstants.{MAX_HIDDEN}
use Rattle.nb_units.proofs.FieldLaws.{text_stands}
use Rattle.nb_epo.specs.Reading.{order_of}

err_is : {A : Type 0} (p q : ℕ) → (let first : Result A ℕ = Err p in first) ≡ Err q → p ≡ q
err_is p q e = cc

-- where one field fails, at its place, or else what follows it
field : {A B : Type 0} (r : Result A CutFault) (next : A → Result B ℕ) (place most p : ℕ) → (or_place r >>= next) ≡ Err p → ((fault : CutFault) → r ≡ Err fault → place_of fault ≡ place) → place ≤ most
    → ((x : A) → r ≡ Ok x → next x ≡ Err p → p ≤ most) → p ≤ most
field (Ok x) next place most p e at near behind = behind x refl e
field {B = B} (Err fault) next place most p e at near behind = omega (arith, err_is {A = B} (place_of fault) p e, at fault refl, near)

-- a field of a fixed width fails at its place
short_at : {A : Type 0} (b : Bool) (place : ℕ) (x : A) (fault : CutFault) → cond b (Err (Short place)) (Ok x) ≡ Err fault → place_of fault ≡ place
short_at true place x fault e = cc
short_at false place x fault e = absurd cc

at_number4 : (bytes : List ℕ) (place : ℕ) (fault : CutFault) → u32_at bytes place ≡ Err fault → place_of fault ≡ place
unfolding u32_at
at_number4 bytes place fault e = short_at (ltb (length (drop place bytes)) 4) place (from_be_bytes w32 (take 4 (drop place bytes))) fault e

at_number8 : (bytes : List ℕ) (place : ℕ) (fault : CutFault) → u64_at bytes place ≡ Err fault → place_of fault ≡ place
unfolding u64_at
at_number8 bytes place fault e = short_at (ltb (length (drop place bytes)) 8) place (from_be_bytes w64 (take 8 (drop place bytes))) fault e

at_raw : (n : ℕ) (bytes : List ℕ) (place : ℕ) (fault : CutFault) → raw_at n bytes place ≡ Err fault → place_of fault ≡ place
unfolding raw_at
at_raw n bytes place fault e = short_at (ltb (length (drop place bytes)) n) place (take n (drop place bytes)) fault e

text_at : (max n : ℕ) (behind : List ℕ) (place : ℕ) (long short : Bool) (fault : CutFault)
    → cond long (Err (Long place n max)) (cond short (Err (Short place)) (Ok (take n behind))) ≡ Err fault → place_of fault ≡ place
text_at max n behind place true short fault e = cc
text_at max n behind place false true fault e = cc
text_at max n behind place false false fault e = absurd cc

at_text : (max : ℕ) (bytes : List ℕ) (place : ℕ) (fault : CutFault) → bytes_at max bytes place ≡ Err fault → place_of fault ≡ place
unfolding bytes_at
at_text max bytes place fault e = by_length (u32_at bytes place) (λ f i. at_number4 bytes place f i) e
  where
    by_length : (r : Result ℕ CutFault) → ((f : CutFault) → r ≡ Err f → place_of f ≡ place) → behind_length max (drop 4 (drop place bytes)) place r ≡ Err fault → place_of fault ≡ place
    by_length (Ok n) at e = text_at max n (drop 4 (drop place bytes)) place (ltb max n) (ltb (length (drop 4 (drop place bytes))) n) fault e
    by_length (Err f) at e = subst (λ (x : CutFault). place_of x ≡ place) (fault_is f fault e) (at f refl)
      where
        fault_is : (a b : CutFault) → (let first : Result (List ℕ) CutFault = Err a in first) ≡ Err b → a ≡ b
        fault_is a b e = cc

-- where bytes are left behind the last field
last : {A : Type 0} (bytes : List ℕ) (place p : ℕ) (x : A) → (or_place (done_at bytes place) >>= λ end. Ok x) ≡ Err p → p ≡ place
unfolding done_at
last {A = A} bytes place p x e = part (ltb place (length bytes)) e
  where
    part : (b : Bool) → (or_place {A = Unit {0}} (cond b (Err (Extra place)) (Ok tt)) >>= λ end. Ok x) ≡ Err p → p ≡ place
    part true e = sym (err_is {A = A} place p e)
    part false e = absurd cc

pub order_near : (bytes : List ℕ) (p : ℕ) → AreBytes bytes → order_of bytes ≡ Err p → p ≤ 280
unfolding order_of
order_near bytes p are e =
    field (u32_at bytes 0) _ 0 280 p e (at_number4 bytes 0) (omega arith) (λ consumer i e.
    field (u32_at bytes 4) _ 4 280 p e (at_number4 bytes 4) (omega arith) (λ merchant i e.
    field (u32_at bytes 8) _ 8 280 p e (at_number4 bytes 8) (omega arith) (λ product i e.
    field (u64_at bytes 12) _ 12 280 p e (at_number8 bytes 12) (omega arith) (λ price i e.
    field (raw_at 16 bytes 20) _ 20 280 p e (at_raw 16 bytes 20) (omega arith) (λ epoid i e.
    field (raw_at 32 bytes 36) _ 36 280 p e (at_raw 32 bytes 36) (omega arith) (λ checksum i e.
    field (raw_at 32 bytes 68) _ 68 280 p e (at_raw 32 bytes 68) (omega arith) (λ request i e.
    field (raw_at 32 bytes 100) _ 100 280 p e (at_raw 32 bytes 100) (omega arith) (λ account i e.
    field (bytes_at MAX_HIDDEN bytes 132) _ 132 280 p e (at_text MAX_HIDDEN bytes 132) (omega arith) (λ hidden i e.
    let short : length hidden ≤ MAX_HIDDEN = ((text_stands bytes hidden 132 MAX_HIDDEN are (omega arith)).0 i).0 in
    field (raw_at 32 bytes (136 + length hidden)) _ (136 + length hidden) 280 p e (at_raw 32 bytes (136 + length hidden)) (omega (arith, short)) (λ tag i e.
    omega (arith, last bytes (136 + length hidden + 32) p _ e, short)))))))))))

-- The bad place of bytes that are no receipt lies within the bytes that a receipt and its tag have, or right behind them.
use Rattle.std.proofs.Common.{◌≡◌, ℕ, ◌≤◌, Bool, true, false, cond, ltb, List, length, drop, take, get_or, Result, Ok, Err, refl, sym, subst, arith}
use Rattle.std.specs.Bool.{then_some}
use Rattle.std.specs.Int.{w32, w64, from_be_bytes}
use Rattle.std.specs.Prelude.{◌==◌, bytes_eq, None}
use Rattle.nb_units.specs.declared.cut.CutFault.TheVariants.{Short, Extra}
use Rattle.nb_units.specs.Fields.{◌>>=◌, raw_at, u8_at, u32_at, u64_at, done_at, or_place, allowed}
use Rattle.nb_units.specs.Epoid.{epoid_of}
use Rattle.nb_endorse.specs.declared.receipt.TheConstants.{PRESENT, NO_KEY}
use Rattle.nb_endorse.specs.declared.receipt.Receipt.{Receipt}
use Rattle.nb_endorse.specs.declared.receipt.Signed.{Signed}
use Rattle.nb_endorse.specs.Reading.{is_receipt_code, key_flag, may_show, may_hold, signed_of, behind_moment, behind_key}

err_is : {A : Type 0} (p q : ℕ) → (let first : Result A ℕ = Err p in first) ≡ Err q → p ≡ q
err_is p q e = cc

-- where one step fails, or else what follows it
step : {A B : Type 0} (r : Result A ℕ) (next : A → Result B ℕ) (most p : ℕ) → (r >>= next) ≡ Err p → ((q : ℕ) → r ≡ Err q → q ≤ most) → ((x : A) → next x ≡ Err p → p ≤ most) → p ≤ most
step (Ok x) next most p e here behind = behind x e
step {B = B} (Err q) next most p e here behind = subst (λ (n : ℕ). n ≤ most) (err_is {A = B} q p e) (here q refl)

-- a field that is not there fails at its place
fixed : {A : Type 0} (b : Bool) (place q : ℕ) (x : A) → or_place (cond b (Err (Short place)) (Ok x)) ≡ Err q → q ≡ place
fixed {A = A} true place q x e = sym (err_is {A = A} place q e)
fixed false place q x e = absurd cc

at_byte : (bytes : List ℕ) (place q : ℕ) → or_place (u8_at bytes place) ≡ Err q → q ≡ place
unfolding u8_at
at_byte bytes place q e = fixed (ltb (length (drop place bytes)) 1) place q (get_or (drop place bytes) 0 0) e

at_number4 : (bytes : List ℕ) (place q : ℕ) → or_place (u32_at bytes place) ≡ Err q → q ≡ place
unfolding u32_at
at_number4 bytes place q e = fixed (ltb (length (drop place bytes)) 4) place q (from_be_bytes w32 (take 4 (drop place bytes))) e

at_number8 : (bytes : List ℕ) (place q : ℕ) → or_place (u64_at bytes place) ≡ Err q → q ≡ place
unfolding u64_at
at_number8 bytes place q e = fixed (ltb (length (drop place bytes)) 8) place q (from_be_bytes w64 (take 8 (drop place bytes))) e

at_raw : (n : ℕ) (bytes : List ℕ) (place q : ℕ) → or_place (raw_at n bytes place) ≡ Err q → q ≡ place
unfolding raw_at
at_raw n bytes place q e = fixed (ltb (length (drop place bytes)) n) place q (take n (drop place bytes)) e

-- where a value is not allowed, or else what follows it
test : {B : Type 0} (b : Bool) (place : ℕ) (next : Result B ℕ) (most p : ℕ) → (allowed b place >>= λ is. next) ≡ Err p → place ≤ most → (next ≡ Err p → p ≤ most) → p ≤ most
test true place next most p e here behind = behind e
test {B = B} false place next most p e here behind = subst (λ (n : ℕ). n ≤ most) (err_is {A = B} place p e) here

-- where bytes are left behind the last field
last : (bytes : List ℕ) (place p : ℕ) (s : Signed) → (or_place (done_at bytes place) >>= λ end. Ok s) ≡ Err p → p ≡ place
unfolding done_at
last bytes place p s e = part (ltb place (length bytes)) e
  where
    part : (b : Bool) → (or_place {A = Unit {0}} (cond b (Err (Extra place)) (Ok tt)) >>= λ end. Ok s) ≡ Err p → p ≡ place
    part true e = sym (err_is {A = Signed} place p e)
    part false e = absurd cc

behind_key_near : (front : Receipt) (bytes : List ℕ) (p : ℕ) → behind_key front bytes ≡ Err p → p ≤ 135
unfolding behind_key
behind_key_near front bytes p e =
    step _ _ 135 p e (λ q f. omega (arith, at_byte bytes 86 q f)) (λ has e.
    test (may_show front.code has) 86 _ 135 p e (omega arith) (λ e.
    step _ _ 135 p e (λ q f. omega (arith, at_number8 bytes 87 q f)) (λ a e.
    test (may_hold has (a == 0)) 87 _ 135 p e (omega arith) (λ e.
    step _ _ 135 p e (λ q f. omega (arith, at_number8 bytes 95 q f)) (λ b e.
    test (may_hold has (b == 0)) 95 _ 135 p e (omega arith) (λ e.
    step _ _ 135 p e (λ q f. omega (arith, at_raw 32 bytes 103 q f)) (λ tag e.
    omega (arith, last bytes 135 p (record { receipt = record front { shown = then_some (has == PRESENT) (a, b) }; tag = tag }) e))))))))

behind_moment_near : (front : Receipt) (bytes : List ℕ) (p : ℕ) → behind_moment front bytes ≡ Err p → p ≤ 135
unfolding behind_moment
behind_moment_near front bytes p e =
    step _ _ 135 p e (λ q f. omega (arith, at_byte bytes 53 q f)) (λ has e.
    test (has == key_flag front.code) 53 _ 135 p e (omega arith) (λ e.
    step _ _ 135 p e (λ q f. omega (arith, at_raw 32 bytes 54 q f)) (λ key e.
    test (may_hold has (bytes_eq key NO_KEY)) 54 _ 135 p e (omega arith) (λ e. behind_key_near (record front { key = then_some (has == PRESENT) key }) bytes p e))))

pub signed_near : (bytes : List ℕ) (p : ℕ) → signed_of bytes ≡ Err p → p ≤ 135
unfolding signed_of
signed_near bytes p e =
    step _ _ 135 p e (λ q f. omega (arith, at_byte bytes 0 q f)) (λ code e.
    test (is_receipt_code code) 0 _ 135 p e (omega arith) (λ e.
    step _ _ 135 p e (λ q f. omega (arith, at_number4 bytes 1 q f)) (λ consumer e.
    step _ _ 135 p e (λ q f. omega (arith, at_number4 bytes 5 q f)) (λ merchant e.
    step _ _ 135 p e (λ q f. omega (arith, at_number4 bytes 9 q f)) (λ product e.
    step _ _ 135 p e (λ q f. omega (arith, at_number8 bytes 13 q f)) (λ price e.
    step _ _ 135 p e (λ q f. omega (arith, at_raw 16 bytes 21 q f)) (λ epoid e.
    step _ _ 135 p e (λ q f. omega (arith, at_number8 bytes 37 q f)) (λ at e.
    step _ _ 135 p e (λ q f. omega (arith, at_number8 bytes 45 q f)) (λ moment e.
    behind_moment_near (record {
      code = code;
      consumer = record { 0 = consumer };
      merchant = record { 0 = merchant };
      product = product;
      price = record { 0 = price };
      epoid = epoid_of epoid;
      at = at;
      moment = moment;
      key = None;
      shown = None;
    }) bytes p e)))))))))

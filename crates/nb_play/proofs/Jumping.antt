-- Steps of a linear congruential generator, two at once.
use Rattle.std.proofs.Common.{◌≡◌, ℕ, ◌≤◌, zero, suc, ◌+◌, ◌*◌, ◌/◌, ◌%◌, ◌^◌, refl, sym, ap, ◌∙◌, arith}
use Rattle.std.proofs.lemmas.Nat.{mul-mod_first, mul-mod_second}
use Rattle.std.proofs.Math.Nat.{mod-add-mod, add-mod-mod, add-mul, mul_assoc, add_assoc}
use Rattle.nb_play.specs.Draws.{next, number}

-- the first step taken first
pub first_step : (a c x k : ℕ) → number a c x (suc k) ≡ number a c (next a c x) k
unfolding number
first_step a c x zero = refl
first_step a c x (suc k) = ap (next a c) (first_step a c x k)

-- the factor and the summand of two steps at once
abbrev pub squared : ℕ → ℕ
squared a = (a * a) % 2 ^ 64

abbrev pub doubled : ℕ → ℕ → ℕ
doubled a c = ((c * a) % 2 ^ 64 + c) % 2 ^ 64

-- what is taken modulo m before it is multiplied and added to
inner : (x a c m : ℕ) → ((x % m) * a + c) % m ≡ (x * a + c) % m
inner x a c m =
    sym (mod-add-mod ((x % m) * a) m c) ∙ ap (λ (n : ℕ). (n + c) % m) (mul-mod_first x a m) ∙ mod-add-mod (x * a) m c

factor : (x q s m : ℕ) → (x * (q % m) + s) % m ≡ (x * q + s) % m
factor x q s m =
    sym (mod-add-mod (x * (q % m)) m s) ∙ ap (λ (n : ℕ). (n + s) % m) (mul-mod_second x q m) ∙ mod-add-mod (x * q) m s

spread : (x a c : ℕ) → (x * a + c) * a + c ≡ x * (a * a) + (c * a + c)
spread x a c =
    ap (λ (n : ℕ). n + c) (add-mul (x * a) c a) ∙ ap (λ (n : ℕ). n + c * a + c) (mul_assoc x a a) ∙ add_assoc (x * (a * a)) (c * a) c

pub two_steps : (a c x : ℕ) → next a c (next a c x) ≡ next (squared a) (doubled a c) x
two_steps a c x =
    inner (x * a + c) a c (2 ^ 64)
    ∙ ap (λ (n : ℕ). n % 2 ^ 64) (spread x a c)
    ∙ sym (factor x (a * a) (c * a + c) (2 ^ 64))
    ∙ sym (add-mod-mod (x * squared a) (c * a + c) (2 ^ 64))
    ∙ ap (λ (n : ℕ). (x * squared a + n) % 2 ^ 64) (sym (mod-add-mod (c * a) (2 ^ 64) c))

-- twice as many steps
pub twice : (a c x k : ℕ) → number a c x (k + k) ≡ number (squared a) (doubled a c) x k
unfolding number
twice a c x zero = refl
twice a c x (suc k) =
    ap (number a c x) (double k) ∙ ap (λ (n : ℕ). next a c (next a c n)) (twice a c x k) ∙ two_steps a c (number (squared a) (doubled a c) x k)
  where
    double : (k : ℕ) → suc k + suc k ≡ suc (suc (k + k))
    double k = omega arith

-- half as many steps by the squared factor, behind one step where they are odd
even_steps : (a c x k half : ℕ) → k ≡ half + half → number (squared a) (doubled a c) x half ≡ number a c x k
even_steps a c x k half is = sym (twice a c x half) ∙ ap (number a c x) (sym is)

odd_steps : (a c x k half : ℕ) → k ≡ suc (half + half) → number (squared a) (doubled a c) (next a c x) half ≡ number a c x k
odd_steps a c x k half is = sym (twice a c (next a c x) half) ∙ sym (first_step a c x (half + half)) ∙ ap (number a c x) (sym is)

pub halved_even : (a c x k : ℕ) → (k % 2 ≡ 1 → ⊥) → number (squared a) (doubled a c) x (k / 2) ≡ number a c x k
halved_even a c x k even = even_steps a c x k (k / 2) (omega (arith, even))

pub halved_odd : (a c x k : ℕ) → k % 2 ≡ 1 → number (squared a) (doubled a c) (((x * a) % 2 ^ 64 + c) % 2 ^ 64) (k / 2) ≡ number a c x k
halved_odd a c x k odd =
    ap (λ (n : ℕ). number (squared a) (doubled a c) n (k / 2)) (mod-add-mod (x * a) (2 ^ 64) c) ∙ odd_steps a c x k (k / 2) (omega (arith, odd))

-- no step is left
pub no_steps : (a c x k n : ℕ) → k ≤ 0 → number a c x k ≡ n → x ≡ n
unfolding number
no_steps a c x zero n none is = is
no_steps a c x (suc k) n none is = absurd (omega (arith, none))

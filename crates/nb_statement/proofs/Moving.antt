-- What an entry moves on an account is what it brings to it and takes from it.
use Rattle.std.proofs.Common.{◌≡◌, ℕ, ◌+◌, ◌-◌, ◌<◌, ◌≤◌, ◌^◌, Bool, true, false, cond, List, [], ◌∷◌, ◌++◌, Option, Some, None, refl, sym, ap, ◌∙◌, arith}
use Rattle.std.proofs.lemmas.Bool.{eqb-true}
use Rattle.std.specs.Prelude.{◌==◌}
use Rattle.nb_units.specs.declared.ids.AcctId.{AcctId}
use Rattle.nb_entry.specs.declared.entry.Entry.{Entry}
use Rattle.nb_entry.specs.declared.entry.Entry.TheVariants.{Fund, Paid, Charged}
use Rattle.nb_book.specs.Money.{balance, brought, taken, credit, debit, fee_in}
use Rattle.nb_book.specs.Legal.{Legal, LegalAfter}
use Rattle.nb_book.proofs.Summing.{balance_after, total_fits}
use Rattle.nb_book.proofs.Balances.{balance_le_total}
use Rattle.nb_units.specs.Epoid.{epoid_bytes}
use Rattle.nb_statement.specs.declared.movement.Movement.{Movement}
use Rattle.nb_statement.specs.declared.movement.Way.{Way}
use Rattle.nb_statement.specs.declared.movement.Way.TheVariants as way
use Rattle.nb_statement.specs.Movements.{paid, moved_of, kept_of, movement_of, comes, goes, came, went, after}
use Rattle.nb_statement.proofs.Roles.{two_accounts}

-- what comes by a movement, if there is one, and what goes
abbrev pub came_of : Option Movement → ℕ
came_of None = 0
came_of (Some m) = came m

abbrev pub went_of : Option Movement → ℕ
went_of None = 0
went_of (Some m) = went m

-- a movement is what was brought and what was taken
abbrev Is : ℕ → ℕ → Option Movement → Type 0
Is brings takes m = (brings ≡ came_of m) × (takes ≡ went_of m)

-- a payment between two accounts
payment : (a : AcctId) (name : List ℕ) (price left : ℕ) (cacct macct : AcctId) → (cacct.0 ≡ macct.0 → ⊥)
    → Is (cond (macct.0 == a.0) left 0) (cond (cacct.0 == a.0) price 0) (paid a name price left cacct macct)
payment a name price left cacct macct two = part (cacct.0 == a.0) refl (macct.0 == a.0) refl where
  part : (b : Bool) → (cacct.0 == a.0) ≡ b → (c : Bool) → (macct.0 == a.0) ≡ c
      → Is (cond c left 0) (cond b price 0) (cond b (Some (record { way = way.Out; name = name; amount = price })) (cond c (Some (record { way = way.In; name = name; amount = left })) None))
  part true first true second = absurd (two (eqb-true cacct.0 a.0 first ∙ sym (eqb-true macct.0 a.0 second)))
  part true first false second = (refl, refl)
  part false first true second = (refl, refl)
  part false first false second = (refl, refl)

-- a legal entry moves on the account of a party what it brings to it and takes from it
of_party : (H : List Entry) (e : Entry) → Legal H → LegalAfter H e → (a : AcctId) → Is (brought a e) (taken a e) (moved_of a e)
of_party H (Fund acct amount reference) legal next a = part (acct.0 == a.0) where
  part : (b : Bool) → Is (cond b amount 0) 0 (cond b (Some (record { way = way.Fund; name = reference; amount = amount })) None)
  part true = (refl, refl)
  part false = (refl, refl)
of_party H (Paid digest epoid consumer merchant product price cacct macct moment key) legal next a =
    payment a (epoid_bytes epoid) price.0 price.0 cacct macct (two_accounts H legal consumer merchant cacct macct next.1 next.2)
of_party H (Charged digest epoid consumer merchant product price fee cacct macct moment key) legal next a =
    payment a (epoid_bytes epoid) price.0 (price.0 - fee) cacct macct (two_accounts H legal consumer merchant cacct macct next.0.1 next.0.2)
of_party H other legal next a = (refl, refl)

-- and into the house's account its fee
of_house : (e : Entry) → Is (fee_in e) 0 (kept_of e)
of_house (Charged digest epoid consumer merchant product price fee cacct macct moment key) = (refl, refl)
of_house other = (refl, refl)

-- so on each account what it credits and debits
of_any : (H : List Entry) (e : Entry) → Legal H → LegalAfter H e → (a : AcctId) → Is (credit a e) (debit a e) (movement_of a e)
of_any H e legal next a = part (a.0 == 0) where
  part : (b : Bool) → Is (cond b (fee_in e) (brought a e)) (cond b 0 (taken a e)) (cond b (kept_of e) (moved_of a e))
  part true = of_house e
  part false = of_party H e legal next a

-- the balance behind an entry
pub stepped : (H : List Entry) (e : Entry) → Legal H → LegalAfter H e → (a : AcctId) → balance (H ++ e ∷ []) a + went_of (movement_of a e) ≡ balance H a + came_of (movement_of a e)
stepped H e legal next a = let is : Is (credit a e) (debit a e) (movement_of a e) = of_any H e legal next a in
    omega (arith, balance_after H e legal next a, is.0, is.1)

-- where it moves nothing, the balance stays
pub stays : (H : List Entry) (e : Entry) → Legal H → LegalAfter H e → (a : AcctId) → movement_of a e ≡ None → balance (H ++ e ∷ []) a ≡ balance H a
stays H e legal next a none = let step = stepped H e legal next a in
    omega (arith, step, ap went_of none, ap came_of none)

-- a movement goes one way
one_way : (w : Way) (amount before behind : ℕ) → behind + goes w amount ≡ before + comes w amount → before < 2 ^ 64 → behind < 2 ^ 64
    → (before + comes w amount < 2 ^ 64) × (goes w amount ≤ before) × (behind ≡ before + comes w amount - goes w amount)
one_way way.Fund amount before behind step small less = (omega (arith, step, less), omega arith, omega (arith, step))
one_way way.Out amount before behind step small less = (omega (arith, small), omega (arith, step), omega (arith, step))
one_way way.In amount before behind step small less = (omega (arith, step, less), omega arith, omega (arith, step))
one_way way.Fee amount before behind step small less = (omega (arith, step, less), omega arith, omega (arith, step))

pub small : (H : List Entry) → Legal H → (a : AcctId) → balance H a < 2 ^ 64
small H legal a = omega (arith, balance_le_total H legal a, total_fits H legal)

-- where it moves money, the balance behind it is what the movement makes of that before it, and fits
pub moves : (H : List Entry) (e : Entry) → Legal H → LegalAfter H e → Legal (H ++ e ∷ []) → (a : AcctId) (m : Movement) → movement_of a e ≡ Some m
    → (balance H a + came m < 2 ^ 64) × (went m ≤ balance H a) × (balance (H ++ e ∷ []) a ≡ after (balance H a) m)
moves H e legal next longer a m is =
    let step : balance (H ++ e ∷ []) a + went m ≡ balance H a + came m = omega (arith, stepped H e legal next a, ap went_of is, ap came_of is) in
    one_way m.way m.amount (balance H a) (balance (H ++ e ∷ []) a) step (small H legal a) (small (H ++ e ∷ []) longer a)

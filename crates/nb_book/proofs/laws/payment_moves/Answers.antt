use Rattle.std.proofs.Common.{◌≡◌, ◌==◌, ℕ, Bool, true, false, cond, arith, refl}
use Rattle.nb_entry.specs.declared.entry.Entry.TheVariants.{Paid, Charged}
use Rattle.nb_book.proofs.Summing.{moves}
use Rattle.nb_book.proofs.laws.payment_moves.Goals as goal

-- the same, whatever the test
either_way : (b : Bool) (n : ℕ) → cond b n n ≡ n
either_way true n = refl
either_way false n = refl

pub returns-clause-paid : goal.returns-clause-paid
returns-clause-paid c H digest epoid consumer merchant product price cacct macct moment key legal next a =
    omega (arith, moves H (Paid digest epoid consumer merchant product price cacct macct moment key) legal next a, either_way (a.0 == 0) 0)

pub returns-clause-charged : goal.returns-clause-charged
returns-clause-charged c H digest epoid consumer merchant product price fee cacct macct moment key legal next a =
    moves H (Charged digest epoid consumer merchant product price fee cacct macct moment key) legal next a

-- The numbers of a linear congruential generator, and what is drawn from them.
use Rattle.std.specs.Prelude.{ℕ, zero, suc, ◌+◌, ◌*◌, ◌/◌, ◌%◌, ◌^◌}
use Rattle.nb_play.specs.declared.draws.TheConstants.{MULTIPLIER, INCREMENT}

-- the number behind another one
abbrev pub next : ℕ → ℕ → ℕ → ℕ
next multiplier increment x = (x * multiplier + increment) % 2 ^ 64

-- number k, from 0 on: the first is where it begins
unfoldable pub number : ℕ → ℕ → ℕ → ℕ → ℕ
number multiplier increment from zero = from
number multiplier increment from (suc k) = next multiplier increment (number multiplier increment from k)

-- draw k: number k + 1 without its 33 low bits
abbrev pub draw_of : ℕ → ℕ → ℕ
draw_of seed k = number MULTIPLIER INCREMENT seed (k + 1) / 2 ^ 33

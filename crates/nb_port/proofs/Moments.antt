-- What a clock in memory gives: one more call gives one more moment.
use Rattle.std.proofs.Common.{◌≡◌, ℕ, ◌+◌, ◌-◌, ◌≤◌, List, [], ◌∷◌, ◌++◌, length, inl, inr, arith, append_assoc, append-nil, refl}
use Rattle.std.proofs.lemmas.Bool.{cases_lt}
use Rattle.std.proofs.lemmas.List.{take_all, take_more, get_or_past, replicate-append-replicate}
use Rattle.nb_port.specs.Faults.{one_more}
use Rattle.nb_port.specs.Clock.{Gives}
use Rattle.nb_port.specs.Memory.{last_of, moment_at, given_of, told_by}

-- n + 1 calls give one moment more than n calls
pub given_of-next : (moments : List ℕ) (n : ℕ) → given_of moments (n + 1) ≡ given_of moments n ++ moment_at moments n ∷ []
unfolding given_of
given_of-next moments n =
    elim (cases_lt n (length moments)) [
      | inl lt ↦
          let none : n - length moments ≡ 0 = omega arith in
          let none' : n + 1 - length moments ≡ 0 = omega arith in
          rw (none, none', take_more moments n (last_of moments) lt) (simp append-nil)
      | inr ge ↦
          let more : n + 1 - length moments ≡ n - length moments + 1 = omega arith in
          let longer : length moments ≤ n + 1 = omega arith in
          rw (
            more,
            take_all n moments ge,
            take_all (n + 1) moments longer,
            get_or_past moments n (last_of moments) ge,
            append_assoc,
            ← replicate-append-replicate (n - length moments) 1 (last_of moments),
          ) refl
    ]

-- so a clock that still tells told the moment that it gave
pub told_next : (moments : List ℕ) (n : ℕ) → Gives (told_by (record { moments = moments; calls = n })) (told_by (record { moments = moments; calls = one_more n })) (moment_at moments n)
told_next moments n = grind (arith, given_of-next moments n)

-- The turns of the small house.
use Rattle.std.proofs.Common.{◌≡◌, inl, inr, List, [], ◌∷◌, refl, arith}
use Rattle.nb_entry.specs.declared.entry.Entry.{Entry}
use Rattle.nb_turns.specs.Worked.{enrolment, funding, two_entries, three_entries, ThreeAtOnce, KeptTogether, DroppedAndRecorded, KeptAndTold, FailedTwice}

some : (e : Entry) (es : List Entry) → e ∷ es ≡ [] → ⊥
some e es none = cc

three_some : three_entries ≡ [] → ⊥
three_some = some (enrolment 1) (enrolment 2 ∷ funding 1 500 ∷ [])

fund_some : funding 1 500 ∷ [] ≡ [] → ⊥
fund_some = some (funding 1 500) []

pub three_at_once : ThreeAtOnce
three_at_once = (((omega arith, omega arith), (omega arith, inl refl, refl), tt), refl, refl, refl)

pub kept_together : KeptTogether
kept_together = (
  (
    (omega arith, omega arith),
    (omega arith, inr (record { over = []; settled = inl refl; some = three_some; left = refl })),
    ((omega arith, omega arith), (omega arith, inr refl, refl), tt),
  ),
  (
    record {
      fits = (omega arith, omega arith);
      alone = refl;
      fresh = tt;
      lines = (omega arith, inr (record { kept = []; over = []; settled = record { of_doubt = inl refl; most = omega arith; over_is = refl }; some = three_some; lines = refl }));
    },
    (
      record {
        fits = (omega arith, omega arith);
        alone = refl;
        fresh = (omega arith, (omega arith, (omega arith, (omega arith, tt))));
        lines = record { few = omega arith; kept = three_entries; settled = record { of_doubt = inr refl; most = omega arith; over_is = refl }; lines = refl };
      },
      refl,
    ),
  ),
  refl,
)

pub dropped_and_recorded : DroppedAndRecorded
dropped_and_recorded = (
  (
    (omega arith, omega arith),
    (omega arith, inr (record { over = two_entries; settled = inl refl; some = fund_some; left = refl })),
    ((omega arith, omega arith), (omega arith, inl refl, refl), tt),
  ),
  (
    record {
      fits = (omega arith, omega arith);
      alone = refl;
      fresh = tt;
      lines = (omega arith, inr (record { kept = []; over = two_entries; settled = record { of_doubt = inl refl; most = omega arith; over_is = refl }; some = fund_some; lines = refl }));
    },
    (
      record {
        fits = (omega arith, omega arith);
        alone = refl;
        fresh = (omega arith, (omega arith, tt));
        lines = record { few = omega arith; kept = []; settled = record { of_doubt = inl refl; most = omega arith; over_is = refl }; lines = refl };
      },
      refl,
    ),
  ),
  refl,
)

pub kept_and_told : KeptAndTold
kept_and_told = (
  (
    (omega arith, omega arith),
    (omega arith, inr (record { over = two_entries; settled = inl refl; some = fund_some; left = refl })),
    ((omega arith, omega arith), (omega arith, inr refl, refl), tt),
  ),
  (
    record {
      fits = (omega arith, omega arith);
      alone = refl;
      fresh = tt;
      lines = (omega arith, inr (record { kept = []; over = two_entries; settled = record { of_doubt = inl refl; most = omega arith; over_is = refl }; some = fund_some; lines = refl }));
    },
    (
      record {
        fits = (omega arith, omega arith);
        alone = refl;
        fresh = (omega arith, (omega arith, tt));
        lines = record { few = omega arith; kept = funding 1 500 ∷ []; settled = record { of_doubt = inr refl; most = omega arith; over_is = refl }; lines = refl };
      },
      refl,
    ),
  ),
  refl,
)

pub failed_twice : FailedTwice
failed_twice = (
  (
    (omega arith, omega arith),
    (omega arith, inr (record { over = two_entries; settled = inl refl; some = fund_some; left = refl })),
    (
      (omega arith, omega arith),
      (omega arith, inl (fund_some, refl)),
      ((omega arith, omega arith), (omega arith, inr refl, refl), tt),
    ),
  ),
  (
    record {
      fits = (omega arith, omega arith);
      alone = refl;
      fresh = tt;
      lines = (omega arith, inr (record { kept = []; over = two_entries; settled = record { of_doubt = inl refl; most = omega arith; over_is = refl }; some = fund_some; lines = refl }));
    },
    (
      record {
        fits = (omega arith, omega arith);
        alone = refl;
        fresh = (omega arith, (omega arith, tt));
        lines = (omega arith, inl (record { some = fund_some; lines = refl }));
      },
      (
        record {
          fits = (omega arith, omega arith);
          alone = refl;
          fresh = (omega arith, (omega arith, (omega arith, tt)));
          lines = record { few = omega arith; kept = funding 1 500 ∷ []; settled = record { of_doubt = inr refl; most = omega arith; over_is = refl }; lines = refl };
        },
        refl,
      ),
    ),
  ),
  refl,
  refl,
)

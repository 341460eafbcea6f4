use Rattle.std.proofs.Common.{◌≡◌, ℕ, ◌+◌, ◌++◌, take}
use Rattle.std.specs.Prelude.{map, vec_capacity, vec_len}
use Rattle.nb_turns.specs.declared.mark.Mark.TheVariants.{At}
use Rattle.nb_session.proofs.answering.mark_places.Given as goal

-- the places so far are marked
abbrev pub invariant-loop-at : goal.invariant-loop-at
invariant-loop-at l = record {
  marked : l.marks.items ≡ l.fn.marks.items ++ map (λ (at : ℕ). At at) (take l.at-index l.ats);
  count : vec_len l.marks ≡ vec_len l.fn.marks + l.at-index;
  room : vec_capacity l.marks ≡ vec_capacity l.fn.marks;
}

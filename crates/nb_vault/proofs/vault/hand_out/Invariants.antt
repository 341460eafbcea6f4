use Rattle.std.proofs.Common.{◌≡◌, ◌++◌, take}
use Rattle.std.specs.Vec.{vec_capacity}
use Rattle.nb_vault.proofs.vault.hand_out.Given as goal

abbrev pub invariant-loop-at : goal.invariant-loop-at
invariant-loop-at l = record {
  items : l.ats.items ≡ l.initial.ats.items ++ take l.at-index l.places;
  room : vec_capacity l.ats ≡ vec_capacity l.initial.ats;
}

use Rattle.std.proofs.Common.{◌≡◌, ◌+◌, ◌++◌, take}
use Rattle.std.specs.Prelude.{vec_len, vec_capacity}
use Rattle.nb_seal.proofs.seals.append.Given as goal

-- the bytes so far were appended, and the vector keeps its capacity
abbrev pub invariant-loop-b : goal.invariant-loop-b
invariant-loop-b l = record {
  items : l.held.items ≡ l.initial.held.items ++ take l.b-index l.bytes;
  len : vec_len l.held ≡ vec_len l.initial.held + l.b-index;
  room : vec_capacity l.held ≡ vec_capacity l.initial.held;
}

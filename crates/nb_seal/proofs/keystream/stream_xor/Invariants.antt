use Rattle.std.proofs.Common.{◌≡◌, ◌+◌, ◌*◌, ◌/◌, ◌++◌, take, drop}
use Rattle.nb_seal.specs.Keystream.{IsAtWord, xored}
use Rattle.nb_seal.proofs.keystream.stream_xor.Given as goal

-- the words done, and what the rest becomes, are what all become
abbrev pub invariant-loop-i : goal.invariant-loop-i
invariant-loop-i l = record {
  done : take (4 * l.i) l.buf ++ xored l.key (l.first + 4 * l.i) (drop (4 * l.i) l.buf) ≡ xored l.key l.first l.initial.buf;
  at : IsAtWord l.key (l.first / 4 + l.i) l.rng;
}

use Rattle.std.proofs.Common.{◌≡◌, ◌++◌, map, take, drop, bit_xor}
use Rattle.nb_seal.proofs.mac.mark_all.Given as goal

-- the bytes done, and what the rest becomes, are what all become
abbrev pub invariant-loop-b : goal.invariant-loop-b
invariant-loop-b l = take l.b-index l.block ++ map (λ b. bit_xor b l.mark) (drop l.b-index l.block) ≡ map (λ b. bit_xor b l.mark) l.initial.block

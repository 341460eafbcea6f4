use Rattle.std.proofs.Common.{◌*◌, ◌++◌, take}
use Rattle.sha2.specs.Hashers.{Holds256}
use Rattle.nb_seal.specs.Keystream.{xored}
use Rattle.nb_goods.proofs.divided.digest_of.Given as goal

-- the chunks so far were hashed behind the iv
abbrev pub invariant-loop-i : goal.invariant-loop-i
invariant-loop-i l = Holds256 l.hasher (l.iv ++ xored l.stream 0 (take (l.i * 8192) l.goods))

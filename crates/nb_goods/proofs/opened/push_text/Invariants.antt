use Rattle.std.proofs.Common.{ℕ, List, ◌*◌, ◌++◌, take}
use Rattle.nb_seal.specs.Hmac.{MacHolds}
use Rattle.nb_seal.specs.Keystream.{xored}
use Rattle.nb_goods.proofs.opened.push_text.Given as goal

-- the chunks so far were pushed
abbrev pub invariant-loop-i : goal.invariant-loop-i
invariant-loop-i l = (key m : List ℕ) → MacHolds l.initial.mac key m → MacHolds l.mac key (m ++ xored l.stream l.from (take (l.i * 8188) l.text))

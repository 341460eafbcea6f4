use Rattle.std.proofs.Common.{◌≡◌, ◌++◌, min, take, drop, length}
use Rattle.std.specs.Prelude.{codes}
use Rattle.nb_seal.specs.Hmac.{MacHolds}
use Rattle.nb_seal.specs.Keystream.{xored}
use Rattle.nb_goods.specs.Goods.{joined}
use Rattle.nb_goods.proofs.opened.iv_behind_parts.Given as goal

-- of the parts so far all but the first 32 bytes were pushed behind the label
abbrev pub invariant-loop-part : goal.invariant-loop-part
invariant-loop-part l =
    (l.front ≡ min (length (joined (take l.part-index l.parts))) 32)
    × (l.from ≡ length (drop 32 (joined (take l.part-index l.parts))))
    × MacHolds l.mac l.key (codes "good" ++ xored l.stream 0 (drop 32 (joined (take l.part-index l.parts))))

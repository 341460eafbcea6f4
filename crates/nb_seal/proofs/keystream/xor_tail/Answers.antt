use Rattle.std.proofs.Common.{◌*◌}
use Rattle.nb_seal.proofs.Xoring.{take-xored}
use Rattle.nb_seal.proofs.keystream.xor_tail.Goals as goal

pub returns : goal.returns
returns c key word h at = rw (c.copy_from_slice-2.ensures.after, c.xor_word.ensures.value key word h at, c.copy_from_slice.ensures.after) (take-xored key (4 * word) c.args.tail.now _)

use Rattle.std.proofs.Common.{◌∙◌, length, sym, arith}
use Rattle.std.proofs.Math.Seq.{take-length}
use Rattle.nb_seal.proofs.Fronts.{front_padded}
use Rattle.nb_goods.proofs.joined.padded.Goals as goal

pub returns : goal.returns
returns c = front_padded c.args.front.now c.copy_from_slice.new.self (length c.args.front.now) (grind (arith, c.requires)) (c.copy_from_slice.ensures.after ∙ sym (take-length c.args.front.now))

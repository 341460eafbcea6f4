use Rattle.std.proofs.Common.{refl, ap, sym}
use Rattle.nb_seal.specs.Seal.{seal_of}
use Rattle.nb_seal.proofs.Opening.{opens_once}
use Rattle.nb_seal.proofs.laws.opens_to_what_was_sealed.Goals as goal

pub returns : goal.returns
returns c key label plain text =
    (λ opens. opens_once key label (seal_of key label plain) text plain opens refl, λ same. ap (seal_of key label) (sym same))

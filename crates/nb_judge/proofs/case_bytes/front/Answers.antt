use Rattle.nb_seal.proofs.Fronts.{front_padded}
use Rattle.nb_judge.proofs.case_bytes.front.Goals as goal

pub returns : goal.returns
returns c = front_padded c.args.bytes.now c.copy_from_slice.new.self c.min-n.result c.min-n.ensures (cc)

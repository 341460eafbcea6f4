use Rattle.nb_endorse.proofs.Placing.{code_is_spelled, epoid_is_spelled, key_is_spelled}
use Rattle.nb_endorse.proofs.places.receipt_is_spelled.Goals as goal

pub returns-clause-code : goal.returns-clause-code
returns-clause-code c = code_is_spelled

pub returns-clause-epoid : goal.returns-clause-epoid
returns-clause-epoid c = epoid_is_spelled

pub returns-clause-key : goal.returns-clause-key
returns-clause-key c = key_is_spelled

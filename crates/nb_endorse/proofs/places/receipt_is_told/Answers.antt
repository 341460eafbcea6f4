use Rattle.nb_endorse.proofs.Placing.{spelled_is_read, sealed_is_read}
use Rattle.nb_endorse.proofs.places.receipt_is_told.Goals as goal

pub returns-clause-spelled : goal.returns-clause-spelled
returns-clause-spelled c = spelled_is_read

pub returns-clause-sealed : goal.returns-clause-sealed
returns-clause-sealed c = sealed_is_read

use Rattle.nb_units.proofs.FieldLaws.{byte_stands}
use Rattle.nb_units.proofs.laws.byte_stands.Goals as goal

pub returns : goal.returns
returns c = byte_stands

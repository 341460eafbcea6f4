use Rattle.nb_units.proofs.FieldLaws.{raw_stands}
use Rattle.nb_units.proofs.laws.raw_stands.Goals as goal

pub returns : goal.returns
returns c = raw_stands

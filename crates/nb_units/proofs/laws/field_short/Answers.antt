use Rattle.nb_units.proofs.FieldLaws.{field_short}
use Rattle.nb_units.proofs.laws.field_short.Goals as goal

pub returns : goal.returns
returns c = field_short
